-- The octets of the pairs are those of the word.
use Rattle.std.proofs.Common.{◌≡◌, ℕ, ◌*◌, ◌/◌, List, length, sym, ap, ◌∙◌, arith, rules, subst, ⊎_elim}
use Rattle.std.specs.Simd.{first_chunks}
use Rattle.std.proofs.lemmas.Iterator.{YieldsList-from_slice, YieldsList-from_map}
use Rattle.std.proofs.lemmas.Result.{MatchResult-weaker}
use Rattle.text.proofs.Hexes.{by-pairs, octet, odd-none, plain-hex}
use Rattle.text.proofs.Reading.{read_each, judged, collected}
use Rattle.text.specs.Text.{octets_in}
use Rattle.text.specs.Why.{WhyNoHex}
use Rattle.text.specs.declared.flaw.Flaw.TheVariants.{NoDigit}
use Rattle.text.proofs.hex.parse_hex.Goals as goal

pub returns-in_default : goal.returns-in_default
returns-in_default c = (plain-hex c.args.word.now _ c.if-is_dash.ensures (odd-none c.args.word.now (omega arith)), omega arith)

whole : (word : List ℕ) (pairs : List (List ℕ)) → length word ≡ 2 * (length word / 2) → pairs ≡ first_chunks 2 (length word / 2) word → octets_in word ≡ read_each octet pairs
whole word pairs even e = by-pairs (length word / 2) word even ∙ ap (read_each octet) (sym e)

pub returns : goal.returns
returns c =
    let word : List ℕ = c.args.word.now in
    let pairs : List (List ℕ) = c.as_chunks.result.0.now in
    let octets = whole word pairs (omega arith) c.as_chunks.ensures.front in
    MatchResult-weaker c.try_collect.result
    (collected octet NoDigit pairs _ c.try_collect.result c.try_collect.ensures.ran c.try_collect.ensures.err (YieldsList-from_map _ (judged octet NoDigit) (YieldsList-from_slice pairs cc) c.map.ensures.closure (λ x r q k. search rules)))
    (λ v read. plain-hex word _ c.if-is_dash.ensures (octets ∙ read))
    (λ e. ⊎_elim
    (λ full. subst (WhyNoHex word) (sym full.1) tt)
    (λ none. subst (WhyNoHex word) (sym none.0) (plain-hex word _ c.if-is_dash.ensures (octets ∙ none.1), omega arith)))
