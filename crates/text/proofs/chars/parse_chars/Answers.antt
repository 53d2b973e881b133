-- The characters with a `.` behind them, and the last, are those of the word.
use Rattle.std.proofs.Common.{ℕ, ◌∷◌, List, Some, is_ok, sym, ap, ◌∙◌, arith, rules, subst, ⊎_elim}
use Rattle.std.proofs.ResultArms.{chosen}
use Rattle.std.proofs.lemmas.Bool.{ltb-true, ltb-false}
use Rattle.std.proofs.lemmas.Iterator.{YieldsList-from_slice, YieldsList-from_map}
use Rattle.std.proofs.lemmas.Result.{err_from_is_err_and, MatchResult-at_err, MatchResult-at_ok}
use Rattle.text.proofs.Dots.{ends-in, four, no-group, no-last, plain-chars, uneven-none}
use Rattle.text.proofs.Reading.{collected, judged}
use Rattle.text.specs.Why.{WhyNoChars}
use Rattle.text.specs.declared.flaw.Flaw.TheVariants.{NoCharacters}
use Rattle.text.proofs.chars.parse_chars.Goals as goal
use Rattle.text.proofs.chars.parse_chars.Goals.{in_default-via-then-as_chunks-lt3, in_default-via-else-as_chunks-lt3+else-this-lt4}

pub returns-in_default : goal.returns-in_default
returns-in_default c =
    plain-chars c.args.word.now _ c.if-is_dash.ensures
    (uneven-none (46 ∷ c.args.word.now) (elim c.in_default.branch [ in_default-via-then-as_chunks-lt3 w ↦ (λ e. omega (arith, ltb-true)) | in_default-via-else-as_chunks-lt3+else-this-lt4 w ↦ (λ e. omega (arith, ltb-false)) ]))

pub returns-in_err-characters : goal.returns-in_err-characters
returns-in_err-characters c =
    let word : List ℕ = c.args.word.now in
    let groups : List (List ℕ) = c.as_chunks.result.0.now in
    let read = collected four NoCharacters groups _ c.try_collect.result c.try_collect.ensures.ran c.try_collect.ensures.err (YieldsList-from_map _ (judged four NoCharacters) (YieldsList-from_slice groups cc) c.map.ensures.closure (λ x r q k. search rules)) in
    let p = err_from_is_err_and c.from_residual.result c.from_residual.ensures.1 in
    let why : WhyNoChars word c.in_err-characters.field-0.0 =
    ⊎_elim
    (λ full. subst (WhyNoChars word) (sym full.1) tt)
    (λ none. subst (WhyNoChars word) (sym none.0) (plain-chars word _ c.if-is_dash.ensures (no-group word groups (omega arith) c.as_chunks.ensures.front none.1)))
    (MatchResult-at_err _ _ _ c.in_err-characters.was read) in
    rw (p.1, p.2) why

pub returns-in_default-three_digits : goal.returns-in_default-three_digits
returns-in_default-three_digits c = plain-chars c.args.word.now _ c.if-is_dash.ensures (no-last c.args.word.now _ (omega arith) c.as_chunks.ensures.back c.in_default-three_digits.ensures)

pub returns : goal.returns
returns c =
    let groups : List (List ℕ) = c.as_chunks.result.0.now in
    let read = collected four NoCharacters groups _ c.try_collect.result c.try_collect.ensures.ran c.try_collect.ensures.err (YieldsList-from_map _ (judged four NoCharacters) (YieldsList-from_slice groups cc) c.map.ensures.closure (λ x r q k. search rules)) in
    plain-chars c.args.word.now _ c.if-is_dash.ensures
    (ends-in c.args.word.now groups _ _ _ (omega arith) c.as_chunks.ensures.front c.as_chunks.ensures.back (MatchResult-at_ok _ _ _ c.in_ok-characters.was read) c.in-Some.ensures)
    ∙ ap (λ (l : List ℕ). Some l) (sym (chosen _ _ _ _ c.push.ensures.items (ap is_ok c.in_ok-push.was)))
