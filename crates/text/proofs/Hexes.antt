-- Reading HEX pair by pair.
use Rattle.std.proofs.Common.{◌≡◌, ℕ, zero, suc, ◌+◌, ◌*◌, ◌/◌, ◌%◌, ◌<◌, false, cond, List, [], ◌∷◌, length, get_or, Some, None, Option, sym, refl, ap, ◌∙◌, arith}
use Rattle.std.specs.List.{flat_map}
use Rattle.std.specs.Simd.{first_chunks}
use Rattle.text.proofs.Glyphs.{digit_glyph}
use Rattle.text.proofs.Reading.{before-none, long-no-dash, read_each}
use Rattle.text.specs.Digit.{digit, glyph}
use Rattle.text.specs.Text.{before, hex_text, is_dash, more, octets_in, read_hex, two_digits}

-- the octet of a pair
abbrev pub octet : List ℕ → Option ℕ
octet pair = more (digit (get_or pair 0 0)) (digit (get_or pair 1 0))

pub by-pairs : (k : ℕ) (text : List ℕ) → length text ≡ 2 * k → octets_in text ≡ read_each octet (first_chunks 2 k text)
by-pairs zero [] e = refl
by-pairs zero (a ∷ text) e = absurd (omega arith)
by-pairs (suc k) [] e = absurd (omega arith)
by-pairs (suc k) (a ∷ []) e = absurd (omega arith)
by-pairs (suc k) (a ∷ b ∷ text) e = ap (before (more (digit a) (digit b))) (by-pairs k text (omega arith))

pub odd-none : (xs : List ℕ) → length xs % 2 ≡ 1 → octets_in xs ≡ None
odd-none [] h = absurd (omega arith)
odd-none (a ∷ []) h = refl
odd-none (a ∷ b ∷ xs) h = ap (before _) (odd-none xs (omega arith)) ∙ before-none _

pub plain-hex : (text : List ℕ) (o : Option (List ℕ)) → false ≡ is_dash text → octets_in text ≡ o → read_hex text ≡ o
plain-hex text o d e = ap (λ b. cond b (Some []) (octets_in text)) (sym d) ∙ e

-- an octet's digits are read as the octet
two_back : (o : ℕ) → o < 256 → more (digit (glyph (o / 16))) (digit (glyph (o % 16))) ≡ Some o
two_back o h =
    (λ k. more (digit_glyph (o / 16) (omega arith) k) (digit_glyph (o % 16) (omega arith) k))
    ∙ ap (λ (n : ℕ). Some n) (let e : 16 * (o / 16) + o % 16 ≡ o = omega arith in e)

octets-back : (os : List ℕ) → ((i : ℕ) → get_or os i 0 < 256) → octets_in (flat_map two_digits os) ≡ Some os
octets-back [] h = refl
octets-back (o ∷ os) h = (λ k. before (two_back o (h 0) k) (octets-back os (λ i. h (suc i)) k))

-- what is written of octets is read as them
pub hex_back : (os : List ℕ) → ((i : ℕ) → get_or os i 0 < 256) → read_hex (hex_text os) ≡ Some os
hex_back [] h = refl
hex_back (o ∷ os) h = plain-hex (flat_map two_digits (o ∷ os)) _ (long-no-dash (glyph (o / 16)) (glyph (o % 16)) (flat_map two_digits os)) (octets-back (o ∷ os) h)
