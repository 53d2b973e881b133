-- Characters: an octet in bits 0 to 7, and a bit 8 that makes the count of ones among the nine even.
use Rattle.std.specs.Prelude.{◌≡◌, ℕ, ◌+◌, ◌*◌, ◌%◌, ◌<◌, cond, Bool, not, List, length, Some, None, Option, ◌==◌, count_ones, nat_lt}
use Rattle.std.specs.List.{position_from}
use Rattle.octets.specs.Below.{all_below}

-- The character of an octet, and the octet of a character.
abbrev pub character : ℕ → ℕ
character o = o + 256 * (count_ones o % 2)

abbrev pub octet : ℕ → ℕ
octet c = c % 256

-- A right character: nine bits, an even count of them 1.
abbrev pub Char : ℕ → Type 0
Char c = (c < 512) × (count_ones c % 2 ≡ 0)

abbrev pub is_odd : ℕ → Bool
is_odd c = not (count_ones c % 2 == 0)

-- The place of the first character with an odd count of ones, counted from i.
abbrev pub odd_from : ℕ → List ℕ → Option ℕ
odd_from i cs = position_from is_odd i cs

-- ---- a record of characters

-- The refusal of a load, by its number: over 66 characters first, then a number above 511.
abbrev pub load_refusal : List ℕ → Option ℕ
load_refusal cs = cond (nat_lt 66 (length cs)) (Some 1) (cond (all_below 512 cs) None (Some 2))
