-- Numbers: decimal, or hexadecimal after `0x`; and flags.
use Rattle.std.specs.Prelude.{ℕ, ◌+◌, ◌*◌, Bool, true, false, cond, ◌&&◌, List, [], ◌∷◌, length, drop, Some, None, Option, ◌==◌, nat_le, nat_lt, slice_index}
use Rattle.text.specs.Digit.{digit}

abbrev pub below : ℕ → Option ℕ → Option ℕ
below radix None = None
below radix (Some d) = cond (nat_lt d radix) (Some d) None

-- A number and one more digit of a radix.
abbrev pub on : ℕ → ℕ → Option ℕ → Option ℕ
on radix n None = None
on radix n (Some d) = Some (n * radix + d)

abbrev pub with : ℕ → Option ℕ → ℕ → Option ℕ
with radix None b = None
with radix (Some n) b = on radix n (below radix (digit b))

-- The number of digits that follow those of a number so far.
abbrev pub value_after : ℕ → Option ℕ → List ℕ → Option ℕ
value_after radix n [] = n
value_after radix n (b ∷ bs) = value_after radix (with radix n b) bs

-- A number has at least one digit.
abbrev pub value : ℕ → List ℕ → Option ℕ
value radix text = cond (length text == 0) None (value_after radix (Some 0) text)

abbrev pub is_hex : List ℕ → Bool
is_hex text = nat_le 2 (length text) && (slice_index text 0 == 48 && slice_index text 1 == 120)

abbrev pub read_number : List ℕ → Option ℕ
read_number text = cond (is_hex text) (value 16 (drop 2 text)) (value 10 text)

-- 0 or 1.
abbrev pub read_flag : List ℕ → Option Bool
read_flag text = cond (length text == 1) (cond (slice_index text 0 == 48) (Some false) (cond (slice_index text 0 == 49) (Some true) None)) None
