-- The check of a message, over its octets; the octet at place k carries it in bits 0 to 5.
use Rattle.std.specs.Prelude.{ℕ, ◌+◌, ◌*◌, ◌%◌, List, [], ◌∷◌, fold as folded, bit_and, bit_xor, count_ones, slice_index, slice_set}

-- The masks by the number of the check's bit, 0 to 5.
abbrev pub masks : List ℕ
masks = 0x03 ∷ 0x0c ∷ 0x30 ∷ 0xc0 ∷ 0x55 ∷ 0xaa ∷ []

-- A bit of the check is 1 where the fold has an odd count of ones under its mask.
abbrev pub check_bit : ℕ → ℕ → ℕ
check_bit fold b = count_ones (bit_and fold (slice_index masks b)) % 2

abbrev pub six_bits : ℕ → ℕ
six_bits fold = check_bit fold 5 * 32 + check_bit fold 4 * 16 + check_bit fold 3 * 8 + check_bit fold 2 * 4 + check_bit fold 1 * 2 + check_bit fold 0

-- The octet that carries the check enters with bits 0 to 5 cleared.
abbrev pub cleared : ℕ → List ℕ → List ℕ
cleared k os = slice_set os k (bit_and (slice_index os k) 0xc0)

-- 0x52 and every octet by exclusive or.
abbrev pub fold_at : ℕ → List ℕ → ℕ
fold_at k os = folded bit_xor 0x52 (cleared k os)

abbrev pub check_at : ℕ → List ℕ → ℕ
check_at k os = six_bits (fold_at k os)
