-- The texts of octets and of characters: what a text is read as, and what is written.
use Rattle.std.specs.Prelude.{ℕ, ◌+◌, ◌*◌, ◌/◌, ◌%◌, Bool, cond, ◌&&◌, List, [], ◌∷◌, ◌++◌, length, Some, None, Option, ◌==◌, slice_index}
use Rattle.text.specs.Digit.{digit, glyph}
use Rattle.std.specs.List.{flat_map}

-- One more digit at the end of a number.
abbrev pub more : Option ℕ → Option ℕ → Option ℕ
more None d = None
more (Some n) None = None
more (Some n) (Some d) = Some (16 * n + d)

-- One more element in front of a list.
abbrev pub before : Option ℕ → Option (List ℕ) → Option (List ℕ)
before None xs = None
before (Some x) None = None
before (Some x) (Some xs) = Some (x ∷ xs)

-- `-` alone, the text of nothing.
abbrev pub is_dash : List ℕ → Bool
is_dash text = length text == 1 && slice_index text 0 == 45

-- ---- HEX: two digits for each octet

abbrev pub octets_in : List ℕ → Option (List ℕ)
octets_in [] = Some []
octets_in (a ∷ []) = None
octets_in (a ∷ b ∷ rest) = before (more (digit a) (digit b)) (octets_in rest)

abbrev pub read_hex : List ℕ → Option (List ℕ)
read_hex text = cond (is_dash text) (Some []) (octets_in text)

abbrev pub two_digits : ℕ → List ℕ
two_digits o = glyph (o / 16) ∷ glyph (o % 16) ∷ []

abbrev pub hex_text : List ℕ → List ℕ
hex_text [] = 45 ∷ []
hex_text (o ∷ os) = flat_map two_digits (o ∷ os)

-- ---- CHARS: three digits for each character, and a `.` between two

-- A character that follows a `.`.
abbrev pub dotted_one : ℕ → ℕ → ℕ → ℕ → Option ℕ
dotted_one p a b c = cond (p == 46) (more (more (digit a) (digit b)) (digit c)) None

abbrev pub dotted : List ℕ → Option (List ℕ)
dotted [] = Some []
dotted (p ∷ []) = None
dotted (p ∷ a ∷ []) = None
dotted (p ∷ a ∷ b ∷ []) = None
dotted (p ∷ a ∷ b ∷ c ∷ rest) = before (dotted_one p a b c) (dotted rest)

-- The first character follows no `.`.
abbrev pub read_chars : List ℕ → Option (List ℕ)
read_chars text = cond (is_dash text) (Some []) (dotted (46 ∷ text))

abbrev pub three_digits : ℕ → List ℕ
three_digits c = glyph (c / 256 % 16) ∷ glyph (c / 16 % 16) ∷ glyph (c % 16) ∷ []

abbrev pub dot_three : ℕ → List ℕ
dot_three c = 46 ∷ three_digits c

abbrev pub chars_text : List ℕ → List ℕ
chars_text [] = 45 ∷ []
chars_text (c ∷ cs) = three_digits c ++ flat_map dot_three cs
