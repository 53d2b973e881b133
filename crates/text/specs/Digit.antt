-- Hexadecimal digits: what each stands for, and how each value is written.
use Rattle.std.specs.Prelude.{ℕ, ◌+◌, ◌-◌, cond, ◌&&◌, Some, None, Option, nat_le, nat_lt}

-- The value of a digit, by its ASCII code: 0 to 9, A to F, a to f.
abbrev pub digit : ℕ → Option ℕ
digit b = cond (nat_le 48 b && nat_le b 57) (Some (b - 48)) (cond (nat_le 65 b && nat_le b 70) (Some (b - 55)) (cond (nat_le 97 b && nat_le b 102) (Some (b - 87)) None))

-- The digit of a value below 16, in upper case.
abbrev pub glyph : ℕ → ℕ
glyph d = cond (nat_lt d 10) (48 + d) (55 + d)
