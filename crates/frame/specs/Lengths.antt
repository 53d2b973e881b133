-- The lengths that a line can have.
use Rattle.std.specs.Prelude.{ℕ, ◌+◌, Bool, ◌&&◌, ◌||◌, ◌==◌, nat_le, nat_lt}

-- n on-request octets, p octets of process data in and q out: n is 1, 2, 8 or 32, p and q are at most 32, and not both are 0.
abbrev pub lengths_fit : ℕ → ℕ → ℕ → Bool
lengths_fit n p q = (n == 1 || n == 2 || n == 8 || n == 32) && nat_le p 32 && nat_le q 32 && nat_lt 0 (p + q)
