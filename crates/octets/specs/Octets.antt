-- Octets of a given count.
use Rattle.std.specs.Prelude.{ℕ, zero, suc, List, [], ◌∷◌}

-- The first n octets of a list, filled up with 00.
abbrev pub fitted : ℕ → List ℕ → List ℕ
fitted zero os = []
fitted (suc n) [] = 0 ∷ fitted n []
fitted (suc n) (o ∷ os) = o ∷ fitted n os
