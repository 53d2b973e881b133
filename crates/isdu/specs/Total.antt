-- The total of an ISDU, from the first octets so far.
use Rattle.std.specs.Prelude.{◌≡◌, ℕ, ◌%◌, ◌<◌, cond, ◌&&◌, ◌⊎◌, List, [], ◌∷◌, Ok, Err, Result, ◌==◌, nat_le}
use Rattle.isdu.specs.declared.total.NoTotal.{NoTotal}
use Rattle.isdu.specs.declared.total.NoTotal.TheVariants.{Unknown, Bad}

-- The second octet is the total where the Length is 1: 17 to 238.
abbrev pub extended : List ℕ → Result ℕ NoTotal
extended [] = Err Unknown
extended (second ∷ rest) = cond (nat_le 17 second && nat_le second 238) (Ok second) (Err Bad)

-- The Length, in bits 0 to 3 of the first octet, is the total from 2 to 15; no ISDU has the Length 0.
abbrev pub total_of : List ℕ → Result ℕ NoTotal
total_of [] = Err Unknown
total_of (first ∷ rest) = cond (first % 16 == 0) (Err Bad) (cond (first % 16 == 1) (extended rest) (Ok (first % 16)))

-- The first k octets of an ISDU of t octets: before the second its total may not be known yet, and it is never another.
abbrev pub TotalSoFar : List ℕ → ℕ → ℕ → Type 0
TotalSoFar os k t = ((total_of os ≡ Err Unknown) × (k < 2)) ⊎ (total_of os ≡ Ok t)
