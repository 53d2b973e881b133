-- The pieces of n octets in which a string of octets crosses the line.
use Rattle.std.specs.Prelude.{◌≡◌, ℕ, zero, suc, ◌+◌, ◌-◌, ◌*◌, ◌/◌, ◌%◌, ◌<◌, cond, List, [], ◌++◌, length, take, drop, replicate, ◌==◌}
use Rattle.octets.specs.Octets.{fitted}

-- The count of octets divided by n, rounded up; pieces of no octets carry none.
abbrev pub piece_count : ℕ → ℕ → ℕ
piece_count n count = cond (n == 0) 0 (count / n + cond (count % n == 0) 0 1)

-- The i-th piece, from 0, filled up with 00.
abbrev pub piece_at : ℕ → ℕ → List ℕ → List ℕ
piece_at n i os = fitted n (drop (i * n) os)

-- The first k pieces, one after the other.
abbrev pub first_pieces : ℕ → ℕ → List ℕ → List ℕ
first_pieces n zero os = []
first_pieces n (suc k) os = first_pieces n k os ++ piece_at n k os

-- k pieces carry the octets: joined they are the octets with the filling, every piece but the last is full, and none is all filling.
pub record Pieced (n k : ℕ) (os : List ℕ) : Type 0 where
  pub joined : first_pieces n k os ≡ os ++ replicate (k * n - length os) 0
  pub full : (i : ℕ) → suc i < k → piece_at n i os ≡ take n (drop (i * n) os)
  pub begun : (i : ℕ) → i < k → i * n < length os
