-- Octets cut into pieces of n, and joined again.
use Rattle.std.proofs.Common.{◌≡◌, ℕ, min, zero, suc, ◌+◌, ◌*◌, ◌/◌, ◌%◌, ◌<◌, ◌≤◌, List, ◌++◌, length, drop, sym, ap, ◌∙◌, mul-le-mul_right, suc-mul, zero-mul, arith}
use Rattle.std.proofs.lemmas.Bool.Decides.{nat_tests}
use Rattle.std.proofs.lemmas.Grind.{div_ceil_times}
use Rattle.octets.specs.Octets.{fitted}
use Rattle.octets.proofs.Fitted.{fitted-add, fitted-cut, fitted-filled}
use Rattle.std.proofs.lemmas.List.{length-drop}
use Rattle.isdu.specs.Pieces.{Pieced, first_pieces, piece_at, piece_count}

-- Rounded up: the pieces hold the octets, and one piece fewer does not.
record Rounded (n count k : ℕ) : Type 0 where
  holds : count ≤ k * n
  least : (i : ℕ) → i < k → i * n < count

rounded : (n count : ℕ) → 0 < n → Rounded n count (piece_count n count)
rounded n count some =
    let e : piece_count n count ≡ count / n + min 1 (count % n) = grind (arith, nat_tests) in
    let t = div_ceil_times count n some in
    rw e (record { holds = t.0; least = λ i l. omega (arith, t.1, mul-le-mul_right n l, suc-mul i n) })

-- the first pieces are the octets up to them, filled up
pub first_pieces-fitted : (n k : ℕ) (os : List ℕ) → first_pieces n k os ≡ fitted (k * n) os
first_pieces-fitted n zero os = rw (zero-mul n)
first_pieces-fitted n (suc k) os =
    rw (suc-mul k n) (ap (λ (l : List ℕ). l ++ piece_at n k os) (first_pieces-fitted n k os) ∙ sym (fitted-add (k * n) n os))

module _ (n : ℕ) (os : List ℕ) (some : 0 < n) where
  begun : (i : ℕ) → i < piece_count n (length os) → i * n < length os
  begun = (rounded n (length os) some).least

  pub pieced : Pieced n (piece_count n (length os)) os
  pieced =
      record {
        joined = first_pieces-fitted n (piece_count n (length os)) os ∙ fitted-filled (piece_count n (length os) * n) os (rounded n (length os) some).holds;
        full = λ i l. fitted-cut n (drop (i * n) os) (omega (arith, length-drop (i * n) os, begun (suc i) l, suc-mul i n));
        begun = begun;
      }
