-- The memory of a row: the elements that it holds, and a filling after them.
use Rattle.std.specs.Prelude.{◌≡◌, ℕ, ◌-◌, ◌≤◌, List, ◌++◌, length, take, drop, replicate}
use Rattle.std.proofs.Common.{ap, ◌∙◌, sym, arith, take-append-drop, length-take-le}

pub record IsRow {A : Type 0} (fill : A) (n len : ℕ) (items : List A) : Type 0 where
  pub full : length items ≡ n
  pub room : len ≤ n
  pub filled : drop len items ≡ replicate (n - len) fill

-- the elements and the filling are the whole memory
pub filled-take : {A : Type 0} (fill : A) (n len : ℕ) (items : List A) → IsRow fill n len items
    → take len items ++ replicate (n - length (take len items)) fill ≡ items
filled-take fill n len items is =
    let l : length (take len items) ≡ len = length-take-le len items (omega (arith, is.full, is.room)) in
    ap (λ k. take len items ++ replicate (n - k) fill) l ∙ ap (λ xs. take len items ++ xs) (sym is.filled) ∙ take-append-drop len items
