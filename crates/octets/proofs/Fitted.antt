-- Octets of a given count.
use Rattle.std.proofs.Common.{◌≡◌, ℕ, zero, suc, ◌+◌, ◌-◌, ◌≤◌, List, [], ◌∷◌, ◌++◌, length, take, drop, replicate, refl, ap, ◌∙◌, suc-add, zero-add, arith}
use native.Mathlib.Nat.{sub-zero}
use Rattle.octets.specs.Octets.{fitted}

pub length-fitted : (n : ℕ) (os : List ℕ) → length (fitted n os) ≡ n
length-fitted zero os = refl
length-fitted (suc n) [] = ap suc (length-fitted n [])
length-fitted (suc n) (o ∷ os) = ap suc (length-fitted n os)

-- octets of the right count are as they are
pub fitted-exact : (n : ℕ) (os : List ℕ) → length os ≡ n → fitted n os ≡ os
fitted-exact zero [] l = refl
fitted-exact zero (o ∷ os) l = absurd (let z : ⊥ = omega arith in z)
fitted-exact (suc n) [] l = absurd (let z : ⊥ = omega arith in z)
fitted-exact (suc n) (o ∷ os) l = ap (λ (xs : List ℕ). o ∷ xs) (fitted-exact n os (omega arith))

drop-none : (n : ℕ) → drop {A = ℕ} n [] ≡ []
drop-none zero = refl
drop-none (suc n) = refl

-- octets of a count are those of a smaller count and what follows
pub fitted-add : (m n : ℕ) (os : List ℕ) → fitted (m + n) os ≡ fitted m os ++ fitted n (drop m os)
fitted-add zero n os = rw (zero-add n)
fitted-add (suc m) n [] = rw (suc-add m n) (ap (λ (l : List ℕ). 0 ∷ l) (fitted-add m n [] ∙ ap (λ (l : List ℕ). fitted m [] ++ fitted n l) (drop-none m)))
fitted-add (suc m) n (o ∷ os) = rw (suc-add m n) (ap (λ (l : List ℕ). o ∷ l) (fitted-add m n os))

-- too few octets are filled up
pub fitted-filled : (n : ℕ) (os : List ℕ) → length os ≤ n → fitted n os ≡ os ++ replicate (n - length os) 0
fitted-filled zero [] l = refl
fitted-filled zero (o ∷ os) l = absurd (let z : ⊥ = omega arith in z)
fitted-filled (suc n) [] l =
    rw (sub-zero (suc n)) (ap (λ (xs : List ℕ). 0 ∷ xs) (fitted-filled n [] (omega arith) ∙ ap (λ (k : ℕ). replicate k 0) (sub-zero n)))
fitted-filled (suc n) (o ∷ os) l =
    let k : suc n - suc (length os) ≡ n - length os = omega arith in
    rw k (ap (λ (xs : List ℕ). o ∷ xs) (fitted-filled n os (omega arith)))

-- enough octets are cut
pub fitted-cut : (n : ℕ) (os : List ℕ) → n ≤ length os → fitted n os ≡ take n os
fitted-cut zero os l = refl
fitted-cut (suc n) [] l = absurd (let z : ⊥ = omega arith in z)
fitted-cut (suc n) (o ∷ os) l = ap (λ (xs : List ℕ). o ∷ xs) (fitted-cut n os (omega arith))

-- octets of a count are those that there are, cut, and a filling
pub fitted-take : (n : ℕ) (os : List ℕ) → fitted n os ≡ take n os ++ replicate (n - length os) 0
fitted-take zero os = rw (let k : 0 - length os ≡ 0 = omega arith in k)
fitted-take (suc n) [] = rw (sub-zero (suc n)) (ap (λ (xs : List ℕ). 0 ∷ xs) (fitted-filled n [] (omega arith) ∙ ap (λ (k : ℕ). replicate k 0) (sub-zero n)))
fitted-take (suc n) (o ∷ os) =
    let k : suc n - suc (length os) ≡ n - length os = omega arith in
    rw k (ap (λ (xs : List ℕ). o ∷ xs) (fitted-take n os))
