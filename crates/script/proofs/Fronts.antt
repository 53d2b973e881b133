-- A text before and from the first byte that passes a test, as `position` finds its place.
use Rattle.std.proofs.Common.{◌≡◌, ℕ, suc, ◌+◌, Bool, true, false, cond, not, List, [], ◌∷◌, length, take, drop, Option, Bor, Iter, refl, ap, ◌∙◌, arith}
use denote.Param.Members.{Mut}
use Rattle.std.specs.Fn.{Called}
use Rattle.std.specs.Iterator.{FindsPosition}
use Rattle.std.specs.List.{position, position_or_len}
use Rattle.std.specs.Option.{unwrap_or}
use Rattle.std.specs.Slice.Iter.{iter_rest}
use Rattle.std.proofs.lemmas.Fn.{fronts}
use Rattle.std.proofs.lemmas.Grind.{common_steps}
use Rattle.std.proofs.lemmas.Iterator.{YieldsList-from_slice}
use Rattle.std.proofs.lemmas.Iterator.Search.{position_from_yields_List}
use Rattle.std.proofs.lemmas.List.Sums.{prefix_len-le-length}
use Rattle.script.specs.Words.{onward, up_to}

take-first : (passes : Bool) (n x : ℕ) (xs : List ℕ) → take (cond (not passes) (1 + n) 0) (x ∷ xs) ≡ cond passes [] (x ∷ take n xs)
take-first true n x xs = refl
take-first false n x xs = let e : 1 + n ≡ suc n = omega arith in ap (λ k. take k (x ∷ xs)) e

drop-first : (passes : Bool) (n x : ℕ) (xs : List ℕ) → drop (cond (not passes) (1 + n) 0) (x ∷ xs) ≡ cond passes (x ∷ xs) (drop n xs)
drop-first true n x xs = refl
drop-first false n x xs = let e : 1 + n ≡ suc n = omega arith in ap (λ k. drop k (x ∷ xs)) e

module _ (p : ℕ → Bool) where
  take-position : (xs : List ℕ) → take (position_or_len p xs) xs ≡ up_to p xs
  take-position [] = refl
  take-position (x ∷ xs) = rw (← take-position xs) (take-first (p x) _ x xs)

  drop-position : (xs : List ℕ) → drop (position_or_len p xs) xs ≡ onward p xs
  drop-position [] = refl
  drop-position (x ∷ xs) = rw (← drop-position xs) (drop-first (p x) _ x xs)

  position-or_length : (xs : List ℕ) → unwrap_or (position p xs) (length xs) ≡ position_or_len p xs
  position-or_length xs = grind (arith, common_steps, prefix_len-le-length (λ x. not (p x)) xs)

-- what stands before a place and from there on, or where there is none, all and nothing
pub record IsCutAt (place : Option ℕ) (p : ℕ → Bool) (text : List ℕ) : Type 0 where
  pub front : take (unwrap_or place (length text)) text ≡ up_to p text
  pub back : drop (unwrap_or place (length text)) text ≡ onward p text

pub IsCutAt-from_position : {F : Type 0} {g : Mut F (Bor ℕ × Unit {0}) Bool} {s u : Iter ℕ} {f : F} {place : Option ℕ} (p : ℕ → Bool) (text : List ℕ) → FindsPosition fronts g s f place u → iter_rest s ≡ text → ((x : Bor ℕ) (b : Bool) (q : F) → Called g f (x, tt) b q → (q ≡ f) × (b ≡ p x.now)) → IsCutAt place p text
IsCutAt-from_position p text ran all computes =
    let found = position_from_yields_List p _ _ _ ran (YieldsList-from_slice text all) computes in
    let place = ap (λ r. unwrap_or r (length text)) found ∙ position-or_length p text in
    record {
      front = ap (λ n. take n text) place ∙ take-position p text;
      back = ap (λ n. drop n text) place ∙ drop-position p text;
    }
