-- A word that is read group by group.
use Rattle.std.proofs.Common.{◌≡◌, ℕ, zero, suc, ◌+◌, ◌≤◌, false, eqb, List, [], ◌∷◌, ◌++◌, length, take, map, Some, None, Ok, Err, Option, Result, Vec, vec_items, vec_len, vec_capacity, sym, ap, ◌∙◌, append_assoc, append-nil, arith, ne_eqb, refl, subst, IfOk, IfErr, MatchResult, ◌⊎◌, ⊎_elim, inl, inr}
use Rattle.std.proofs.lemmas.Iterator.{YieldsList}
use Rattle.std.proofs.lemmas.Iterator.Consumers.{Pushes, YieldsList-so_far, YieldsList-end}
use Rattle.std.proofs.lemmas.List.{map-id}
use Rattle.std.specs.Iterator.{TryCollects, Yields}
use Rattle.std.specs.Iterator.Runs.{EndsAtFirstErr, SomeRun, YieldsRun}
use Rattle.std.specs.List.{FoldsTo, slice_get}
use Rattle.std.specs.Option.{IsSomeAnd, ok_or}
use Rattle.text.specs.Text.{before, is_dash}

-- a list in front of what is read
abbrev pub onto : List ℕ → Option (List ℕ) → Option (List ℕ)
onto xs None = None
onto xs (Some ys) = Some (xs ++ ys)

onto-nil : (o : Option (List ℕ)) → o ≡ onto [] o
onto-nil None = refl
onto-nil (Some ys) = refl

onto-more : (xs : List ℕ) (n : ℕ) (o : Option (List ℕ)) → onto xs (before (Some n) o) ≡ onto (xs ++ n ∷ []) o
onto-more xs n None = refl
onto-more xs n (Some ys) = ap (λ (l : List ℕ). Some l) (sym (append_assoc xs (n ∷ []) ys))

pub before-none : (n : Option ℕ) → before n None ≡ None
before-none None = refl
before-none (Some x) = refl

-- the values of all groups, if each has one
abbrev pub read_each : (List ℕ → Option ℕ) → List (List ℕ) → Option (List ℕ)
read_each f [] = Some []
read_each f (g ∷ gs) = before (f g) (read_each f gs)

-- `-` alone is no longer text
pub long-no-dash : (a b : ℕ) (rest : List ℕ) → false ≡ is_dash (a ∷ b ∷ rest)
long-no-dash a b rest = let e : eqb (length (a ∷ b ∷ rest)) 1 ≡ false = ne_eqb (length (a ∷ b ∷ rest)) 1 (omega arith) in rw e

module _ {E : Type 0} (f : List ℕ → Option ℕ) (bad : E) where
  -- the value of a group, or the error that it has none
  abbrev pub judged : List ℕ → Result ℕ E
  judged g = ok_or (f g) bad

  bad-at : (e : E) (gs : List (List ℕ)) (n i : ℕ) → slice_get (take n (map judged gs)) i ≡ Some (Err e) → (e ≡ bad) × (read_each f gs ≡ None)
  bad-at e [] zero i at = cc
  bad-at e [] (suc n) i at = cc
  bad-at e (g ∷ gs) zero i at = cc
  bad-at e (g ∷ gs) (suc n) zero at = go (f g) at
    where
      go : (o : Option ℕ) → ◌≡◌ {A = Option (Result ℕ E)} (Some (ok_or o bad)) (Some (Err e)) → (e ≡ bad) × (before o (read_each f gs) ≡ None)
      go None h = (cc, refl)
      go (Some y) h = cc
  bad-at e (g ∷ gs) (suc n) (suc i) at = let rest = bad-at e gs n i at in (rest.0, ap (before (f g)) rest.1 ∙ before-none (f g))

  abbrev Pushed : {Z : Type 0} → Vec ℕ Z → Result ℕ E → Vec ℕ Z → Type 0
  Pushed v r w = (y : ℕ) × (Ok y ≡ r) × Pushes v y w

  pushed-all : {Z : Type 0} (gs : List (List ℕ)) (v w : Vec ℕ Z) → FoldsTo Pushed v (map judged gs) w → onto (vec_items v) (read_each f gs) ≡ Some (vec_items w)
  pushed-all [] v w e = ap (λ (l : List ℕ). Some l) (append-nil (vec_items v)) ∙ ap (λ (u : Vec ℕ _). Some (vec_items u)) e
  pushed-all (g ∷ gs) v w e = go (f g) e.1 (pushed-all gs e.0 w e.2)
    where
      go : (o : Option ℕ) → Pushed v (ok_or o bad) e.0 → onto (vec_items e.0) (read_each f gs) ≡ Some (vec_items w) → onto (vec_items v) (before o (read_each f gs)) ≡ Some (vec_items w)
      go None p rest = cc p.1
      go (Some n) p rest =
          let same : n ≡ p.0 = cc p.1 in
          onto-more (vec_items v) n _ ∙ ap (λ (l : List ℕ). onto l (read_each f gs)) (ap (λ k. vec_items v ++ k ∷ []) same ∙ sym p.2.0) ∙ rest

  abbrev AllPushed : {S Z : Type 0} → (S → Option (Result ℕ E) → S → Type 0) → S → Vec ℕ Z → Type 0
  AllPushed steps = TryCollects steps (λ x r. r ≡ x) (λ xs w. (vec_items w ≡ xs) × (vec_len w ≡ length xs)) (λ u xs w. (vec_items w ≡ vec_items u ++ xs) × (vec_len w ≡ vec_len u + length xs) × (vec_capacity u ≤ vec_capacity w))

  module _ {S : Type 0} (steps : S → Option (Result ℕ E) → S → Type 0) (s : S) (gs : List (List ℕ)) (chain : YieldsList steps (λ r. r) s (map judged gs)) where
    all-read : {Z : Type 0} (v : Vec ℕ Z) → AllPushed steps s v → read_each f gs ≡ Some (vec_items v)
    all-read v h =
        let xs : List (Result ℕ E) = h.0 in
        let all = (YieldsList-end chain xs h.2.1.0 h.2.1.1 None h.2.0 refl h.2.1.2).0 in
        onto-nil (read_each f gs) ∙ ap (λ (l : List ℕ). onto l (read_each f gs)) (sym h.3.0)
        ∙ pushed-all gs h.1 v (subst (λ (l : List (Result ℕ E)). FoldsTo Pushed h.1 l v) (sym (map-id xs) ∙ all) h.4)

    holds : (e : E) (o : Option (Result ℕ E)) → IsSomeAnd o (λ r. Err e ≡ r) → o ≡ Some (Err e)
    holds e None h = absurd h
    holds e (Some r) h = ap (λ x. Some x) (sym h)

    one-bad : (e : E) → SomeRun steps s (λ p. EndsAtFirstErr p (λ x r. r ≡ x) e) → (e ≡ bad) × (read_each f gs ≡ None)
    unfolding YieldsRun
    one-bad e run =
        let p = run.0 in
        let xs : List (Result ℕ E) = p.items in
        let front = YieldsList-so_far chain xs p.gave.0.0 (subst (λ (j : S). Yields steps j xs p.gave.0.0) run.1 p.gave.0.1) in
        let at : slice_get xs run.2.0 ≡ Some (Err e) = sym (p.gave.1 run.2.0) ∙ holds e (p.at run.2.0) run.2.2 in
        bad-at e gs (length xs) run.2.0 (ap (λ (l : List (Result ℕ E)). slice_get l run.2.0) (sym front ∙ map-id xs) ∙ at)

  -- what `try_collect` of a chain of these gives: the values, or the error that a group has none, or one for memory
  pub collected : {S Z : Type 0} {steps : S → Option (Result ℕ E) → S → Type 0} {s : S} (gs : List (List ℕ)) (full : E → Type 0) (r : Result (Vec ℕ Z) E) → IfOk r (AllPushed steps s) → IfErr r (λ e. full e ⊎ SomeRun steps s (λ p. EndsAtFirstErr p (λ x r. r ≡ x) e)) → YieldsList steps (λ r. r) s (map judged gs) → MatchResult r (λ v. read_each f gs ≡ Some (vec_items v)) (λ e. full e ⊎ ((e ≡ bad) × (read_each f gs ≡ None)))
  collected gs full (Ok v) ran err chain = all-read _ _ gs chain v ran
  collected gs full (Err e) ran err chain = ⊎_elim inl (λ run. inr (one-bad _ _ gs chain e run)) err
