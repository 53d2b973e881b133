-- What follows octets that are there whole changes nothing.
use Rattle.std.proofs.Common.{◌≡◌, ℕ, ◌-◌, ◌≤◌, true, false, leb, ◌⊎◌, List, [], ◌∷◌, ◌++◌, length, get_or, take, Ok, Err, Result, sym, refl, ap, ◌∙◌, inl, inr, arith, length-append}
use Rattle.std.proofs.lemmas.List.{get_or_append_left, take-append-le}
use Rattle.std.proofs.lemmas.Bool.{cases_Bool, le-leb, leb-true}
use Rattle.std.proofs.lemmas.Bool.Decides.{nat_tests}
use Rattle.isdu.specs.Opened.{opened, opened_by}
use Rattle.isdu.specs.Response.{ruled_out}
use Rattle.isdu.specs.Total.{total_of}
use Rattle.isdu.specs.declared.opened.NoIsdu.TheVariants.{Incomplete}
use Rattle.isdu.specs.declared.service.Service.{Service}
use Rattle.isdu.specs.declared.service.Service.TheVariants.{Read, Write}
use Rattle.isdu.specs.declared.total.NoTotal.{NoTotal}
use Rattle.isdu.specs.declared.total.NoTotal.TheVariants.{Unknown, Bad}

pub total-more : (os more : List ℕ) → (total_of os ≡ Err Unknown) ⊎ (total_of (os ++ more) ≡ total_of os)
total-more [] more = inl refl
total-more (a ∷ []) more = grind (arith, nat_tests)
total-more (a ∷ b ∷ os) more = inr refl

known_more : (os more : List ℕ) (t : ℕ) → total_of os ≡ Ok t → (leb t (length os) ≡ false) ⊎ (opened_by (Ok t) (os ++ more) ≡ opened_by (Ok t) os)
known_more os more t e = go (cases_Bool (leb t (length os))) (total-some os t e)
  where
    total-some : (xs : List ℕ) (n : ℕ) → total_of xs ≡ Ok n → 1 ≤ length xs
    total-some [] n h = absurd (let z : ⊥ = grind arith in z)
    total-some (a ∷ xs) n h = omega arith

    go : (leb t (length os) ≡ true) ⊎ (leb t (length os) ≡ false) → 1 ≤ length os
        → (leb t (length os) ≡ false) ⊎ (opened_by (Ok t) (os ++ more) ≡ opened_by (Ok t) os)
    go (inr off) some = inl off
    go (inl there) some =
        let l : t ≤ length os = leb-true _ _ there in
        let also : leb t (length (os ++ more)) ≡ true = le-leb t (length (os ++ more)) (omega (arith, length-append os more)) in
        let all : take t (os ++ more) ≡ take t os = take-append-le t os more l in
        let front : take (t - 1) (os ++ more) ≡ take (t - 1) os = take-append-le (t - 1) os more (omega arith) in
        let first : get_or (os ++ more) 0 0 ≡ get_or os 0 0 = get_or_append_left os more 0 0 some in
        inr (rw (there, also, all, front, first))

-- Octets are incomplete, or opened as with more behind them.
pub opened-more : (os more : List ℕ) → (opened os ≡ Err Incomplete) ⊎ (opened (os ++ more) ≡ opened os)
opened-more os more = by_total (total_of os) refl (total-more os more)
  where
    by_total : (total : Result ℕ NoTotal) → total_of os ≡ total → (total_of os ≡ Err Unknown) ⊎ (total_of (os ++ more) ≡ total_of os)
        → (opened os ≡ Err Incomplete) ⊎ (opened (os ++ more) ≡ opened os)
    by_total total e (inl u) = inl (rw u)
    by_total (Err Unknown) e (inr s) = inl (rw e)
    by_total (Err Bad) e (inr s) = inr (rw (s, e))
    by_total (Ok t) e (inr s) = go (known_more os more t e)
      where
        go : (leb t (length os) ≡ false) ⊎ (opened_by (Ok t) (os ++ more) ≡ opened_by (Ok t) os) → (opened os ≡ Err Incomplete) ⊎ (opened (os ++ more) ≡ opened os)
        go (inl off) = inl (rw (e, off))
        go (inr same) = inr (ap (λ (x : Result ℕ NoTotal). opened_by x (os ++ more)) (s ∙ e) ∙ same ∙ ap (λ (x : Result ℕ NoTotal). opened_by x os) (sym e))

-- What is ruled out stays so.
pub ruled-more : (s : Service) (os more : List ℕ) → ruled_out s os ≡ true → ruled_out s (os ++ more) ≡ true
ruled-more s [] more h = absurd (let z : ⊥ = grind arith in z)
ruled-more Write (a ∷ os) more h = h
ruled-more Read (a ∷ []) more h = grind (arith, nat_tests)
ruled-more Read (a ∷ b ∷ os) more h = h
