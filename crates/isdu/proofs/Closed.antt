-- Octets that are written as an ISDU are opened as what was written, whole and in parts.
use Rattle.std.proofs.Common.{◌≡◌, ℕ, zero, suc, ◌+◌, ◌-◌, ◌*◌, ◌/◌, ◌<◌, ◌≤◌, true, false, eqb, leb, ◌⊎◌, List, [], ◌∷◌, ◌++◌, length, get_or, take, Ok, Err, refl, ap, ◌∙◌, inl, inr, arith, length-append, le-ltb, lt-ltb, eq-eqb, le-leb}
use lib.Bits.{bit_xor, xor_self}
use Rattle.std.proofs.lemmas.List.{append_assoc, append-nil, get_or_append_left, length-take, take_at}
use Rattle.std.proofs.lemmas.List.Sums.{fold_push}
use Rattle.std.proofs.lemmas.Bool.{cases_lt}
use Rattle.std.proofs.lemmas.Bool.Decides.{nat_tests}
use Rattle.isdu.specs.Isdu.{closed, head, isdu, xor_of}
use Rattle.isdu.specs.Opened.{contents_of, opened}
use Rattle.isdu.specs.Total.{TotalSoFar, total_of}
use Rattle.isdu.specs.declared.opened.NoIsdu.TheVariants.{Incomplete}

pub xor-closed : (os : List ℕ) → xor_of (closed os) ≡ 0
xor-closed os = fold_push bit_xor 0 os (xor_of os) ∙ xor_self (xor_of os)

-- ---- the head

pub head-short : (s n : ℕ) → n < 14 → head s n ≡ (s * 16 + (n + 2)) ∷ []
head-short s n h = rw (lt-ltb n 14 h)

pub head-long : (s n : ℕ) → 14 ≤ n → head s n ≡ (s * 16 + 1) ∷ (n + 3) ∷ []
head-long s n h = rw (le-ltb n 14 h)

-- the first octet says the I-Service
pub first-service : (s n : ℕ) → n ≤ 235 → get_or (head s n) 0 0 / 16 ≡ s
first-service s n h = grind (arith, nat_tests)

-- the total is found from the head
pub total_head : (s n : ℕ) (rest : List ℕ) → n ≤ 235 → total_of (head s n ++ rest) ≡ Ok (length (head s n) + n + 1)
total_head s n rest h = grind (arith, nat_tests)

-- the contents follow the head
pub contents-head : (s n : ℕ) (os : List ℕ) → n ≤ 235 → contents_of (head s n ++ os) ≡ os
contents-head s n os h = grind (arith, nat_tests)

-- ---- the whole

-- front octets that say the total with the last octet, and whatever follows
opened-closed : (front more : List ℕ) → 1 ≤ length front → total_of (closed front ++ more) ≡ Ok (suc (length front))
    → opened (closed front ++ more) ≡ Ok (get_or front 0 0, contents_of front)
opened-closed front more some total =
    let t : ℕ = suc (length front) in
    let os : List ℕ = closed front ++ more in
    let n : length (closed front) ≡ t = length-append front (xor_of front ∷ []) ∙ (omega arith) in
    let there : leb t (length os) ≡ true = le-leb t (length os) (omega (arith, length-append (closed front) more)) in
    let all : take t os ≡ closed front = take_at (closed front) more t n in
    let zero_xor : eqb (xor_of (take t os)) 0 ≡ true = eq-eqb _ 0 (ap xor_of all ∙ xor-closed front) in
    let split : os ≡ front ++ (xor_of front ∷ more) = append_assoc front (xor_of front ∷ []) more in
    let before : take (t - 1) os ≡ front = ap (take (t - 1)) split ∙ take_at front (xor_of front ∷ more) (t - 1) (omega arith) in
    let first : get_or os 0 0 ≡ get_or front 0 0 = ap (λ (l : List ℕ). get_or l 0 0) split ∙ get_or_append_left front (xor_of front ∷ more) 0 0 (omega arith) in
    rw (total, there, zero_xor, first, before)

pub length-head : (s n : ℕ) → (1 ≤ length (head s n)) × (length (head s n) ≤ 2)
length-head s n = grind (arith, nat_tests)

pub length-isdu : (s : ℕ) (c : List ℕ) → length (isdu s c) ≡ length (head s (length c)) + length c + 1
length-isdu s c = length-append (head s (length c) ++ c) (xor_of (head s (length c) ++ c) ∷ []) ∙ ap (λ k. k + 1) (length-append (head s (length c)) c)

-- what is written begins with its head
pub isdu-split : (s : ℕ) (c more : List ℕ) → isdu s c ++ more ≡ head s (length c) ++ (c ++ (xor_of (head s (length c) ++ c) ∷ more))
isdu-split s c more =
    append_assoc (head s (length c) ++ c) (xor_of (head s (length c) ++ c) ∷ []) more
    ∙ append_assoc (head s (length c)) c (xor_of (head s (length c) ++ c) ∷ more)

pub opened-isdu : (s : ℕ) (c more : List ℕ) → length c ≤ 235 → opened (isdu s c ++ more) ≡ Ok (get_or (head s (length c)) 0 0, c)
opened-isdu s c more h =
    let hd : List ℕ = head s (length c) in
    let some : 1 ≤ length hd = (length-head s (length c)).0 in
    let n : length (hd ++ c) ≡ length hd + length c = length-append hd c in
    let k : length hd + length c + 1 ≡ suc (length (hd ++ c)) = omega arith in
    let total : total_of (isdu s c ++ more) ≡ Ok (suc (length (hd ++ c))) =
    ap total_of (isdu-split s c more) ∙ total_head s (length c) (c ++ (xor_of (hd ++ c) ∷ more)) h ∙ ap Ok k in
    opened-closed (hd ++ c) more (omega arith) total
    ∙ ap (λ (x : ℕ). Ok (x, contents_of (hd ++ c))) (get_or_append_left hd c 0 0 some)
    ∙ ap (λ (l : List ℕ). Ok (get_or hd 0 0, l)) (contents-head s (length c) c h)

-- ---- in parts

-- From the first octets the total is not known yet, or the one of the whole.
total-part : (s n k : ℕ) (rest : List ℕ) → n ≤ 235 → TotalSoFar (take k (head s n ++ rest)) k (length (head s n) + n + 1)
total-part s n k rest h = go (cases_lt n 14) k
  where
    go : (n < 14) ⊎ (14 ≤ n) → (j : ℕ) → TotalSoFar (take j (head s n ++ rest)) j (length (head s n) + n + 1)
    go l zero = inl (refl, omega arith)
    go (inl l) (suc j) = rw (head-short s n l) (inr (grind (arith, nat_tests)))
    go (inr l) (suc zero) = rw (head-long s n l) (inl (grind (arith, nat_tests), omega arith))
    go (inr l) (suc (suc j)) = rw (head-long s n l) (inr (grind (arith, nat_tests)))

pub total-isdu : (s : ℕ) (c more : List ℕ) (k : ℕ) → length c ≤ 235 → TotalSoFar (take k (isdu s c ++ more)) k (length (isdu s c))
total-isdu s c more k h =
    rw (isdu-split s c more, length-isdu s c) (total-part s (length c) k (c ++ (xor_of (head s (length c) ++ c) ∷ more)) h)

pub incomplete-by : (os : List ℕ) (k t : ℕ) → length os ≤ k → k < t → TotalSoFar os k t → opened os ≡ Err Incomplete
incomplete-by os k t few short (inl u) = rw u.0
incomplete-by os k t few short (inr e) = rw e (let no : leb t (length os) ≡ false = grind (arith, nat_tests) in rw no)

pub opened-part : (s : ℕ) (c : List ℕ) (k : ℕ) → length c ≤ 235 → k < length (isdu s c) → opened (take k (isdu s c)) ≡ Err Incomplete
opened-part s c k h short =
    let so : TotalSoFar (take k (isdu s c)) k (length (isdu s c)) = rw (append-nil (isdu s c)) at (total-isdu s c [] k h) in
    incomplete-by (take k (isdu s c)) k (length (isdu s c)) (omega (arith, length-take k (isdu s c))) short so
