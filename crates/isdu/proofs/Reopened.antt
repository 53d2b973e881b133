-- Octets that are opened begin with the ISDU that their parts are written as.
use Rattle.std.proofs.Common.{◌≡◌, ℕ, ◌+◌, ◌-◌, ◌/◌, ◌%◌, ◌<◌, ◌≤◌, true, false, eqb, leb, ◌⊎◌, List, [], ◌∷◌, ◌++◌, length, get_or, take, drop, Ok, Err, Result, sym, refl, ap, ◌∙◌, inl, inr, arith, eq-eqb}
use lib.Bits.{bit_xor, xor_assoc, xor_self, xor_zero_l, xor_zero_r}
use Rattle.std.proofs.Math.Seq.{drop-cons}
use Rattle.std.proofs.lemmas.List.{append_assoc, get_or-append-add, get_or_append_left, get_or_past, get_or-take, length-drop, length-take, take-append-drop, take_more}
use Rattle.std.proofs.lemmas.List.Sums.{fold_push}
use Rattle.std.proofs.lemmas.Bool.{cases_Bool, cases_lt, eqb-true, leb-true}
use Rattle.std.proofs.lemmas.Bool.Decides.{nat_tests}
use Rattle.isdu.specs.Isdu.{Begins, closed, head, isdu, xor_of}
use Rattle.isdu.specs.Opened.{contents_of, head_count, opened, opened_by}
use Rattle.isdu.specs.Total.{total_of}
use Rattle.isdu.specs.declared.opened.NoIsdu.{NoIsdu}
use Rattle.isdu.specs.declared.opened.NoIsdu.TheVariants.{Incomplete, NotWellFormed}
use Rattle.isdu.specs.declared.total.NoTotal.{NoTotal}
use Rattle.isdu.proofs.Closed.{head-long, head-short, length-isdu}

-- the octet that makes an exclusive or zero is the exclusive or
xor_same : (x y : ℕ) → bit_xor x y ≡ 0 → y ≡ x
xor_same x y e =
    sym (xor_zero_l y) ∙ ap (λ z. bit_xor z y) (sym (xor_self x)) ∙ xor_assoc x x y ∙ ap (bit_xor x) e ∙ xor_zero_r x

-- octets of exclusive or zero are closed by their last
pub closed-by : (os : List ℕ) (n : ℕ) → n < length os → xor_of (take (n + 1) os) ≡ 0 → take (n + 1) os ≡ closed (take n os)
closed-by os n l z =
    let m : take (n + 1) os ≡ take n os ++ get_or os n 0 ∷ [] = take_more os n 0 l in
    let e : bit_xor (xor_of (take n os)) (get_or os n 0) ≡ 0 = sym (fold_push bit_xor 0 (take n os) (get_or os n 0)) ∙ ap xor_of (sym m) ∙ z in
    m ∙ ap (λ (x : ℕ). take n os ++ x ∷ []) (xor_same _ _ e)

-- What a known total says of the first octets.
pub total-says : (os : List ℕ) (t : ℕ) → total_of os ≡ Ok t
    → ((get_or os 0 0 % 16 ≡ t) × (2 ≤ t) × (t ≤ 15) × (1 ≤ length os))
    ⊎ ((get_or os 0 0 % 16 ≡ 1) × (get_or os 1 0 ≡ t) × (17 ≤ t) × (t ≤ 238) × (2 ≤ length os))
total-says [] t e = grind arith
total-says (a ∷ []) t e = inl (grind (arith, nat_tests))
total-says (a ∷ b ∷ os) t e = grind (arith, nat_tests)

-- Octets before the last, by a total of their own count.
front-short : (f : List ℕ) (a t : ℕ) → get_or f 0 0 ≡ a → a % 16 ≡ t → 2 ≤ t → t ≤ 15 → length f ≡ t - 1
    → f ≡ head (a / 16) (length (contents_of f)) ++ contents_of f
front-short f a t first length16 low high count =
    let c : contents_of f ≡ drop 1 f = rw first (let e : eqb (a % 16) 1 ≡ false = grind (arith, nat_tests) in rw e) in
    let n : length (drop 1 f) ≡ t - 2 = length-drop 1 f ∙ omega arith in
    let h : head (a / 16) (length (drop 1 f)) ≡ a ∷ [] =
    head-short (a / 16) (length (drop 1 f)) (omega arith) ∙ ap (λ (x : ℕ). x ∷ []) (omega arith) in
    rw c (rw h (drop-cons f 0 0 (omega arith) ∙ ap (λ (x : ℕ). x ∷ drop 1 f) first))

front_long : (f : List ℕ) (a t : ℕ) → get_or f 0 0 ≡ a → get_or f 1 0 ≡ t → a % 16 ≡ 1 → 17 ≤ t → t ≤ 238 → length f ≡ t - 1
    → f ≡ head (a / 16) (length (contents_of f)) ++ contents_of f
front_long f a t first second length16 low high count =
    let c : contents_of f ≡ drop 2 f = rw first (let e : eqb (a % 16) 1 ≡ true = grind (arith, nat_tests) in rw e) in
    let n : length (drop 2 f) ≡ t - 3 = length-drop 2 f ∙ omega arith in
    let h : head (a / 16) (length (drop 2 f)) ≡ a ∷ t ∷ [] =
    head-long (a / 16) (length (drop 2 f)) (omega arith) ∙ ap (λ (x : ℕ). x ∷ (length (drop 2 f) + 3) ∷ []) (omega arith) ∙ ap (λ (x : ℕ). a ∷ x ∷ []) (omega arith) in
    rw c (rw h (drop-cons f 0 0 (omega arith) ∙ ap (λ (l : List ℕ). get_or f 0 0 ∷ l) (drop-cons f 1 0 (omega arith)) ∙ ap (λ (x : ℕ). x ∷ get_or f 1 0 ∷ drop 2 f) first ∙ ap (λ (x : ℕ). a ∷ x ∷ drop 2 f) second))

few-contents : (f : List ℕ) → length f ≤ 235 → length (contents_of f) ≤ 235
few-contents f l = omega (arith, length-drop (head_count f) f)

long-contents : (f : List ℕ) → get_or f 0 0 % 16 ≡ 1 → length f ≤ 237 → length (contents_of f) ≤ 235
long-contents f e l =
    let two : head_count f ≡ 2 = let b : eqb (get_or f 0 0 % 16) 1 ≡ true = eq-eqb _ 1 e in rw b in
    omega (arith, length-drop (head_count f) f)

pub record Reopened (os : List ℕ) (a : ℕ) (c : List ℕ) : Type 0 where
  pub few : length c ≤ 235
  pub begins : Begins os (isdu (a / 16) c)

-- all octets are there, and their exclusive or is zero
whole-reopened : (os : List ℕ) (t : ℕ) → total_of os ≡ Ok t → t ≤ length os → xor_of (take t os) ≡ 0
    → Reopened os (get_or os 0 0) (contents_of (take (t - 1) os))
whole-reopened os t total there z = go (total-says os t total)
  where
    same : 2 ≤ t → take t os ≡ closed (take (t - 1) os)
    same l =
        let k : t - 1 + 1 ≡ t = omega arith in
        let z' : xor_of (take (t - 1 + 1) os) ≡ 0 = ap (λ n. xor_of (take n os)) k ∙ z in
        ap (λ n. take n os) (sym k) ∙ closed-by os (t - 1) (omega arith) z'

    count : 2 ≤ t → length (take (t - 1) os) ≡ t - 1
    count l = length-take (t - 1) os ∙ omega arith

    result : 2 ≤ t → t ≤ 238 → take (t - 1) os ≡ head (get_or os 0 0 / 16) (length (contents_of (take (t - 1) os))) ++ contents_of (take (t - 1) os)
        → length (contents_of (take (t - 1) os)) ≤ 235 → Reopened os (get_or os 0 0) (contents_of (take (t - 1) os))
    result l m e few =
        let c : List ℕ = contents_of (take (t - 1) os) in
        let all : take t os ≡ isdu (get_or os 0 0 / 16) c = same l ∙ ap closed e in
        let n : length (isdu (get_or os 0 0 / 16) c) ≡ t = ap length (sym all) ∙ length-take t os ∙ omega arith in
        record { few = few; begins = ap (λ k. take k os) n ∙ all }

    go : ((get_or os 0 0 % 16 ≡ t) × (2 ≤ t) × (t ≤ 15) × (1 ≤ length os))
        ⊎ ((get_or os 0 0 % 16 ≡ 1) × (get_or os 1 0 ≡ t) × (17 ≤ t) × (t ≤ 238) × (2 ≤ length os))
        → Reopened os (get_or os 0 0) (contents_of (take (t - 1) os))
    go (inl s) =
        let first : get_or (take (t - 1) os) 0 0 ≡ get_or os 0 0 = get_or-take (t - 1) os 0 0 (omega arith) in
        result s.1 (omega arith) (front-short (take (t - 1) os) (get_or os 0 0) t first s.0 s.1 s.2 (count s.1))
        (few-contents (take (t - 1) os) (omega (arith, count s.1)))
    go (inr s) =
        let l : 2 ≤ t = omega arith in
        let first : get_or (take (t - 1) os) 0 0 ≡ get_or os 0 0 = get_or-take (t - 1) os 0 0 (omega arith) in
        let second : get_or (take (t - 1) os) 1 0 ≡ t = get_or-take (t - 1) os 1 0 (omega arith) ∙ s.1 in
        result l s.3 (front_long (take (t - 1) os) (get_or os 0 0) t first second s.0 s.2 s.3 (count l))
        (long-contents (take (t - 1) os) (ap (λ x. x % 16) first ∙ s.0) (omega (arith, count l)))

by_total : (os : List ℕ) (a : ℕ) (c : List ℕ) (total : Result ℕ NoTotal) → total_of os ≡ total → opened_by total os ≡ Ok (a, c) → Reopened os a c
by_total os a c (Err x) e h = grind arith
by_total os a c (Ok t) e h = go (cases_Bool (leb t (length os))) (cases_Bool (eqb (xor_of (take t os)) 0))
  where
    go : (leb t (length os) ≡ true) ⊎ (leb t (length os) ≡ false) → (eqb (xor_of (take t os)) 0 ≡ true) ⊎ (eqb (xor_of (take t os)) 0 ≡ false)
        → Reopened os a c
    go (inr off) x = let h' : ◌≡◌ {A = Result (ℕ × List ℕ) NoIsdu} (Err Incomplete) (Ok (a, c)) = rw off at h in grind arith
    go (inl there) (inr off) = let h' : ◌≡◌ {A = Result (ℕ × List ℕ) NoIsdu} (Err NotWellFormed) (Ok (a, c)) = rw (there, off) at h in grind arith
    go (inl there) (inl z) =
        let h' : ◌≡◌ {A = Result (ℕ × List ℕ) NoIsdu} (Ok (get_or os 0 0, contents_of (take (t - 1) os))) (Ok (a, c)) = rw (there, z) at h in
        let parts : ◌≡◌ {A = ℕ × List ℕ} (get_or os 0 0, contents_of (take (t - 1) os)) (a, c) = cc in
        let first : get_or os 0 0 ≡ a = ap (λ (p : ℕ × List ℕ). p.0) parts in
        let rest : contents_of (take (t - 1) os) ≡ c = ap (λ (p : ℕ × List ℕ). p.1) parts in
        let r = whole-reopened os t e (leb-true _ _ there) (eqb-true _ _ z) in
        rw (first, rest) at r

pub reopened : (os : List ℕ) (a : ℕ) (c : List ℕ) → opened os ≡ Ok (a, c) → Reopened os a c
reopened os a c h = by_total os a c (total_of os) refl h

pub whole_of : (os front : List ℕ) → Begins os front → os ≡ front ++ drop (length front) os
whole_of os front b = sym (take-append-drop (length front) os) ∙ ap (λ (l : List ℕ). l ++ drop (length front) os) b

-- Octets are below 256.
abbrev pub Small : List ℕ → Type 0
Small os = (i : ℕ) → get_or os i 0 < 256

-- the contents of octets are octets
pub contents-octets : (os : List ℕ) (a : ℕ) (c : List ℕ) → Small os → Reopened os a c → Small c
contents-octets os a c small r i = go (cases_lt i (length c))
  where
    go : (i < length c) ⊎ (length c ≤ i) → get_or c i 0 < 256
    go (inr past) = rw (get_or_past c i 0 past) (omega arith)
    go (inl l) =
        let e : get_or (isdu (a / 16) c) (length (head (a / 16) (length c)) + i) 0 ≡ get_or c i 0 =
        ap (λ (x : List ℕ). get_or x (length (head (a / 16) (length c)) + i) 0) (append_assoc (head (a / 16) (length c)) c (xor_of (head (a / 16) (length c) ++ c) ∷ []))
        ∙ get_or-append-add (head (a / 16) (length c)) (c ++ (xor_of (head (a / 16) (length c) ++ c) ∷ [])) i 0
        ∙ get_or_append_left c (xor_of (head (a / 16) (length c) ++ c) ∷ []) 0 i l in
        let b : get_or (isdu (a / 16) c) (length (head (a / 16) (length c)) + i) 0 ≡ get_or os (length (head (a / 16) (length c)) + i) 0 =
        ap (λ (x : List ℕ). get_or x (length (head (a / 16) (length c)) + i) 0) (sym r.begins)
        ∙ get_or-take (length (isdu (a / 16) c)) os (length (head (a / 16) (length c)) + i) 0 (omega (arith, length-isdu (a / 16) c)) in
        rw (sym e) (rw b (small (length (head (a / 16) (length c)) + i)))
