-- A request in any form is read as its order, and what is read as an order is its request in some form.
use Rattle.std.proofs.Common.{◌≡◌, ℕ, ◌+◌, ◌*◌, ◌/◌, ◌%◌, ◌<◌, ◌≤◌, true, false, ◌⊎◌, List, [], ◌∷◌, ◌++◌, length, get_or, take, drop, Some, None, Ok, Err, Option, Result, sym, refl, ap, ◌∙◌, subst, inl, inr, arith, length-append}
use Rattle.std.proofs.lemmas.Bool.{and_parts, cases_Bool, eqb-true, leb-true}
use Rattle.std.proofs.lemmas.Bool.Decides.{nat_tests}
use Rattle.isdu.specs.Isdu.{Begins, head, isdu}
use Rattle.isdu.specs.Opened.{opened}
use Rattle.isdu.specs.Order.{Order, read, write, address_of, can_ask, data_of, is_data, service_for}
use Rattle.isdu.specs.Request.{Asked, Asks, Carries, NotAsked, addressed, order_in, order_of, ordered, read_at, read_of, request_in, request_octets, request_of, well_formed, write_of}
use Rattle.isdu.specs.Service.{Address, address_octets, asking, can_name, first_form, service_at, service_bits, service_of}
use Rattle.isdu.specs.Total.{TotalSoFar}
use Rattle.isdu.specs.declared.opened.NoIsdu.{NoIsdu}
use Rattle.isdu.specs.declared.opened.NoIsdu.TheVariants.{Incomplete}
use Rattle.isdu.specs.declared.service.Form.{Form}
use Rattle.isdu.specs.declared.service.Form.TheVariants.{Index8, Index8Subindex, Index16Subindex}
use Rattle.isdu.specs.declared.service.IService.{IService}
use Rattle.isdu.specs.declared.service.IService.TheVariants.{Write, Read, WriteRefused, WriteDone, ReadRefused, ReadDone}
use Rattle.isdu.proofs.Closed.{first-service, opened-isdu, opened-part, total-isdu}
use Rattle.isdu.proofs.Reopened.{Reopened, Small, contents-octets, reopened, whole_of}

pub service-back : (v : IService) → service_at (service_bits v) ≡ Some v
service-back v = grind (arith, nat_tests)

-- the first form can name the address
first-names : (at : Address) → can_name (first_form at) at ≡ true
first-names at = grind (arith, nat_tests)

-- ---- from the order to the octets and back

address-count : (f : Form) (at : Address) → length (address_octets f at) ≤ 3
address-count Index8 at = omega arith
address-count Index8Subindex at = omega arith
address-count Index16Subindex at = omega arith

addressed-back : (f : Form) (at : Address) (d : List ℕ) → can_name f at ≡ true → addressed f (address_octets f at ++ d) ≡ Some (at, d)
addressed-back Index8 at d h =
    let z : at.1 ≡ 0 = eqb-true _ _ (and_parts _ _ h).1 in ap (λ (s : ℕ). Some ((at.0, s), d)) (sym z)
addressed-back Index8Subindex at d h = refl
addressed-back Index16Subindex at d h =
    let i : at.0 / 256 * 256 + at.0 % 256 ≡ at.0 = omega arith in ap (λ (n : ℕ). Some ((n, at.1), d)) i

order-back : (f : Form) (o : Order) → can_name f (address_of o) ≡ true → can_ask o ≡ true
    → order_of (asking (service_for o) f) (address_octets f (address_of o) ++ data_of o) ≡ Some o
order-back f (read at) names can = ap read_of (addressed-back f at [] names)
order-back f (write at d) names can = ap write_of (addressed-back f at d names) ∙ rw can

data-count : (o : Order) → can_ask o ≡ true → length (data_of o) ≤ 232
data-count (read at) can = omega arith
data-count (write at d) can = leb-true _ _ (and_parts _ _ can).1

contents-count : (f : Form) (o : Order) → can_ask o ≡ true → length (address_octets f (address_of o) ++ data_of o) ≤ 235
contents-count f o can = omega (arith, length-append (address_octets f (address_of o)) (data_of o), address-count f (address_of o), data-count o can)

module _ (f : Form) (o : Order) (names : can_name f (address_of o) ≡ true) (can : can_ask o ≡ true) where
  pub request-back : (more : List ℕ) → request_of (request_in f o ++ more) ≡ Ok o
  unfolding request_of
  request-back more =
      let v : IService = asking (service_for o) f in
      let c : List ℕ = address_octets f (address_of o) ++ data_of o in
      let n : length c ≤ 235 = contents-count f o can in
      let service : service_of (get_or (head (service_bits v) (length c)) 0 0) ≡ Some v = ap service_at (first-service (service_bits v) (length c) n) ∙ service-back v in
      rw (opened-isdu (service_bits v) c more n, service, order-back f o names can)

  pub request-part : (k : ℕ) → k < length (request_in f o) → request_of (take k (request_in f o)) ≡ Err Incomplete
  unfolding request_of
  request-part k l = rw (opened-part (service_bits (asking (service_for o) f)) (address_octets f (address_of o) ++ data_of o) k (contents-count f o can) l)

  pub request-total : (k : ℕ) (more : List ℕ) → TotalSoFar (take k (request_in f o ++ more)) k (length (request_in f o))
  request-total k more = total-isdu (service_bits (asking (service_for o) f)) _ more k (contents-count f o can)

pub carries : (o : Order) → can_ask o ≡ true → Carries (request_octets o) o
unfolding request_octets
carries o can =
    let f : Form = first_form (address_of o) in
    let names : can_name f (address_of o) ≡ true = first-names (address_of o) in
    record { whole = request-back f o names can; part = request-part f o names can; total = request-total f o names can }

-- ---- from the octets to the order and back

-- The address and what follows it, written again.
record Named (f : Form) (c : List ℕ) (at : Address) (d : List ℕ) : Type 0 where
  names : can_name f at ≡ true
  spelt : c ≡ address_octets f at ++ d

same-named : (f : Form) (c : List ℕ) (p q : Address × List ℕ) → ◌≡◌ {A = Option (Address × List ℕ)} (Some p) (Some q) → Named f c p.0 p.1 → Named f c q.0 q.1
same-named f c p q e n = let h : p ≡ q = cc in subst (λ (x : Address × List ℕ). Named f c x.0 x.1) h n

named : (f : Form) (c : List ℕ) (at : Address) (d : List ℕ) → Small c → addressed f c ≡ Some (at, d) → Named f c at d
named Index8 [] at d s e = grind arith
named Index8 (i ∷ c) at d s e =
    same-named Index8 (i ∷ c) ((i, 0), c) (at, d) e (record { names = let l : i < 256 = s 0 in grind (arith, nat_tests); spelt = refl })
named Index8Subindex [] at d s e = grind arith
named Index8Subindex (i ∷ []) at d s e = grind arith
named Index8Subindex (i ∷ x ∷ c) at d s e =
    same-named Index8Subindex (i ∷ x ∷ c) ((i, x), c) (at, d) e (record { names = let l : i < 256 = s 0 in grind (arith, nat_tests); spelt = refl })
named Index16Subindex [] at d s e = grind arith
named Index16Subindex (i ∷ []) at d s e = grind arith
named Index16Subindex (i ∷ l ∷ []) at d s e = grind arith
named Index16Subindex (i ∷ l ∷ x ∷ c) at d s e =
    let low : l < 256 = s 1 in
    let high : i ≡ (i * 256 + l) / 256 = omega arith in
    let rest : l ≡ (i * 256 + l) % 256 = omega arith in
    same-named Index16Subindex (i ∷ l ∷ x ∷ c) ((i * 256 + l, x), c) (at, d) e
    (record { names = refl; spelt = ap (λ (n : ℕ). n ∷ l ∷ x ∷ c) high ∙ ap (λ (n : ℕ). ((i * 256 + l) / 256) ∷ n ∷ x ∷ c) rest })

-- The order of an I-Service and contents, written again.
record Formed (v : IService) (c : List ℕ) (o : Order) : Type 0 where
  form : Form
  service : v ≡ asking (service_for o) form
  names : can_name form (address_of o) ≡ true
  can : can_ask o ≡ true
  spelt : c ≡ address_octets form (address_of o) ++ data_of o

read-formed : (f : Form) (c : List ℕ) (o : Order) (r : Option (Address × List ℕ)) → Small c → addressed f c ≡ r → read_of r ≡ Some o → Formed (Read f) c o
read-formed f c o None s e h = grind arith
read-formed f c o (Some (at, d)) s e h = go d (named f c at d s e) h
  where
    go : (ds : List ℕ) → Named f c at ds → read_at at ds ≡ Some o → Formed (Read f) c o
    go [] n g =
        let same : read at ≡ o = cc in
        subst (λ (x : Order). Formed (Read f) c x) same (record { form = f; service = refl; names = n.names; can = refl; spelt = n.spelt })
    go (x ∷ ds) n g = grind arith

write-formed : (f : Form) (c : List ℕ) (o : Order) (r : Option (Address × List ℕ)) → Small c → addressed f c ≡ r → write_of r ≡ Some o → Formed (Write f) c o
write-formed f c o None s e h = grind arith
write-formed f c o (Some (at, d)) s e h = go (named f c at d s e) (cases_Bool (is_data d))
  where
    go : Named f c at d → (is_data d ≡ true) ⊎ (is_data d ≡ false) → Formed (Write f) c o
    go n (inl fits) =
        let g : ◌≡◌ {A = Option Order} (Some (write at d)) (Some o) = rw fits at h in
        let same : write at d ≡ o = cc in
        subst (λ (x : Order). Formed (Write f) c x) same (record { form = f; service = refl; names = n.names; can = fits; spelt = n.spelt })
    go n (inr off) = let g : ◌≡◌ {A = Option Order} None (Some o) = rw off at h in grind arith

formed : (v : IService) (c : List ℕ) (o : Order) → Small c → order_of v c ≡ Some o → Formed v c o
formed (Write f) c o s e = write-formed f c o (addressed f c) s refl e
formed (Read f) c o s e = read-formed f c o (addressed f c) s refl e
formed WriteRefused c o s e = grind arith
formed WriteDone c o s e = grind arith
formed ReadRefused c o s e = grind arith
formed ReadDone c o s e = grind arith

pub service-bits : (n : ℕ) (v : IService) → service_at n ≡ Some v → n ≡ service_bits v
service-bits n v e = grind (arith, nat_tests)

-- What begins with an order's request is read as that order.
pub asks_read : (os : List ℕ) (f : Form) (o : Order) → Asks os f o → request_of os ≡ Ok o
asks_read os f o a = ap request_of (whole_of os (request_in f o) a.begins) ∙ request-back f o a.names a.can (drop (length (request_in f o)) os)

pub not-asked : (os : List ℕ) (e : NoIsdu) → request_of os ≡ Err e → NotAsked os
not-asked os e h f o a = let r = asks_read os f o a in let z : ◌≡◌ {A = Result Order NoIsdu} (Ok o) (Err e) = sym r ∙ h in grind arith

formed-asks : (os : List ℕ) (a : ℕ) (v : IService) (c : List ℕ) (o : Order) → Reopened os a c → a / 16 ≡ service_bits v → (w : Formed v c o) → Asks os w.form o
formed-asks os a v c o r s w =
    let same : isdu (a / 16) c ≡ request_in w.form o =
    ap (λ (n : ℕ). isdu n c) (s ∙ ap service_bits w.service) ∙ ap (isdu (service_bits (asking (service_for o) w.form))) w.spelt in
    record { names = w.names; can = w.can; begins = subst (Begins os) same r.begins }

pub asked : (os : List ℕ) (o : Order) → Small os → request_of os ≡ Ok o → Asked os o
unfolding request_of
asked os o small e = by_parts (opened os) refl e
  where
    by_order : (a : ℕ) (c : List ℕ) (v : IService) → Reopened os a c → service_of a ≡ Some v → (r : Option Order) → order_of v c ≡ r → well_formed r ≡ Ok o → Asked os o
    by_order a c v w s None g h = grind arith
    by_order a c v w s (Some x) g h =
        let same : x ≡ o = cc in
        let n : Formed v c o = formed v c o (contents-octets os a c small w) (g ∙ ap Some same) in
        record { form = n.form; asks = formed-asks os a v c o w (service-bits (a / 16) v s) n; only = λ f y b. let r = asks_read os f y b in cc }

    by-service : (a : ℕ) (c : List ℕ) → Reopened os a c → (s : Option IService) → service_of a ≡ s → well_formed (order_in s c) ≡ Ok o → Asked os o
    by-service a c w None s h = grind arith
    by-service a c w (Some v) s h = by_order a c v w s (order_of v c) refl h

    by_parts : (r : Result (ℕ × List ℕ) NoIsdu) → opened os ≡ r → ordered r ≡ Ok o → Asked os o
    by_parts (Err x) p h = grind arith
    by_parts (Ok (a, c)) p h = by-service a c (reopened os a c p) (service_of a) refl h
