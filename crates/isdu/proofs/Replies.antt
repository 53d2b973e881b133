-- A reply is read as what it was, and a verdict falls exactly when the octets allow no other.
use Rattle.std.proofs.Common.{◌≡◌, ℕ, zero, suc, ◌+◌, ◌*◌, ◌/◌, ◌%◌, ◌<◌, ◌≤◌, true, false, leb, ◌⊎◌, List, [], ◌∷◌, ◌++◌, length, get_or, take, drop, IfSome, Some, None, Ok, Err, Option, sym, refl, ap, ◌∙◌, subst, inl, inr, arith, MatchOption}
use Rattle.std.proofs.lemmas.List.{append-nil, take_all}
use Rattle.std.proofs.lemmas.Bool.{cases_Bool, cases_lt, leb-true}
use Rattle.std.proofs.lemmas.Bool.Decides.{nat_tests}
use Rattle.isdu.specs.Isdu.{head, isdu}
use Rattle.isdu.specs.Reply.{Reply, answers, can_answer, write_refused, write_done, read_refused, read_done}
use Rattle.isdu.specs.Response.{Brings, Replies, carried, error_octets, error_of, refusing, reply_in, reply_octets, ruled_out, saying, verdict_of}
use Rattle.isdu.specs.Service.{service_at, service_bits, service_of}
use Rattle.isdu.specs.Total.{TotalSoFar}
use Rattle.isdu.specs.declared.reply.NoReply.TheVariants.{Incomplete as GoOn}
use Rattle.isdu.specs.declared.service.IService.{IService}
use Rattle.isdu.specs.declared.service.IService.TheVariants.{Write as AskWrite, Read as AskRead, WriteRefused, WriteDone, ReadRefused, ReadDone}
use Rattle.isdu.specs.declared.service.Service.{Service}
use Rattle.isdu.specs.declared.service.Service.TheVariants.{Read, Write}
use Rattle.isdu.proofs.Closed.{first-service, head-long, head-short, isdu-split, opened-isdu, opened-part, total-isdu}
use Rattle.isdu.proofs.Reopened.{Small, whole_of}
use Rattle.isdu.proofs.Requests.{service-back}

-- ---- from the reply to the octets and back

carried-count : (r : Reply) → can_answer r ≡ true → length (carried r) ≤ 235
carried-count (write_refused e) can = omega arith
carried-count write_done can = omega arith
carried-count (read_refused e) can = omega arith
carried-count (read_done d) can = omega (arith, leb-true _ _ can)

error-back : (e : ℕ) → e / 256 * 256 + e % 256 ≡ e
error-back e = omega arith

reply-in : (r : Reply) → can_answer r ≡ true → reply_in (answers r) (Some (saying r)) (carried r) ≡ Some r
reply-in (write_refused e) can = ap (λ (x : ℕ). Some (write_refused x)) (error-back e)
reply-in write_done can = refl
reply-in (read_refused e) can = ap (λ (x : ℕ). Some (read_refused x)) (error-back e)
reply-in (read_done d) can = rw can

-- no part of a reply rules it out
head-allowed : (r : Reply) (rest : List ℕ) (k : ℕ) → can_answer r ≡ true
    → ruled_out (answers r) (take k (head (service_bits (saying r)) (length (carried r)) ++ rest)) ≡ false
head-allowed r rest zero can = refl
head-allowed (write_refused e) rest (suc k) can = refl
head-allowed write_done rest (suc k) can = refl
head-allowed (read_refused e) rest (suc k) can = refl
head-allowed (read_done d) rest (suc k) can = go (cases_lt (length d) 14) k
  where
    go : (length d < 14) ⊎ (14 ≤ length d) → (j : ℕ) → ruled_out Read (take (suc j) (head (service_bits ReadDone) (length d) ++ rest)) ≡ false
    go (inl l) j = rw (head-short (service_bits ReadDone) (length d) l) (grind (arith, nat_tests))
    go (inr l) zero = rw (head-long (service_bits ReadDone) (length d) l) (grind (arith, nat_tests))
    go (inr l) (suc j) = rw (head-long (service_bits ReadDone) (length d) l) (let m : length d ≤ 232 = leb-true _ _ can in grind (arith, nat_tests))

module _ (r : Reply) (can : can_answer r ≡ true) where
  allowed : (more : List ℕ) (k : ℕ) → ruled_out (answers r) (take k (isdu (service_bits (saying r)) (carried r) ++ more)) ≡ false
  allowed more k = rw (isdu-split (service_bits (saying r)) (carried r) more) (head-allowed r _ k can)

  allowed_all : (more : List ℕ) → ruled_out (answers r) (isdu (service_bits (saying r)) (carried r) ++ more) ≡ false
  allowed_all more =
      let os : List ℕ = isdu (service_bits (saying r)) (carried r) ++ more in
      ap (ruled_out (answers r)) (sym (take_all (length os) os (omega arith))) ∙ allowed more (length os)

  allowed-part : (k : ℕ) → ruled_out (answers r) (take k (isdu (service_bits (saying r)) (carried r))) ≡ false
  allowed-part k = ap (λ (os : List ℕ). ruled_out (answers r) (take k os)) (sym (append-nil (isdu (service_bits (saying r)) (carried r)))) ∙ allowed [] k

  pub reply-back : (more : List ℕ) → verdict_of (answers r) (reply_octets r ++ more) ≡ Ok r
  unfolding verdict_of reply_octets
  reply-back more =
      let v : IService = saying r in
      let c : List ℕ = carried r in
      let n : length c ≤ 235 = carried-count r can in
      let service : service_of (get_or (head (service_bits v) (length c)) 0 0) ≡ Some v = ap service_at (first-service (service_bits v) (length c) n) ∙ service-back v in
      rw (allowed_all more, opened-isdu (service_bits v) c more n, service, reply-in r can)

  pub reply-part : (k : ℕ) → k < length (reply_octets r) → verdict_of (answers r) (take k (reply_octets r)) ≡ Err GoOn
  unfolding verdict_of reply_octets
  reply-part k l = rw (allowed-part k, opened-part (service_bits (saying r)) (carried r) k (carried-count r can) l)

  reply-total : (k : ℕ) (more : List ℕ) → TotalSoFar (take k (reply_octets r ++ more)) k (length (reply_octets r))
  unfolding reply_octets
  reply-total k more = total-isdu (service_bits (saying r)) (carried r) more k (carried-count r can)

  pub brings : Brings (reply_octets r) r
  brings = record { whole = reply-back; part = reply-part; total = reply-total }

pub replies-read : (os : List ℕ) (s : Service) (r : Reply) → Replies os s r → verdict_of s os ≡ Ok r
replies-read os s r a =
    ap (λ (x : Service). verdict_of x os) (sym a.kind)
    ∙ ap (verdict_of (answers r)) (whole_of os (reply_octets r) a.begins)
    ∙ reply-back r a.can (drop (length (reply_octets r)) os)

-- ---- from the octets to the reply and back

pub record Said (s : Service) (v : IService) (c : List ℕ) (r : Reply) : Type 0 where
  pub kind : answers r ≡ s
  pub can : can_answer r ≡ true
  pub service : saying r ≡ v
  pub contents : carried r ≡ c

error-said : (c : List ℕ) (e : ℕ) → Small c → error_of c ≡ Some e → error_octets e ≡ c
error-said [] e small h = grind arith
error-said (a ∷ []) e small h = grind arith
error-said (a ∷ b ∷ []) e small h =
    let n : a * 256 + b ≡ e = cc in
    let l : b < 256 = small 1 in
    let high : e / 256 ≡ a = omega arith in
    let low : e % 256 ≡ b = omega arith in
    ap (λ (x : ℕ). x ∷ (e % 256) ∷ []) high ∙ ap (λ (x : ℕ). a ∷ x ∷ []) low
error-said (a ∷ b ∷ x ∷ c) e small h = grind arith

refused-said : (f : ℕ → Reply) (s : Service) (v : IService) (c : List ℕ) (r : Reply) (o : Option ℕ)
    → ((e : ℕ) → (answers (f e) ≡ s) × (can_answer (f e) ≡ true) × (saying (f e) ≡ v) × (carried (f e) ≡ error_octets e))
    → Small c → error_of c ≡ o → refusing f o ≡ Some r → Said s v c r
refused-said f s v c r None each small e h = grind arith
refused-said f s v c r (Some x) each small e h =
    let same : f x ≡ r = cc in
    subst (λ (y : Reply). Said s v c y) same
    (record { kind = (each x).0; can = (each x).1; service = (each x).2; contents = (each x).3 ∙ error-said c x small e })

pub said : (s : Service) (v : IService) (c : List ℕ) (r : Reply) → Small c → reply_in s (Some v) c ≡ Some r → Said s v c r
said Read (AskWrite f) c r small h = grind arith
said Read (AskRead f) c r small h = grind arith
said Read WriteRefused c r small h = grind arith
said Read WriteDone c r small h = grind arith
said Read ReadRefused c r small h = refused-said read_refused Read ReadRefused c r (error_of c) (λ e. (refl, refl, refl, refl)) small refl h
said Read ReadDone c r small h = go (cases_Bool (leb (length c) 232))
  where
    go : (leb (length c) 232 ≡ true) ⊎ (leb (length c) 232 ≡ false) → Said Read ReadDone c r
    go (inl fits) =
        let g : ◌≡◌ {A = Option Reply} (Some (read_done c)) (Some r) = rw fits at h in
        let same : read_done c ≡ r = cc in
        subst (λ (y : Reply). Said Read ReadDone c y) same (record { kind = refl; can = fits; service = refl; contents = refl })
    go (inr off) = let g : ◌≡◌ {A = Option Reply} None (Some r) = rw off at h in grind arith
said Write (AskWrite f) c r small h = grind arith
said Write (AskRead f) c r small h = grind arith
said Write WriteRefused c r small h = refused-said write_refused Write WriteRefused c r (error_of c) (λ e. (refl, refl, refl, refl)) small refl h
said Write WriteDone [] r small h =
    let same : write_done ≡ r = cc in
    subst (λ (y : Reply). Said Write WriteDone [] y) same (record { kind = refl; can = refl; service = refl; contents = refl })
said Write WriteDone (x ∷ c) r small h = grind arith
said Write ReadRefused c r small h = grind arith
said Write ReadDone c r small h = grind arith

-- ---- what the writer owes, by what it answers

pub brings-written : (r : Reply) (w : Option (List ℕ)) → MatchOption w (can_answer r ≡ false) (λ x. (can_answer r ≡ true) × (x ≡ reply_octets r))
    → IfSome w (λ x. Brings x r)
brings-written r None e = tt
brings-written r (Some x) e = subst (λ (os : List ℕ). Brings os r) (sym e.1) (brings r e.0)
