-- Each verdict is right: the reply, or one that can still come, or none that can.
use Rattle.std.proofs.Common.{◌≡◌, ℕ, ◌/◌, ◌%◌, ◌<◌, ◌≤◌, Bool, true, false, cond, eqb, ◌⊎◌, List, [], ◌∷◌, ◌++◌, get_or, take, Some, None, Ok, Err, MatchBool, Option, Result, sym, refl, ap, ◌∙◌, subst, inl, inr, arith}
use Rattle.std.proofs.lemmas.List.{get_or_past, get_or-take, length-take}
use Rattle.std.proofs.lemmas.Bool.{cases_Bool, cases_lt}
use Rattle.std.proofs.lemmas.Bool.Decides.{nat_tests}
use Rattle.isdu.specs.Isdu.{Begins, isdu}
use Rattle.isdu.specs.Opened.{head_count, head_so_far, opened}
use Rattle.isdu.specs.Reply.{Reply}
use Rattle.isdu.specs.Response.{Hopeful, Hopeless, Just, Replies, judge, judged, reply_in, reply_octets, ruled_out, saying, verdict_of}
use Rattle.isdu.specs.Service.{service_bits, service_of}
use Rattle.isdu.specs.declared.opened.NoIsdu.{NoIsdu}
use Rattle.isdu.specs.declared.opened.NoIsdu.TheVariants.{Incomplete, BadTotal, NotWellFormed}
use Rattle.isdu.specs.declared.reply.NoReply.{NoReply}
use Rattle.isdu.specs.declared.reply.NoReply.TheVariants.{Broken}
use Rattle.isdu.specs.declared.service.IService.{IService}
use Rattle.isdu.specs.declared.service.Service.{Service}
use Rattle.isdu.specs.declared.service.Service.TheVariants.{Read, Write}
use Rattle.isdu.proofs.Closed.{incomplete-by}
use Rattle.isdu.proofs.Further.{opened-more, ruled-more}
use Rattle.isdu.proofs.Hopes.{hopeful}
use Rattle.isdu.proofs.Reopened.{Reopened, Small, contents-octets, reopened}
use Rattle.isdu.proofs.Replies.{Said, replies-read, said}
use Rattle.isdu.proofs.Requests.{service-bits}

-- a verdict that stays broken leaves no reply
hopeless-by : (os : List ℕ) (s : Service) → ((more : List ℕ) → verdict_of s (os ++ more) ≡ Err Broken) → Hopeless os s
hopeless-by os s stays more r a =
    let z : ◌≡◌ {A = Result Reply NoReply} (Ok r) (Err Broken) = sym (replies-read (os ++ more) s r a) ∙ stays more in grind arith

ruled-hopeless : (os : List ℕ) (s : Service) → ruled_out s os ≡ true → Hopeless os s
unfolding verdict_of
ruled-hopeless os s h = hopeless-by os s stays
  where
    stays : (more : List ℕ) → verdict_of s (os ++ more) ≡ Err Broken
    stays more = rw (ruled-more s os more h)

-- octets that are there, and no reply
judged-hopeless : (os : List ℕ) (s : Service) (p : Result (ℕ × List ℕ) NoIsdu) → opened os ≡ p → (p ≡ Err Incomplete → ⊥) → judge s p ≡ Err Broken → Hopeless os s
unfolding verdict_of
judged-hopeless os s p e there h = hopeless-by os s (λ more. stays more (opened-more os more))
  where
    stays : (more : List ℕ) → (opened os ≡ Err Incomplete) ⊎ (opened (os ++ more) ≡ opened os) → verdict_of s (os ++ more) ≡ Err Broken
    stays more (inl i) = absurd (there (sym e ∙ i))
    stays more (inr same) = rw (same ∙ e, h) (elim (ruled_out s (os ++ more)) as (λ b. ◌≡◌ {A = Result Reply NoReply} (cond b (Err Broken) (Err Broken)) (Err Broken)) [ true ↦ refl | false ↦ refl ])

-- octets that are there, and a reply
said-replies : (os : List ℕ) (s : Service) (a : ℕ) (c : List ℕ) (v : IService) (r : Reply) → Reopened os a c → service_of a ≡ Some v → Said s v c r → Replies os s r
unfolding reply_octets
said-replies os s a c v r w e x =
    let same : isdu (a / 16) c ≡ reply_octets r =
    ap (λ (n : ℕ). isdu n c) (service-bits (a / 16) v e ∙ ap service_bits (sym x.service)) ∙ ap (isdu (service_bits (saying r))) (sym x.contents) in
    record { kind = x.kind; can = x.can; begins = subst (Begins os) same w.begins }

pub just : (os : List ℕ) (s : Service) → Small os → Just os s (verdict_of s os)
unfolding verdict_of
just os s small = by-head (ruled_out s os) refl (opened os) refl
  where
    only : (r : Reply) → verdict_of s os ≡ Ok r → (x : Reply) → Replies os s x → x ≡ r
    only r e x a = let h = replies-read os s x a in cc

    by-reply : (a : ℕ) (c : List ℕ) (v : IService) → ruled_out s os ≡ false → opened os ≡ Ok (a, c) → service_of a ≡ Some v → (r : Option Reply) → reply_in s (Some v) c ≡ r → Just os s (judged r)
    by-reply a c v u p e None g =
        judged-hopeless os s (Ok (a, c)) p (λ z. let y : ⊥ = grind arith in y) (ap (λ (x : Option IService). judged (reply_in s x c)) e ∙ ap judged g)
    by-reply a c v u p e (Some r) g =
        let w : Reopened os a c = reopened os a c p in
        let all : verdict_of s os ≡ Ok r = rw (u, p) (ap (λ (x : Option IService). judged (reply_in s x c)) e ∙ ap judged g) in
        (said-replies os s a c v r w e (said s v c r (contents-octets os a c small w) g), only r all)

    by-service : (a : ℕ) (c : List ℕ) → ruled_out s os ≡ false → opened os ≡ Ok (a, c) → (v : Option IService) → service_of a ≡ v → Just os s (judged (reply_in s v c))
    by-service a c u p None e = judged-hopeless os s (Ok (a, c)) p (λ z. let y : ⊥ = grind arith in y) (ap (λ (x : Option IService). judged (reply_in s x c)) e)
    by-service a c u p (Some v) e = by-reply a c v u p e (reply_in s (Some v) c) refl

    by-head : (b : Bool) → ruled_out s os ≡ b → (p : Result (ℕ × List ℕ) NoIsdu) → opened os ≡ p → Just os s (cond b (Err Broken) (judge s p))
    by-head true u p e = ruled-hopeless os s u
    by-head false u (Err Incomplete) e = hopeful s os small u e
    by-head false u (Err BadTotal) e = judged-hopeless os s (Err BadTotal) e (λ z. let y : ⊥ = grind arith in y) refl
    by-head false u (Err NotWellFormed) e = judged-hopeless os s (Err NotWellFormed) e (λ z. let y : ⊥ = grind arith in y) refl
    by-head false u (Ok (a, c)) e = by-service a c u e (service_of a) refl

-- ---- the head alone

front-small : (n : ℕ) (os : List ℕ) → Small os → Small (take n os)
front-small n os small i = go (cases_lt i n)
  where
    go : (i < n) ⊎ (n ≤ i) → get_or (take n os) i 0 < 256
    go (inl l) = rw (get_or-take n os i 0 l) (small i)
    go (inr l) = rw (get_or_past (take n os) i 0 (omega (arith, length-take n os))) (omega arith)

-- The head decides.
record HeadDecides (s : Service) (os part : List ℕ) : Type 0 where
  same : ruled_out s part ≡ ruled_out s os
  waits : ruled_out s os ≡ false → opened part ≡ Err Incomplete

short-head : (s : Service) (a : ℕ) (rest : List ℕ) → eqb (a % 16) 1 ≡ false → HeadDecides s (a ∷ rest) (a ∷ [])
short-head Write a rest e =
    record { same = refl; waits = λ u. incomplete-by (a ∷ []) 1 (a % 16) (omega arith) (grind (arith, nat_tests)) (inr (grind (arith, nat_tests))) }
short-head Read a rest e =
    record { same = grind (arith, nat_tests); waits = λ u. incomplete-by (a ∷ []) 1 (a % 16) (omega arith) (grind (arith, nat_tests)) (inr (grind (arith, nat_tests))) }

long-head : (s : Service) (a b : ℕ) (rest : List ℕ) → eqb (a % 16) 1 ≡ true → HeadDecides s (a ∷ b ∷ rest) (a ∷ b ∷ [])
long-head Write a b rest e = record { same = refl; waits = λ u. absurd (let z : ⊥ = grind (arith, nat_tests) in z) }
long-head Read a b rest e =
    record { same = refl; waits = λ u. incomplete-by (a ∷ b ∷ []) 2 b (omega arith) (grind (arith, nat_tests)) (inr (grind (arith, nat_tests))) }

first_head : (s : Service) (a : ℕ) → eqb (a % 16) 1 ≡ true → HeadDecides s (a ∷ []) (a ∷ [])
first_head s a e = record { same = refl; waits = λ u. incomplete-by (a ∷ []) 1 2 (omega arith) (omega arith) (inl (grind (arith, nat_tests), omega arith)) }

head-decides : (s : Service) (os : List ℕ) → HeadDecides s os (head_so_far os)
head-decides s [] = record { same = refl; waits = λ u. refl }
head-decides s (a ∷ rest) = go rest (cases_Bool (eqb (a % 16) 1))
  where
    go : (xs : List ℕ) → (eqb (a % 16) 1 ≡ true) ⊎ (eqb (a % 16) 1 ≡ false) → HeadDecides s (a ∷ xs) (head_so_far (a ∷ xs))
    go xs (inr e) = let h : head_so_far (a ∷ xs) ≡ a ∷ [] = rw e in subst (HeadDecides s (a ∷ xs)) (sym h) (short-head s a xs e)
    go [] (inl e) = let h : head_so_far (a ∷ []) ≡ a ∷ [] = rw e in subst (HeadDecides s (a ∷ [])) (sym h) (first_head s a e)
    go (b ∷ xs) (inl e) = let h : head_so_far (a ∷ b ∷ xs) ≡ a ∷ b ∷ [] = rw e in subst (HeadDecides s (a ∷ b ∷ xs)) (sym h) (long-head s a b xs e)

pub ruled-just : (os : List ℕ) (s : Service) (b : Bool) → Small os → b ≡ ruled_out s os → MatchBool b (Hopeless (head_so_far os) s) (Hopeful (head_so_far os) s)
ruled-just os s true small e = ruled-hopeless (head_so_far os) s ((head-decides s os).same ∙ sym e)
ruled-just os s false small e =
    let d : HeadDecides s os (head_so_far os) = head-decides s os in
    hopeful s (head_so_far os) (front-small (head_count os) os small) (d.same ∙ sym e) (d.waits (sym e))
