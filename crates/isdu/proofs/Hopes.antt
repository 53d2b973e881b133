-- While octets are to come, some reply of the kind can still come.
use Rattle.std.proofs.Common.{◌≡◌, ℕ, suc, ◌+◌, ◌-◌, ◌*◌, ◌/◌, ◌%◌, ◌<◌, ◌≤◌, true, false, ◌⊎◌, List, [], ◌∷◌, ◌++◌, length, get_or, take, drop, replicate, Ok, Err, sym, refl, ap, ◌∙◌, inl, inr, arith}
use Rattle.octets.specs.Octets.{fitted}
use Rattle.octets.proofs.Fitted.{fitted-filled, length-fitted}
use Rattle.std.proofs.Math.Seq.{take-append_seam}
use Rattle.std.proofs.lemmas.List.{append_assoc, nil_from_length, take_all, take-append-drop}
use Rattle.std.proofs.lemmas.Bool.{le-leb}
use Rattle.std.proofs.lemmas.Bool.Decides.{nat_tests}
use Rattle.isdu.specs.Isdu.{closed, head, xor_of}
use Rattle.isdu.specs.Opened.{opened, opened_by}
use Rattle.isdu.specs.Reply.{Reply, answers, can_answer, write_refused, write_done, read_refused, read_done}
use Rattle.isdu.specs.Response.{Hopeful, long_head, reply_octets, ruled_out}
use Rattle.isdu.specs.Total.{total_of}
use Rattle.isdu.specs.declared.opened.NoIsdu.TheVariants.{Incomplete}
use Rattle.isdu.specs.declared.service.Service.{Service}
use Rattle.isdu.specs.declared.service.Service.TheVariants.{Read, Write}
use Rattle.isdu.proofs.Closed.{head-long, head-short}
use Rattle.isdu.proofs.Reopened.{Small}

-- octets that a reply begins with
begun : (os : List ℕ) (s : Service) (r : Reply) → answers r ≡ s → can_answer r ≡ true → take (length os) (reply_octets r) ≡ os → Hopeful os s
begun os s r kind can e =
    let all : os ++ drop (length os) (reply_octets r) ≡ reply_octets r =
    ap (λ (l : List ℕ). l ++ drop (length os) (reply_octets r)) (sym e) ∙ take-append-drop (length os) (reply_octets r) in
    record {
      more = drop (length os) (reply_octets r);
      reply = r;
      comes = record { kind = kind; can = can; begins = ap (take (length (reply_octets r))) all ∙ take_all (length (reply_octets r)) (reply_octets r) (omega arith) };
    }

incomplete-says : (os : List ℕ) (t : ℕ) → total_of os ≡ Ok t → opened os ≡ Err Incomplete → length os < t
incomplete-says os t e h = let g : opened_by (Ok t) os ≡ Err Incomplete = rw e at h in grind (arith, nat_tests)

-- contents that begin with what came, and the last octet behind them
taken : (n : ℕ) (os : List ℕ) (x : ℕ) → length os ≤ n → take (length os) (fitted n os ++ x ∷ []) ≡ os
taken n os x l =
    rw (fitted-filled n os l, append_assoc os (replicate (n - length os) 0) (x ∷ [])) (take-append_seam os (replicate (n - length os) 0 ++ x ∷ []))

-- ---- a refusal

abbrev error_begun : List ℕ → ℕ
error_begun rest = get_or rest 0 0 * 256 + get_or rest 1 0

refusal-taken : (first last : ℕ) (rest : List ℕ) → Small rest → length rest ≤ 2
    → take (suc (length rest)) (first ∷ (error_begun rest / 256) ∷ (error_begun rest % 256) ∷ last ∷ []) ≡ first ∷ rest
refusal-taken first last [] small l = refl
refusal-taken first last (h ∷ []) small l =
    let high : (h * 256 + 0) / 256 ≡ h = omega arith in ap (λ (x : ℕ). first ∷ x ∷ []) high
refusal-taken first last (h ∷ b ∷ []) small l =
    let few : b < 256 = small 1 in
    let high : (h * 256 + b) / 256 ≡ h = omega arith in
    let low : (h * 256 + b) % 256 ≡ b = omega arith in
    ap (λ (x : ℕ). first ∷ x ∷ ((h * 256 + b) % 256) ∷ []) high ∙ ap (λ (x : ℕ). first ∷ h ∷ x ∷ []) low
refusal-taken first last (h ∷ b ∷ x ∷ rest) small l = absurd (let z : ⊥ = omega arith in z)

tail-small : (a : ℕ) (rest : List ℕ) → Small (a ∷ rest) → Small rest
tail-small a rest small i = small (suc i)

hope-write : (a : ℕ) (rest : List ℕ) → Small (a ∷ rest) → (a ≡ 0x44) ⊎ (a ≡ 0x52) → opened (a ∷ rest) ≡ Err Incomplete → Hopeful (a ∷ rest) Write
unfolding reply_octets
hope-write a rest small (inl e) h =
    let g : opened (0x44 ∷ rest) ≡ Err Incomplete = rw e at h in
    let few : suc (length rest) < 4 = incomplete-says (0x44 ∷ rest) 4 refl g in
    rw e (begun (0x44 ∷ rest) Write (write_refused (error_begun rest)) refl refl (refusal-taken 0x44 _ rest (tail-small a rest small) (omega arith)))
hope-write a rest small (inr e) h =
    let g : opened (0x52 ∷ rest) ≡ Err Incomplete = rw e at h in
    let few : suc (length rest) < 2 = incomplete-says (0x52 ∷ rest) 2 refl g in
    rw (e, nil_from_length rest (omega arith)) (begun (0x52 ∷ []) Write write_done refl refl refl)

-- ---- a read

read_short : (a : ℕ) (rest : List ℕ) → a / 16 ≡ 0xd → 2 ≤ a % 16 → opened (a ∷ rest) ≡ Err Incomplete → Hopeful (a ∷ rest) Read
unfolding reply_octets
read_short a rest d l h =
    let t : total_of (a ∷ rest) ≡ Ok (a % 16) = grind (arith, nat_tests) in
    let few : suc (length rest) < a % 16 = incomplete-says (a ∷ rest) (a % 16) t h in
    let c : List ℕ = fitted (a % 16 - 2) rest in
    let n : length (fitted (a % 16 - 2) rest) ≡ a % 16 - 2 = length-fitted (a % 16 - 2) rest in
    let hd : head 0xd (length (fitted (a % 16 - 2) rest)) ≡ a ∷ [] =
    head-short 0xd (length (fitted (a % 16 - 2) rest)) (omega arith) ∙ ap (λ (x : ℕ). x ∷ []) (omega arith) in
    begun (a ∷ rest) Read (read_done (fitted (a % 16 - 2) rest)) refl (le-leb _ 232 (omega arith))
    (ap (λ (x : List ℕ). take (suc (length rest)) (closed (x ++ fitted (a % 16 - 2) rest))) hd
    ∙ ap (λ (x : List ℕ). a ∷ x) (taken (a % 16 - 2) rest (xor_of (a ∷ fitted (a % 16 - 2) rest)) (omega arith)))

long-begun : (t : ℕ) (rest : List ℕ) → 17 ≤ t → t ≤ 235 → length rest ≤ t - 3 → Hopeful (0xd1 ∷ t ∷ rest) Read
unfolding reply_octets
long-begun t rest low high few =
    let n : length (fitted (t - 3) rest) ≡ t - 3 = length-fitted (t - 3) rest in
    let hd : head 0xd (length (fitted (t - 3) rest)) ≡ 0xd1 ∷ t ∷ [] =
    head-long 0xd (length (fitted (t - 3) rest)) (omega arith) ∙ ap (λ (x : ℕ). 0xd1 ∷ x ∷ []) (omega arith) in
    begun (0xd1 ∷ t ∷ rest) Read (read_done (fitted (t - 3) rest)) refl (le-leb _ 232 (omega arith))
    (ap (λ (x : List ℕ). take (suc (suc (length rest))) (closed (x ++ fitted (t - 3) rest))) hd
    ∙ ap (λ (x : List ℕ). 0xd1 ∷ t ∷ x) (taken (t - 3) rest (xor_of (0xd1 ∷ t ∷ fitted (t - 3) rest)) few))

read-long : (rest : List ℕ) → long_head rest ≡ true → opened (0xd1 ∷ rest) ≡ Err Incomplete → Hopeful (0xd1 ∷ rest) Read
unfolding reply_octets
read-long [] fits h = begun (0xd1 ∷ []) Read (read_done (fitted 14 [])) refl refl refl
read-long (t ∷ rest) fits h =
    let low : 17 ≤ t = grind (arith, nat_tests) in
    let high : t ≤ 235 = grind (arith, nat_tests) in
    let total : total_of (0xd1 ∷ t ∷ rest) ≡ Ok t = grind (arith, nat_tests) in
    let few : suc (suc (length rest)) < t = incomplete-says (0xd1 ∷ t ∷ rest) t total h in
    long-begun t rest low high (omega arith)

hope-read : (a : ℕ) (rest : List ℕ) → Small (a ∷ rest) → (a ≡ 0xc4) ⊎ (((a / 16 ≡ 0xd) × (2 ≤ a % 16)) ⊎ ((a ≡ 0xd1) × (long_head rest ≡ true)))
    → opened (a ∷ rest) ≡ Err Incomplete → Hopeful (a ∷ rest) Read
unfolding reply_octets
hope-read a rest small (inl e) h =
    let g : opened (0xc4 ∷ rest) ≡ Err Incomplete = rw e at h in
    let few : suc (length rest) < 4 = incomplete-says (0xc4 ∷ rest) 4 refl g in
    rw e (begun (0xc4 ∷ rest) Read (read_refused (error_begun rest)) refl refl (refusal-taken 0xc4 _ rest (tail-small a rest small) (omega arith)))
hope-read a rest small (inr (inl e)) h = read_short a rest e.0 e.1 h
hope-read a rest small (inr (inr e)) h = rw e.0 (read-long rest e.1 (rw e.0 at h))

-- ---- either

write-heads : (a : ℕ) (rest : List ℕ) → ruled_out Write (a ∷ rest) ≡ false → (a ≡ 0x44) ⊎ (a ≡ 0x52)
write-heads a rest h = grind (arith, nat_tests)

read-heads : (a : ℕ) (rest : List ℕ) → ruled_out Read (a ∷ rest) ≡ false
    → (a ≡ 0xc4) ⊎ (((a / 16 ≡ 0xd) × (2 ≤ a % 16)) ⊎ ((a ≡ 0xd1) × (long_head rest ≡ true)))
read-heads a rest h = grind (arith, nat_tests)

pub hopeful : (s : Service) (os : List ℕ) → Small os → ruled_out s os ≡ false → opened os ≡ Err Incomplete → Hopeful os s
unfolding reply_octets
hopeful Write [] small r h = begun [] Write write_done refl refl refl
hopeful Read [] small r h = begun [] Read (read_done []) refl refl refl
hopeful Write (a ∷ rest) small r h = hope-write a rest small (write-heads a rest r) h
hopeful Read (a ∷ rest) small r h = hope-read a rest small (read-heads a rest r) h
