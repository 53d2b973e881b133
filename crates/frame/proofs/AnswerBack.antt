-- Answers: what is written is read back, what is read is what its parts write, and no small damage passes.
use Rattle.std.proofs.Common.{◌≡◌, ℕ, suc, ◌+◌, ◌*◌, ◌/◌, ◌%◌, ◌<◌, ◌≤◌, Bool, true, false, List, [], ◌∷◌, ◌++◌, map, length, get_or, take, drop, set, None, Ok, sym, refl, ap, ◌∙◌, subst, arith, length-append, length-drop, length-take, take-add}
use lib.ListN.{length-map}
use Rattle.std.specs.List.{AllByRecursion}
use Rattle.std.proofs.lemmas.List.Elements.{recursion_from_All}
use Rattle.std.proofs.ByRecursion.{All-get_or, All-take}
use Rattle.std.proofs.lemmas.List.{append_assoc, drop_all, drop_at, get_or_at, set_at, set_split, take_at}
use Rattle.std.proofs.lemmas.Bool.Decides.{nat_tests}
use Rattle.characters.specs.Character.{octet}
use Rattle.frame.specs.Check.{check_at}
use Rattle.frame.specs.Disturbed.{turned, Sturdy}
use Rattle.frame.specs.Message.{AnswerParts, answer_count, answer_fault, answer_fit, answer_message, answer_octets, answer_parts, answered_od, bit, read_answer, sealed, status_bits, unless}
use Rattle.octets.specs.Octets.{fitted}
use Rattle.control.specs.declared.channel.Access.{Access}
use Rattle.frame.proofs.Apart.{apart, turned-nine}
use Rattle.characters.proofs.OneToOne.{octets-below}
use Rattle.octets.proofs.Fitted.{fitted-exact, length-fitted}
use Rattle.frame.proofs.Good.{Good, answer-good, good-answer}
use Rattle.frame.proofs.Sealed.{check-small, good-sealed, octets-sealed, opened, sealed-good}

-- ---- the octet with flag and mark

status-clear : (e i : Bool) → status_bits e i % 64 ≡ 0
status-clear true true = refl
status-clear true false = refl
status-clear false true = refl
status-clear false false = refl

flag-back : (e i : Bool) (c : ℕ) → c < 64 → bit 128 (status_bits e i + c) ≡ e
flag-back e i c h = grind (arith, nat_tests)

mark-back : (e i : Bool) (c : ℕ) → c < 64 → bit 64 (status_bits e i + c) ≡ i
mark-back e i c h = grind (arith, nat_tests)

status-upper : (t : ℕ) → t < 256 → status_bits (bit 128 t) (bit 64 t) ≡ t / 64 * 64
status-upper t h = grind (arith, nat_tests)

-- ---- an answer's octets by their place: xs before, ys next, and one octet last

last-at : (xs ys : List ℕ) (x n : ℕ) → length xs + length ys ≡ n → get_or (xs ++ ys ++ x ∷ []) n 0 ≡ x
last-at xs ys x n l = get_or_at (xs ++ ys) x [] 0 n (length-append xs ys ∙ l)

last_set : (xs ys : List ℕ) (x y n : ℕ) → length xs + length ys ≡ n → set (xs ++ ys ++ x ∷ []) n y ≡ xs ++ ys ++ y ∷ []
last_set xs ys x y n l = set_at (xs ++ ys) x [] y n (length-append xs ys ∙ l)

length-all : (xs ys : List ℕ) (x n : ℕ) → length xs + length ys ≡ n → length (xs ++ ys ++ x ∷ []) ≡ n + 1
length-all xs ys x n l = omega (arith, length-append (xs ++ ys) (x ∷ []), length-append xs ys)

-- before the check is added, its six bits are 0
pub answer-clear : (n p : ℕ) (a : Access) (r : AnswerParts) (row : List ℕ) (k : ℕ) → row ≡ answer_octets n p a r → k ≡ answered_od a n + p
    → (k < length row) × (get_or row k 0 % 64 ≡ 0)
answer-clear n p a r row k e h =
    let od : List ℕ = fitted (answered_od a n) r.on_request in
    let ins : List ℕ = fitted p r.inputs in
    let s : ℕ = status_bits r.event r.invalid in
    let sum : length od + length ins ≡ k = omega (arith, length-fitted (answered_od a n) r.on_request, length-fitted p r.inputs) in (
      omega (arith, ap length e, length-all od ins s k sum),
      ap (λ (l : List ℕ). get_or l k 0 % 64) e ∙ ap (λ (x : ℕ). x % 64) (last-at od ins s k sum) ∙ status-clear r.event r.invalid,
    )

-- ---- written, then read

pub same_parts : (od od' ins ins' : List ℕ) (e e' i i' : Bool) → od ≡ od' → ins ≡ ins' → e ≡ e' → i ≡ i'
    → ◌≡◌ {A = AnswerParts} record { on_request = od; inputs = ins; event = e; invalid = i }
    record { on_request = od'; inputs = ins'; event = e'; invalid = i' }
same_parts od od' ins ins' e e' i i' h₁ h₂ h₃ h₄ = rw (h₁, h₂, h₃, h₄)

-- the parts of od, ins and an octet v, in this order
parts-of : (n p : ℕ) (a : Access) (od ins : List ℕ) (v : ℕ) (e i : Bool) → length od ≡ answered_od a n → length ins ≡ p
    → bit 128 v ≡ e → bit 64 v ≡ i
    → answer_parts n p a (od ++ ins ++ v ∷ []) ≡ record { on_request = od; inputs = ins; event = e; invalid = i }
parts-of n p a od ins v e i lo li he hi =
    let k : ℕ = answered_od a n in
    let all = append_assoc od ins (v ∷ []) in
    let front : take k (od ++ ins ++ v ∷ []) ≡ od = ap (take k) all ∙ take_at od (ins ++ v ∷ []) k lo in
    let rest : drop k (od ++ ins ++ v ∷ []) ≡ ins ++ v ∷ [] = ap (drop k) all ∙ drop_at od (ins ++ v ∷ []) k lo in
    let last : get_or (od ++ ins ++ v ∷ []) (k + p) 0 ≡ v = last-at od ins v (k + p) (omega arith) in
    same_parts _ _ _ _ _ _ _ _ front (ap (take p) rest ∙ take_at ins (v ∷ []) p li) (ap (bit 128) last ∙ he) (ap (bit 64) last ∙ hi)

pub answer_back : (n p : ℕ) (a : Access) (r : AnswerParts) → AllByRecursion (λ o. o < 256) (answer_octets n p a r) → read_answer n p a (answer_message n p a r) ≡ Ok (answer_fit n p a r)
unfolding answer_message
answer_back n p a r all =
    let k : ℕ = answered_od a n in
    let od : List ℕ = fitted k r.on_request in
    let ins : List ℕ = fitted p r.inputs in
    let s : ℕ = status_bits r.event r.invalid in
    let os : List ℕ = answer_octets n p a r in
    let lo : length od ≡ k = length-fitted k r.on_request in
    let li : length ins ≡ p = length-fitted p r.inputs in
    let sum : length od + length ins ≡ k + p = omega arith in
    let last : get_or os (k + p) 0 ≡ s = last-at od ins s (k + p) sum in
    let count : length os ≡ k + p + 1 = length-all od ins s (k + p) sum in
    let clear : get_or os (k + p) 0 % 64 ≡ 0 = ap (λ (x : ℕ). x % 64) last ∙ status-clear r.event r.invalid in
    let within : k + p < length os = omega arith in
    let v : ℕ = get_or os (k + p) 0 + check_at (k + p) os in
    let value : v ≡ s + check_at (k + p) os = ap (λ (x : ℕ). x + check_at (k + p) os) last in
    let e : map octet (sealed (k + p) os) ≡ od ++ ins ++ v ∷ [] = octets-sealed (k + p) os all within clear ∙ last_set od ins s v (k + p) sum in
    let g = sealed-good (k + p) os all within clear in
    let small = check-small (k + p) os in
    let none : answer_fault n p a (sealed (k + p) os) ≡ None =
    good-answer n p a (sealed (k + p) os) (subst (λ (x : ℕ). Good x (k + p) (sealed (k + p) os)) count g) in
    ap (λ f. unless f (answer_parts n p a (map octet (sealed (k + p) os)))) none
    ∙ ap (λ (l : List ℕ). Ok (answer_parts n p a l)) e
    ∙ ap Ok (
    parts-of n p a od ins v r.event r.invalid lo li (ap (bit 128) value ∙ flag-back r.event r.invalid (check_at (k + p) os) small) (ap (bit 64) value ∙ mark-back r.event r.invalid (check_at (k + p) os) small)
    )

-- ---- read, then written

parts-octets : (n p : ℕ) (a : Access) (os : List ℕ) → AllByRecursion (λ o. o < 256) os → length os ≡ answer_count n p a
    → answer_octets n p a (answer_parts n p a os) ≡ opened (answered_od a n + p) os
parts-octets n p a os h l =
    let k : ℕ = answered_od a n in
    let t : ℕ = get_or os (k + p) 0 in
    let less : k + p < length os = omega arith in
    let od = fitted-exact k (take k os) (let e : length (take k os) ≡ k = omega (arith, length-take k os) in e) in
    let ins = fitted-exact p (take p (drop k os)) (let e : length (take p (drop k os)) ≡ p = omega (arith, length-take p (drop k os), length-drop k os) in e) in
    let s = status-upper t (All-get_or (λ o. o < 256) os (k + p) 0 less h) in
    let front = take-add k p os in
    let rest = drop_all (suc (k + p)) os (let e : length os ≤ suc (k + p) = omega arith in e) in
    let split = set_split os (k + p) (t / 64 * 64) less in
    cc

pub answer-written : (n p : ℕ) (a : Access) (cs : List ℕ) → AllByRecursion (λ c. c < 512) cs → answer_fault n p a cs ≡ None
    → cs ≡ answer_message n p a (answer_parts n p a (map octet cs))
unfolding answer_message
answer-written n p a cs nine h =
    let k : ℕ = answered_od a n + p in
    let g = answer-good n p a cs nine h in
    let within : k < length (map octet cs) = omega (arith, g.count) in
    sym (
    ap (sealed k) (parts-octets n p a (map octet cs) (octets-below cs) g.count)
    ∙ good-sealed (answer_count n p a) k cs g within
    )

-- ---- disturbed

pub answer-sturdy : (n p : ℕ) (a : Access) (cs : List ℕ) → AllByRecursion (λ c. c < 512) cs → answer_fault n p a cs ≡ None → Sturdy (answer_fault n p a) cs
answer-sturdy n p a cs nine h =
    let g = answer-good n p a cs nine h in
    record {
      good = h;
      bits = λ ms l small low high h'. apart (answered_od a n + p) cs ms g (answer-good n p a (turned cs ms) (turned-nine cs ms nine (recursion_from_All (λ m. m < 512) ms small)) h') l low high;
      cut = λ k less h'.
          omega (
            arith,
            g.count,
            (answer-good n p a (take k cs) (All-take (λ c. c < 512) k cs nine) h').count,
            length-map cs octet,
            length-map (take k cs) octet,
            length-take k cs,
          );
    }
