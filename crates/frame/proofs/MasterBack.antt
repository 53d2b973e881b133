-- Master messages: what is written is read back, what is read is what its parts write, and no small damage passes.
use Rattle.std.proofs.Common.{◌≡◌, ℕ, zero, suc, ◌+◌, ◌*◌, ◌/◌, ◌<◌, true, List, [], ◌∷◌, ◌++◌, map, length, get_or, take, drop, None, Ok, sym, refl, ap, ◌∙◌, subst, arith, length-append, length-drop, take-append-drop, length-take}
use lib.ListN.{length-map}
use Rattle.std.specs.List.{AllByRecursion}
use Rattle.std.proofs.lemmas.List.Elements.{recursion_from_All}
use Rattle.std.proofs.ByRecursion.{All-take}
use Rattle.std.proofs.lemmas.List.{take_at, drop_at}
use Rattle.characters.specs.Character.{octet}
use Rattle.frame.specs.Check.{check_at}
use Rattle.control.specs.Control.{access_of, control_octet, is_channel}
use Rattle.frame.specs.Disturbed.{turned, Sturdy}
use Rattle.frame.specs.Message.{MasterParts, master_count, master_fault, master_fit, master_message, master_octets, master_parts, read_master, sealed, sent_od, unless}
use Rattle.octets.specs.Octets.{fitted}
use Rattle.control.specs.declared.channel.Access.{Access}
use Rattle.control.specs.declared.channel.Channel.{Channel}
use Rattle.frame.proofs.Apart.{apart, turned-nine}
use Rattle.characters.proofs.OneToOne.{octets-below}
use Rattle.control.proofs.Controls.{control-access, control-back, control-channel}
use Rattle.octets.proofs.Fitted.{fitted-exact, length-fitted}
use Rattle.frame.proofs.Good.{Good, good-master, master-good}
use Rattle.frame.proofs.Sealed.{check-small, good-sealed, octets-sealed, opened, sealed-good}

-- ---- written, then read

pub same_parts : (a a' : Access) (ch ch' : Channel) (outs outs' od od' : List ℕ) → a ≡ a' → ch ≡ ch' → outs ≡ outs' → od ≡ od'
    → ◌≡◌ {A = MasterParts} record { access = a; channel = ch; outputs = outs; on_request = od }
    record { access = a'; channel = ch'; outputs = outs'; on_request = od' }
same_parts a a' ch ch' outs outs' od od' e₁ e₂ e₃ e₄ = rw (e₁, e₂, e₃, e₄)

pub master-back : (kind n q : ℕ) (m : MasterParts) → kind < 4 → is_channel m.channel ≡ true → AllByRecursion (λ o. o < 256) (master_octets kind n q m)
    → read_master kind n q (master_message kind n q m) ≡ Ok (master_fit n q m)
unfolding master_message
master-back kind n q m h exists all =
    let s : ℕ = sent_od m.access n in
    let c : ℕ = control_octet m.access m.channel in
    let outs : List ℕ = fitted q m.outputs in
    let od : List ℕ = fitted s m.on_request in
    let os : List ℕ = master_octets kind n q m in
    let small = check-small 1 os in
    let e : map octet (sealed 1 os) ≡ c ∷ (kind * 64 + check_at 1 os) ∷ (outs ++ od) = octets-sealed 1 os all (omega arith) (omega arith) in
    let g : Good (length os) 1 (sealed 1 os) = sealed-good 1 os all (omega arith) (omega arith) in
    let a : access_of c ≡ m.access = control-access m.access m.channel exists in
    let count : length os ≡ master_count n q (map octet (sealed 1 os)) =
    (let l : length os ≡ 2 + (q + s) = omega (arith, length-append outs od, length-fitted q m.outputs, length-fitted s m.on_request) in l)
    ∙ ap (λ (x : Access). 2 + (q + sent_od x n)) (sym a)
    ∙ ap (master_count n q) (sym e) in
    let kinds : get_or (map octet (sealed 1 os)) 1 0 / 64 ≡ kind =
    ap (λ (l : List ℕ). get_or l 1 0 / 64) e ∙ (let k : (kind * 64 + check_at 1 os) / 64 ≡ kind = omega arith in k) in
    let none : master_fault kind n q (sealed 1 os) ≡ None =
    good-master kind n q (sealed 1 os) (subst (λ (x : ℕ). Good x 1 (sealed 1 os)) count g) kinds in
    ap (λ f. unless f (master_parts q (map octet (sealed 1 os)))) none
    ∙ ap (λ (l : List ℕ). Ok (master_parts q l)) e
    ∙ ap Ok (
    same_parts _ _ _ _ _ _ _ _ a (control-channel m.access m.channel exists) (take_at outs od q (length-fitted q m.outputs)) (drop_at outs od q (length-fitted q m.outputs))
    )

-- ---- read, then written

-- the octets of the parts are those read, with the check taken out
parts-octets : (kind n q : ℕ) (os : List ℕ) → AllByRecursion (λ o. o < 256) os → length os ≡ master_count n q os → get_or os 1 0 / 64 ≡ kind
    → master_octets kind n q (master_parts q os) ≡ opened 1 os
parts-octets kind n q [] h l k = absurd (let z : ⊥ = omega arith in z)
parts-octets kind n q (a ∷ []) h l k = absurd (let z : ⊥ = omega arith in z)
parts-octets kind n q (a ∷ b ∷ d) h l k =
    let s : ℕ = sent_od (access_of a) n in
    let c = control-back a h.0 in
    let outs = fitted-exact q (take q d) (let t : length (take q d) ≡ q = omega (arith, length-take q d) in t) in
    let od = fitted-exact s (drop q d) (let t : length (drop q d) ≡ s = omega (arith, length-drop q d) in t) in
    let j = take-append-drop q d in
    let u : kind * 64 ≡ b / 64 * 64 = ap (λ (x : ℕ). x * 64) (sym k) in
    cc

pub master-written : (kind n q : ℕ) (cs : List ℕ) → AllByRecursion (λ c. c < 512) cs → master_fault kind n q cs ≡ None
    → cs ≡ master_message kind n q (master_parts q (map octet cs))
unfolding master_message
master-written kind n q cs nine h =
    let g = master-good kind n q cs nine h in
    let two : 1 < length (map octet cs) = omega (arith, g.0.count) in
    sym (
    ap (sealed 1) (parts-octets kind n q (map octet cs) (octets-below cs) g.0.count g.1)
    ∙ good-sealed (master_count n q (map octet cs)) 1 cs g.0 two
    )

-- ---- disturbed

cut-first : (k : ℕ) (cs : List ℕ) → 0 < k → get_or (map octet (take k cs)) 0 0 ≡ get_or (map octet cs) 0 0
cut-first zero cs h = absurd (let z : ⊥ = omega arith in z)
cut-first (suc k) [] h = refl
cut-first (suc k) (c ∷ cs) h = refl

master-cut : (kind n q : ℕ) (cs : List ℕ) (k : ℕ) → AllByRecursion (λ c. c < 512) cs → master_fault kind n q cs ≡ None → k < length cs
    → master_fault kind n q (take k cs) ≡ None → ⊥
master-cut kind n q cs k nine h less h' =
    let g = (master-good kind n q cs nine h).0 in
    let g' = (master-good kind n q (take k cs) (All-take (λ c. c < 512) k cs nine) h').0 in
    let first = cut-first k cs (let t : 0 < k = omega (arith, g'.some, length-take k cs) in t) in
    omega (
      arith,
      g.count,
      g'.count,
      ap (λ (x : ℕ). sent_od (access_of x) n) first,
      length-map cs octet,
      length-map (take k cs) octet,
      length-take k cs,
    )

pub master-sturdy : (kind n q : ℕ) (cs : List ℕ) → AllByRecursion (λ c. c < 512) cs → master_fault kind n q cs ≡ None → Sturdy (master_fault kind n q) cs
master-sturdy kind n q cs nine h =
    record {
      good = h;
      bits = λ ms l small low high h'. apart 1 cs ms (master-good kind n q cs nine h).0 (master-good kind n q (turned cs ms) (turned-nine cs ms nine (recursion_from_All (λ m. m < 512) ms small)) h').0 l low high;
      cut = λ k less h'. master-cut kind n q cs k nine h less h';
    }
