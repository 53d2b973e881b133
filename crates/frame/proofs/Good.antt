-- What it takes for a message to have no fault.
use Rattle.std.proofs.Common.{◌≡◌, ℕ, ◌+◌, ◌/◌, ◌%◌, ◌<◌, Bool, true, false, cond, List, map, length, get_or, Some, None, refl, arith, eq-eqb, eqb-true}
use Rattle.std.specs.List.{AllByRecursion}
use Rattle.characters.specs.Character.{Char, octet}
use Rattle.frame.specs.Check.{check_at}
use Rattle.characters.specs.Fault.{odd, silent}
use Rattle.frame.specs.Fault.{miscounted, mistyped, unchecked}
use Rattle.frame.specs.Message.{master_count, master_fault, answer_count, answer_fault, answered_od}
use Rattle.characters.proofs.Right.{all-even, even-all, evens, first-none, no-odd, none_first, not-silent, parity, right, some_of}
use Rattle.control.specs.declared.channel.Access.{Access}
use Rattle.characters.specs.declared.fault.Fault.{Fault}

passed : (b : Bool) (f : Fault) → cond b None (Some f) ≡ None → b ≡ true
passed true f h = refl
passed false f h = grind arith

pass : (b : Bool) (f : Fault) → b ≡ true → cond b None (Some f) ≡ None
pass b f e = rw e

-- A message of the demanded count whose octet at place k carries the right check.
pub record Good (n k : ℕ) (cs : List ℕ) : Type 0 where
  pub some : 0 < length cs
  pub chars : AllByRecursion Char cs
  pub count : length (map octet cs) ≡ n
  pub check : get_or (map octet cs) k 0 % 64 ≡ check_at k (map octet cs)

-- ---- Master messages

pub master-good : (kind n q : ℕ) (cs : List ℕ) → AllByRecursion (λ c. c < 512) cs → master_fault kind n q cs ≡ None
    → Good (master_count n q (map octet cs)) 1 cs × (get_or (map octet cs) 1 0 / 64 ≡ kind)
unfolding master_fault
master-good kind n q cs nine h =
    let s = first-none (silent cs) _ h in
    let o = first-none (odd cs) _ s.1 in
    let m = first-none (miscounted (master_count n q (map octet cs)) (map octet cs)) _ o.1 in
    let t = first-none (mistyped kind 1 (map octet cs)) _ m.1 in
    let u = first-none (unchecked 1 (map octet cs)) _ t.1 in (
      record {
        some = some_of cs s.0;
        chars = right cs nine (even-all 0 cs (parity cs o.0));
        count = eqb-true _ _ (passed _ _ m.0);
        check = eqb-true _ _ (passed _ _ u.0);
      },
      eqb-true _ _ (passed _ _ t.0),
    )

pub good-master : (kind n q : ℕ) (cs : List ℕ) → Good (master_count n q (map octet cs)) 1 cs → get_or (map octet cs) 1 0 / 64 ≡ kind
    → master_fault kind n q cs ≡ None
unfolding master_fault
good-master kind n q cs g t =
    none_first (silent cs) _ (not-silent cs g.some)
    (none_first (odd cs) _ (no-odd cs (all-even 0 cs (evens cs g.chars)))
    (none_first (miscounted (master_count n q (map octet cs)) (map octet cs)) _ (pass _ _ (eq-eqb _ _ g.count))
    (none_first (mistyped kind 1 (map octet cs)) _ (pass _ _ (eq-eqb _ _ t))
    (none_first (unchecked 1 (map octet cs)) _ (pass _ _ (eq-eqb _ _ g.check)) refl))))

-- ---- answers

pub answer-good : (n p : ℕ) (a : Access) (cs : List ℕ) → AllByRecursion (λ c. c < 512) cs → answer_fault n p a cs ≡ None
    → Good (answer_count n p a) (answered_od a n + p) cs
unfolding answer_fault
answer-good n p a cs nine h =
    let s = first-none (silent cs) _ h in
    let o = first-none (odd cs) _ s.1 in
    let m = first-none (miscounted (answer_count n p a) (map octet cs)) _ o.1 in
    let u = first-none (unchecked (answered_od a n + p) (map octet cs)) _ m.1 in
    record {
      some = some_of cs s.0;
      chars = right cs nine (even-all 0 cs (parity cs o.0));
      count = eqb-true _ _ (passed _ _ m.0);
      check = eqb-true _ _ (passed _ _ u.0);
    }

pub good-answer : (n p : ℕ) (a : Access) (cs : List ℕ) → Good (answer_count n p a) (answered_od a n + p) cs → answer_fault n p a cs ≡ None
unfolding answer_fault
good-answer n p a cs g =
    none_first (silent cs) _ (not-silent cs g.some)
    (none_first (odd cs) _ (no-odd cs (all-even 0 cs (evens cs g.chars)))
    (none_first (miscounted (answer_count n p a) (map octet cs)) _ (pass _ _ (eq-eqb _ _ g.count))
    (none_first (unchecked (answered_od a n + p) (map octet cs)) _ (pass _ _ (eq-eqb _ _ g.check)) refl)))
