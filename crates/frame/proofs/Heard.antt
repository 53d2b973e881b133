-- The faults of the characters come before those of the octets.
use Rattle.std.proofs.Common.{◌≡◌, ℕ, ◌<◌, List, All, [], ◌∷◌, map, Some, None, Option, sym, refl, ap, ◌∙◌, arith}
use Rattle.std.specs.List.{AllByRecursion}
use Rattle.std.proofs.lemmas.List.Elements.{All-weaker, recursion_from_All}
use Rattle.characters.specs.Character.{Char, octet}
use Rattle.characters.specs.Fault.{first_of, odd, silent}
use Rattle.characters.specs.declared.fault.Fault.{Fault}
use Rattle.control.specs.declared.channel.Access.{Access}
use Rattle.frame.specs.Message.{answer_fault, answer_tests, master_fault, master_tests}

before : (x y : Option Fault) (fs : List (Option Fault)) → first_of (x ∷ y ∷ []) ≡ None → first_of (x ∷ y ∷ fs) ≡ first_of fs
before None None fs h = refl
before None (Some f) fs h = grind arith
before (Some f) y fs h = grind arith

first : (x y : Option Fault) (fs : List (Option Fault)) (f : Fault) → first_of (x ∷ y ∷ []) ≡ Some f → first_of (x ∷ y ∷ fs) ≡ Some f
first None None fs f h = grind arith
first None (Some g) fs f h = h
first (Some g) y fs f h = h

-- ---- of a Master message: where the characters have a fault, and where they have none

pub master-characters : (kind n q : ℕ) (cs : List ℕ) (f : Fault) → first_of (silent cs ∷ odd cs ∷ []) ≡ Some f → master_fault kind n q cs ≡ Some f
unfolding master_fault
master-characters kind n q cs f h = first (silent cs) (odd cs) (master_tests kind n q (map octet cs)) f h

pub master-octets : (kind n q : ℕ) (cs os : List ℕ) (o : Option Fault) → first_of (silent cs ∷ odd cs ∷ []) ≡ None → os ≡ map octet cs
    → o ≡ first_of (master_tests kind n q os) → master_fault kind n q cs ≡ o
unfolding master_fault
master-octets kind n q cs os o h e v =
    before (silent cs) (odd cs) (master_tests kind n q (map octet cs)) h ∙ sym (v ∙ ap (λ (l : List ℕ). first_of (master_tests kind n q l)) e)

-- ---- of an answer

pub answer-characters : (n p : ℕ) (a : Access) (cs : List ℕ) (f : Fault) → first_of (silent cs ∷ odd cs ∷ []) ≡ Some f → answer_fault n p a cs ≡ Some f
unfolding answer_fault
answer-characters n p a cs f h = first (silent cs) (odd cs) (answer_tests n p a (map octet cs)) f h

pub answer-octets : (n p : ℕ) (a : Access) (cs os : List ℕ) (o : Option Fault) → first_of (silent cs ∷ odd cs ∷ []) ≡ None → os ≡ map octet cs
    → o ≡ first_of (answer_tests n p a os) → answer_fault n p a cs ≡ o
unfolding answer_fault
answer-octets n p a cs os o h e v =
    before (silent cs) (odd cs) (answer_tests n p a (map octet cs)) h ∙ sym (v ∙ ap (λ (l : List ℕ). first_of (answer_tests n p a l)) e)

-- right characters have nine bits
pub nine : (cs : List ℕ) → All Char cs → AllByRecursion (λ c. c < 512) cs
nine cs h = recursion_from_All (λ c. c < 512) cs (All-weaker Char (λ c. c < 512) (λ c k. k.0) cs h)
