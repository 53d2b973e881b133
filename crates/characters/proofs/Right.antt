-- What it takes for characters to have no fault.
use Rattle.std.proofs.Common.{◌≡◌, ℕ, ◌+◌, ◌%◌, ◌<◌, eqb, List, [], ◌∷◌, length, Some, None, Option, refl, inl, inr, arith, eq-eqb, eqb-true}
use lib.Count.{ones}
use Rattle.std.specs.List.{AllByRecursion}
use Rattle.std.specs.Option.{option_map}
use Rattle.std.proofs.ByRecursion.{All-weaker}
use Rattle.std.proofs.lemmas.Bool.{cases_Bool}
use Rattle.characters.specs.Character.{Char, odd_from}
use Rattle.characters.specs.Fault.{first_of, odd, silent}
use Rattle.characters.specs.declared.fault.Fault.{Fault}
use Rattle.characters.specs.declared.fault.Fault.TheVariants.{Parity}

-- the first of several faults is none where each is none
pub first-none : (x : Option Fault) (fs : List (Option Fault)) → first_of (x ∷ fs) ≡ None → (x ≡ None) × (first_of fs ≡ None)
first-none None fs h = (refl, h)
first-none (Some f) fs h = grind arith

pub none_first : (x : Option Fault) (fs : List (Option Fault)) → x ≡ None → first_of fs ≡ None → first_of (x ∷ fs) ≡ None
none_first None fs e h = h
none_first (Some f) fs e h = grind arith

-- parity
pub even-all : (i : ℕ) (cs : List ℕ) → odd_from i cs ≡ None → AllByRecursion (λ c. ones c % 2 ≡ 0) cs
even-all i [] h = tt
even-all i (c ∷ cs) h =
    elim (cases_Bool (eqb (ones c % 2) 0)) [
      | inl e ↦ (eqb-true (ones c % 2) 0 e, even-all (i + 1) cs (rw e at h))
      | inr e ↦ (let k : Some i ≡ None = rw e at h in grind arith)
    ]

pub all-even : (i : ℕ) (cs : List ℕ) → AllByRecursion (λ c. ones c % 2 ≡ 0) cs → odd_from i cs ≡ None
all-even i [] h = refl
all-even i (c ∷ cs) h = rw (eq-eqb (ones c % 2) 0 h.0) (all-even (i + 1) cs h.1)

-- nine bits and an even count of ones: right characters
pub right : (cs : List ℕ) → AllByRecursion (λ c. c < 512) cs → AllByRecursion (λ c. ones c % 2 ≡ 0) cs → AllByRecursion Char cs
right [] h k = tt
right (c ∷ cs) h k = ((h.0, k.0), right cs h.1 k.1)

pub evens : (cs : List ℕ) → AllByRecursion Char cs → AllByRecursion (λ c. ones c % 2 ≡ 0) cs
evens cs h = All-weaker Char (λ c. ones c % 2 ≡ 0) (λ c k. k.1) cs h

pub some_of : (cs : List ℕ) → silent cs ≡ None → 0 < length cs
some_of [] h = grind arith
some_of (c ∷ cs) h = omega arith

pub not-silent : (cs : List ℕ) → 0 < length cs → silent cs ≡ None
not-silent [] h = absurd (let z : ⊥ = omega arith in z)
not-silent (c ∷ cs) h = refl

-- parity, from either side
pub parity : (cs : List ℕ) → odd cs ≡ None → odd_from 0 cs ≡ None
parity cs h = go (odd_from 0 cs) h
  where
    go : (o : Option ℕ) → option_map Parity o ≡ None → o ≡ None
    go None e = refl
    go (Some i) e = grind arith

pub no-odd : (cs : List ℕ) → odd_from 0 cs ≡ None → odd cs ≡ None
no-odd cs e = rw e

pub all_right : (cs : List ℕ) → AllByRecursion (λ c. c < 512) cs → first_of (silent cs ∷ odd cs ∷ []) ≡ None → AllByRecursion Char cs
all_right cs nine h = right cs nine (even-all 0 cs (parity cs (first-none (odd cs) [] (first-none (silent cs) (odd cs ∷ []) h).1).0))

-- characters that are there, none of them odd, have no fault of their own
pub no-fault : (cs : List ℕ) → 0 < length cs → odd_from 0 cs ≡ None → first_of (silent cs ∷ odd cs ∷ []) ≡ None
no-fault cs some even = none_first (silent cs) (odd cs ∷ []) (not-silent cs some) (none_first (odd cs) [] (no-odd cs even) refl)
