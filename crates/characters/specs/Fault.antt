-- The tests that good characters pass, and the first fault of several.
use Rattle.std.specs.Prelude.{ℕ, List, [], ◌∷◌, Some, None, Option}
use Rattle.characters.specs.Character.{odd_from}
use Rattle.characters.specs.declared.fault.Fault.{Fault}
use Rattle.characters.specs.declared.fault.Fault.TheVariants.{Silence, Parity}
use Rattle.std.specs.Option.{option_map}

abbrev pub first_of : List (Option Fault) → Option Fault
first_of [] = None
first_of (None ∷ fs) = first_of fs
first_of (Some f ∷ fs) = Some f

abbrev pub silent : List ℕ → Option Fault
silent [] = Some Silence
silent (c ∷ cs) = None

abbrev pub odd : List ℕ → Option Fault
odd cs = option_map Parity (odd_from 0 cs)
