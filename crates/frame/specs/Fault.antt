-- The tests that the octets of a good message pass, and the fault where one fails.
use Rattle.std.specs.Prelude.{ℕ, ◌/◌, ◌%◌, cond, List, length, Some, None, Option, ◌==◌, slice_index}
use Rattle.characters.specs.declared.fault.Fault.{Fault}
use Rattle.characters.specs.declared.fault.Fault.TheVariants.{Length, WrongType, Check}
use Rattle.frame.specs.Check.{check_at}

abbrev pub miscounted : ℕ → List ℕ → Option Fault
miscounted count os = cond (length os == count) None (Some (Length (length os)))

-- bits 7 and 6 of the octet at place k are the M-sequence type
abbrev pub mistyped : ℕ → ℕ → List ℕ → Option Fault
mistyped kind k os = cond (slice_index os k / 64 == kind) None (Some WrongType)

-- bits 0 to 5 of the octet at place k are the check
abbrev pub unchecked : ℕ → List ℕ → Option Fault
unchecked k os = cond (slice_index os k % 64 == check_at k os) None (Some Check)
