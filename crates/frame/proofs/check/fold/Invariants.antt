use Rattle.std.proofs.Common.{◌≡◌, take, fold}
use lib.Bits.{bit_xor}
use Rattle.frame.specs.Check.{cleared}
use Rattle.frame.proofs.check.fold.Given as goal

abbrev pub invariant-loop-i : goal.invariant-loop-i
invariant-loop-i l = l.fold ≡ fold bit_xor 0x52 (take l.i (cleared l.place l.octets))
