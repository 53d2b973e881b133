-- An element that is stored at the end is one more element of the row.
use Rattle.std.proofs.Common.{arith}
use Rattle.octets.proofs.Rows.{pushed}
use Rattle.octets.proofs.row.Row.push.Goals as goal

pub invariant_of-self : goal.invariant_of-self
invariant_of-self g c = pushed _ _ _ _ _ c.self.invariant (omega arith)
