-- The head decides.
use Rattle.std.proofs.Common.{arith}
use Rattle.isdu.proofs.Verdicts.{ruled-just}
use Rattle.isdu.proofs.response.rules_out.Goals as goal

pub returns : goal.returns
returns c =
    record {
      value = c.has_no_head.ensures;
      just = ruled-just c.args.octets.now c.args.service c.has_no_head.result (λ i. omega (arith, c.type_inv.octets i)) c.has_no_head.ensures;
    }
