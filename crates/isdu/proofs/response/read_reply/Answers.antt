-- The verdict is right.
use Rattle.std.proofs.Common.{arith, subst, sym}
use Rattle.isdu.specs.Response.{Just, verdict_of}
use Rattle.isdu.proofs.Verdicts.{just}
use Rattle.isdu.proofs.response.read_reply.Goals as goal

pub returns : goal.returns
unfolding verdict_of
returns c =
    record {
      value = c.verdict_on.ensures;
      just =
          subst (Just c.args.octets.now c.args.service) (sym c.verdict_on.ensures)
          (just c.args.octets.now c.args.service (λ i. omega (arith, c.type_inv.octets i)));
    }
