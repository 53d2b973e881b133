-- What is read is the order that the octets ask for, and no other.
use Rattle.std.proofs.Common.{arith}
use Rattle.std.proofs.lemmas.Result.{MatchResult-weaker}
use Rattle.isdu.specs.Request.{request_of}
use Rattle.isdu.proofs.Requests.{asked, not-asked}
use Rattle.isdu.proofs.request.read_request.Goals as goal

pub returns : goal.returns
unfolding request_of
returns c =
    let e = c.order_of.ensures in
    record {
      value = e;
      asked = MatchResult-weaker c.order_of.result e (λ o is. asked _ _ (λ i. omega (arith, c.type_inv.octets i)) is) (λ why is. tt);
      unasked = MatchResult-weaker c.order_of.result e (λ o is. tt) (λ why is. not-asked _ why is);
    }
