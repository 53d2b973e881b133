-- What is written carries the order.
use Rattle.std.proofs.Common.{List, ℕ, subst, sym}
use Rattle.std.proofs.lemmas.Result.{MatchResult-weaker}
use Rattle.isdu.specs.Order.{order_view}
use Rattle.isdu.specs.Request.{Carries, request_octets}
use Rattle.isdu.proofs.Requests.{carries}
use Rattle.isdu.proofs.request.write_request.Goals as goal

pub returns : goal.returns
unfolding request_octets
returns c =
    let e = c.request_of.ensures in
    record {
      value = e;
      back = MatchResult-weaker c.request_of.result e (λ w is. subst (λ (os : List ℕ). Carries os (order_view c.args.order.now)) (sym is.1) (carries (order_view c.args.order.now) is.0)) (λ why is. tt);
    }
