-- What the slice has of the count, and then the filling.
use Rattle.std.proofs.Common.{◌≡◌, ℕ, ◌-◌, List, length, take, replicate, ◌∙◌, ap, arith, length-take}
use Rattle.std.proofs.lemmas.List.{append_assoc, take_min}
use Rattle.octets.proofs.Fitted.{fitted-take}
use Rattle.octets.proofs.append.Row+u8+N.append.Goals as goal

pub returns-clause-after : goal.returns-clause-after
returns-clause-after g c =
    let more : List ℕ = c.args.more.now in
    let cut : List ℕ = take c.min.result more in
    let cut-is : cut ≡ take c.args.count more = ap (λ k. take k more) c.min.ensures ∙ take_min c.args.count more in
    let filling : c.loop.counter - length cut ≡ c.args.count - length more = omega (arith, length-take c.min.result more) in
    let after = c.in_ok-extend_from_slice.ensures.after in
    let whole = fitted-take c.args.count more in
    let grouped = append_assoc c.args.self.now cut (replicate (c.loop.counter - length cut) 0) in
    let filled = ap (λ k. replicate {A = ℕ} k 0) filling in
    cc (c.loop.invariant, after)
