-- What is read so far, and the digits that are left, give the number of the digits.
use Rattle.std.proofs.Common.{sym, ◌∙◌, arith}
use Rattle.text.proofs.Values.{some-value, value-ge, value_none}
use Rattle.text.proofs.number.digits_value.Goals as goal

pub returns-in_default : goal.returns-in_default
returns-in_default c =
    some-value c.args.radix c.args.digits.now (omega arith)
    ∙ value_none c.args.radix c.loop-b.number c.args.digits.now c.loop-b.b-index c.loop-b-test.true c.in_default.ensures.value c.loop-b.invariant.0

pub returns-then-next-from : goal.returns-then-next-from
returns-then-next-from c n e =
    let whole = some-value c.args.radix c.args.digits.now (omega arith) in
    let least = value-ge c.args.radix c.loop-b.number c.in-Some.digit c.args.digits.now c.loop-b.b-index n (omega arith) c.loop-b-test.true c.in-Some.ensures.value c.loop-b.invariant.0 (sym whole ∙ e) in
    grind (arith, least)
