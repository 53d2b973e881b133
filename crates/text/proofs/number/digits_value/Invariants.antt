use Rattle.std.proofs.Common.{◌≡◌, ◌≤◌, drop, Some}
use Rattle.text.specs.Number.{value_after}
use Rattle.text.proofs.number.digits_value.Given as goal

abbrev pub invariant-loop-b : goal.invariant-loop-b
invariant-loop-b l = (value_after l.radix (Some 0) l.digits ≡ value_after l.radix (Some l.number) (drop l.b-index l.digits)) × (l.number ≤ l.most)
