-- Each turn pushes what f gives for the next element, and there is room for as many as there are.
use Rattle.std.proofs.Common.{arith, length-take}
use Rattle.std.proofs.lemmas.Slice.Zip.{AllZip-long}
use Rattle.octets.proofs.Rows.{AllZip-more}
use Rattle.octets.proofs.row.Row.map.Goals as goal

pub unwrap-requires : goal.unwrap-requires
unwrap-requires g c =
    let xs = c.as_slice-item-items.result.now in
    let long = AllZip-long _ _ _ c.loop-item.invariant in
    c.push.ensures.room.1 (omega (arith, long, length-take c.loop-item.item-index xs))

pub loop-item-preserved : goal.loop-item-preserved
loop-item-preserved g c =
    AllZip-more _ _ c.loop-item.item-index c.item-item.result _ _ c.f.result c.loop-item-test.true c.item-item.is c.loop-item.invariant c.f.ensures
    (rw c.unwrap.ensures at c.push.ensures.after)
