-- The fold so far is that of the octets gone through, the one at `place` cleared.
use Rattle.std.proofs.Common.{◌≡◌, ℕ, ◌<◌, ◌≤◌, ◌≢◌, List, length, get_or, arith, length-set, take_all, get_or-set_other, get_or-set_same}
use lib.Bits.{bit_and, bit_xor}
use Rattle.std.proofs.lemmas.List.Sums.{fold_more}
use Rattle.frame.specs.Check.{cleared}
use Rattle.frame.proofs.check.fold.Goals as goal
use Rattle.frame.proofs.check.fold.Goals.{then-i-place, else-i-place}

pub loop-i-preserved : goal.loop-i-preserved
loop-i-preserved c =
    let os : List ℕ = c.args.octets.now in
    let k : ℕ = c.args.place in
    let i : ℕ = c.loop-i.i in
    let h : i < length (cleared k os) = simp length-set (omega arith) in
    let o : get_or (cleared k os) i 0 ≡ c.if-i-place.entering =
    elim c.if-i-place.branch [
      | then-i-place w ↦ let e = get_or-set_same os k (bit_and (get_or os k 0) 0xc0) 0 (omega arith) in cc
      | else-i-place w ↦ let ne : i ≢ k = omega arith in let e = get_or-set_other os k i (bit_and (get_or os k 0) 0xc0) 0 ne in cc
    ] in
    let e = fold_more bit_xor 0x52 (cleared k os) i 0 h in
    cc

pub returns : goal.returns
returns c =
    let os : List ℕ = c.args.octets.now in
    let h : length (cleared c.args.place os) ≤ c.loop-i.i = simp length-set (omega arith) in
    let e = take_all c.loop-i.i (cleared c.args.place os) h in
    cc
