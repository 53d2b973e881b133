-- So many pieces carry the octets.
use Rattle.std.proofs.Common.{◌≡◌, ℕ, length, arith, sym, subst}
use Rattle.std.proofs.lemmas.Bool.Decides.{nat_tests}
use Rattle.isdu.specs.Pieces.{Pieced, piece_count}
use Rattle.isdu.proofs.Cuts.{pieced}
use Rattle.isdu.proofs.pieces.count_pieces.Goals as goal

pub returns-else-size-eq0-clause-pieced : goal.returns-else-size-eq0-clause-pieced
returns-else-size-eq0-clause-pieced c some =
    let e : c.div_ceil.result ≡ piece_count c.args.size (length c.args.octets.now) = grind (arith, nat_tests) in
    subst (λ (k : ℕ). Pieced c.args.size k c.args.octets.now) (sym e) (pieced c.args.size c.args.octets.now some)
