-- The name is read octet by octet, and this one is long.
use Rattle.std.proofs.Common.{◌≡◌, codes, rules, arith}
use Rattle.std.proofs.lemmas.Slice.Eq.{text_from_reads}
use Rattle.script.proofs.command.arguments.Goals as goal

pub returns-in-response : goal.returns-in-response
returns-in-response c =
    let name : c.args.name.now ≡ codes "response" = text_from_reads _ _ (omega arith) (search rules) in
    rw name c.response.ensures
