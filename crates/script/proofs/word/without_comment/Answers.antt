use Rattle.std.proofs.Common.{rules, tests}
use Rattle.script.specs.Words.{is_hash}
use Rattle.script.proofs.Fronts.{IsCutAt-from_position}
use Rattle.script.proofs.word.without_comment.Goals as goal

pub returns : goal.returns
returns c =
    let cut = IsCutAt-from_position is_hash c.args.line.now c.position.ensures.ran c.iter.ensures.rest (λ x b q k. search (rules, tests)) in
    cc
