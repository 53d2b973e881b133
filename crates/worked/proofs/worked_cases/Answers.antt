-- Each case by computation.
use Rattle.std.proofs.Common.{refl}
use lib.Count.{ones, ones_in}
use Rattle.frame.specs.Message.{answer_message, master_fault, master_message}
use Rattle.worked.proofs.worked_cases.Goals as goal

pub returns-clause-hold : goal.returns-clause-hold
unfolding ones ones_in answer_message master_fault master_message
returns-clause-hold c = (refl, (refl, (refl, (refl, (refl, tt)))))
