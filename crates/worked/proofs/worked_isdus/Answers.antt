-- Each case by computation.
use Rattle.std.proofs.Common.{refl}
use Rattle.isdu.specs.Request.{request_octets}
use Rattle.isdu.specs.Response.{reply_octets}
use Rattle.worked.proofs.worked_isdus.Goals as goal

pub returns-clause-hold : goal.returns-clause-hold
unfolding request_octets reply_octets
returns-clause-hold c = (refl, (refl, (refl, (refl, (refl, ((λ d e. rw e), ((λ d e. rw e), ((λ d e. rw e), tt))))))))
