-- What is written brings the reply.
use Rattle.isdu.specs.Reply.{reply_view}
use Rattle.isdu.specs.Response.{reply_octets}
use Rattle.isdu.proofs.Replies.{brings-written}
use Rattle.isdu.proofs.response.write_reply.Goals as goal

pub returns : goal.returns
unfolding reply_octets
returns c =
    let e = c.reply_row.ensures in
    record { value = e; back = brings-written (reply_view c.args.reply.now) c.reply_row.result e }
