-- The octets of a reply, written and read.
use Rattle.std.specs.Prelude.{◌≡◌, ℕ, ◌+◌, ◌*◌, ◌/◌, ◌%◌, ◌<◌, Bool, true, false, cond, not, ◌&&◌, ◌||◌, List, [], ◌∷◌, ◌++◌, length, take, Some, None, Ok, Err, Option, Result, ◌==◌, nat_le}
use Rattle.isdu.specs.Isdu.{Begins, isdu}
use Rattle.isdu.specs.Opened.{opened}
use Rattle.isdu.specs.Reply.{Reply, answers, can_answer, write_refused, write_done, read_refused, read_done}
use Rattle.isdu.specs.Service.{service_bits, service_of}
use Rattle.isdu.specs.Total.{TotalSoFar}
use Rattle.isdu.specs.declared.opened.NoIsdu.{NoIsdu}
use Rattle.isdu.specs.declared.opened.NoIsdu.TheVariants.{Incomplete, BadTotal, NotWellFormed}
use Rattle.isdu.specs.declared.reply.NoReply.{NoReply}
use Rattle.isdu.specs.declared.reply.NoReply.TheVariants.{Incomplete as GoOn, Broken}
use Rattle.isdu.specs.declared.service.IService.{IService}
use Rattle.isdu.specs.declared.service.IService.TheVariants.{Write as AskWrite, Read as AskRead, WriteRefused, WriteDone, ReadRefused, ReadDone}
use Rattle.isdu.specs.declared.service.Service.{Service}
use Rattle.isdu.specs.declared.service.Service.TheVariants.{Read, Write}

-- ---- written

-- An error type has two octets, the high one first.
abbrev pub error_octets : ℕ → List ℕ
error_octets e = (e / 256) ∷ (e % 256) ∷ []

-- The I-Service of a reply, and what it carries.
abbrev pub saying : Reply → IService
saying (write_refused e) = WriteRefused
saying write_done = WriteDone
saying (read_refused e) = ReadRefused
saying (read_done d) = ReadDone

abbrev pub carried : Reply → List ℕ
carried (write_refused e) = error_octets e
carried write_done = []
carried (read_refused e) = error_octets e
carried (read_done d) = d

unfoldable pub reply_octets : Reply → List ℕ
reply_octets r = isdu (service_bits (saying r)) (carried r)

-- ---- read

abbrev pub error_of : List ℕ → Option ℕ
error_of [] = None
error_of (h ∷ []) = None
error_of (h ∷ l ∷ []) = Some (h * 256 + l)
error_of (h ∷ l ∷ x ∷ os) = None

abbrev pub refusing : (ℕ → Reply) → Option ℕ → Option Reply
refusing f None = None
refusing f (Some e) = Some (f e)

abbrev pub done_with : List ℕ → Option Reply
done_with [] = Some write_done
done_with (x ∷ os) = None

-- The reply of an I-Service and contents to a write, and to a read.
abbrev pub write_reply : IService → List ℕ → Option Reply
write_reply (AskWrite f) os = None
write_reply (AskRead f) os = None
write_reply WriteRefused os = refusing write_refused (error_of os)
write_reply WriteDone os = done_with os
write_reply ReadRefused os = None
write_reply ReadDone os = None

abbrev pub read_reply : IService → List ℕ → Option Reply
read_reply (AskWrite f) os = None
read_reply (AskRead f) os = None
read_reply WriteRefused os = None
read_reply WriteDone os = None
read_reply ReadRefused os = refusing read_refused (error_of os)
read_reply ReadDone os = cond (nat_le (length os) 232) (Some (read_done os)) None

abbrev pub reply_in : Service → Option IService → List ℕ → Option Reply
reply_in s None os = None
reply_in Read (Some v) os = read_reply v os
reply_in Write (Some v) os = write_reply v os

-- Heads that a reply to a write, or to a read, can have: 4 with Length 4 or 5 with Length 2; C with Length 4, or D with a total of up to 235.
abbrev pub long_head : List ℕ → Bool
long_head [] = true
long_head (second ∷ os) = nat_le 17 second && nat_le second 235

abbrev pub head_of : Service → ℕ → List ℕ → Bool
head_of Write first rest = first == 0x44 || first == 0x52
head_of Read first rest = first == 0xc4 || (first / 16 == 0xd && (nat_le 2 (first % 16) || (first % 16 == 1 && long_head rest)))

-- The first octet, or the first two, rule out every reply of the kind.
abbrev pub ruled_out : Service → List ℕ → Bool
ruled_out s [] = false
ruled_out s (first ∷ rest) = not (head_of s first rest)

abbrev pub judged : Option Reply → Result Reply NoReply
judged None = Err Broken
judged (Some r) = Ok r

-- Octets that are no ISDU: no reply comes of them, or not yet.
abbrev pub no_reply : NoIsdu → NoReply
no_reply Incomplete = GoOn
no_reply BadTotal = Broken
no_reply NotWellFormed = Broken

abbrev pub judge : Service → Result (ℕ × List ℕ) NoIsdu → Result Reply NoReply
judge s (Err e) = Err (no_reply e)
judge s (Ok p) = judged (reply_in s (service_of p.0) p.1)

-- Broken with the octets that rule out every reply, otherwise when the total is there.
unfoldable pub verdict_of : Service → List ℕ → Result Reply NoReply
verdict_of s os = cond (ruled_out s os) (Err Broken) (judge s (opened os))

-- ---- laws

-- Octets that begin with a reply to an order of the kind.
pub record Replies (os : List ℕ) (s : Service) (r : Reply) : Type 0 where
  pub kind : answers r ≡ s
  pub can : can_answer r ≡ true
  pub begins : Begins os (reply_octets r)

-- No such reply can come of the octets, whatever follows them.
abbrev pub Hopeless : List ℕ → Service → Type 0
Hopeless os s = (more : List ℕ) (r : Reply) → Replies (os ++ more) s r → ⊥

-- Some such reply can still come.
pub record Hopeful (os : List ℕ) (s : Service) : Type 0 where
  pub more : List ℕ
  pub reply : Reply
  pub comes : Replies (os ++ more) s reply

-- A verdict is right: the one reply that the octets begin with, or more octets of a reply that can still come, or none can.
abbrev pub Just : List ℕ → Service → Result Reply NoReply → Type 0
Just os s (Err GoOn) = Hopeful os s
Just os s (Err Broken) = Hopeless os s
Just os s (Ok r) = Replies os s r × ((x : Reply) → Replies os s x → x ≡ r)

-- A reply that is written: whole, it is complete, whatever follows; in part, the reader goes on; and the total that its first octets say is its length.
pub record Brings (os : List ℕ) (r : Reply) : Type 0 where
  pub whole : (more : List ℕ) → verdict_of (answers r) (os ++ more) ≡ Ok r
  pub part : (k : ℕ) → k < length os → verdict_of (answers r) (take k os) ≡ Err GoOn
  pub total : (k : ℕ) (more : List ℕ) → TotalSoFar (take k (os ++ more)) k (length os)
