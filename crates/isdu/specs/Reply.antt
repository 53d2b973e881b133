-- Replies as plain values.
use Rattle.std.specs.Borrow.{Bor}
use Rattle.std.specs.Prelude.{◌≡◌, ℕ, Bool, true, false, List, length, MatchOption, Ok, Err, Option, Result, nat_le}
use Rattle.isdu.specs.declared.reply.NoReply.{NoReply}
use Rattle.isdu.specs.declared.reply.Reply.{Reply as Carried}
use Rattle.isdu.specs.declared.reply.Reply.TheVariants.{WriteRefused, WriteDone, ReadRefused, ReadDone}
use Rattle.isdu.specs.declared.service.Service.{Service}
use Rattle.isdu.specs.declared.service.Service.TheVariants.{Read, Write}

-- A refused order is answered an error type, a read that is done the octets.
pub data Reply : Type 0 where
  write_refused : ℕ → Reply
  write_done : Reply
  read_refused : ℕ → Reply
  read_done : List ℕ → Reply

-- By what the data stands for: octets that are borrowed, or held.
abbrev pub reply_with : {D : Type 0} → (D → List ℕ) → Carried D → Reply
reply_with f (WriteRefused e) = write_refused e
reply_with f WriteDone = write_done
reply_with f (ReadRefused e) = read_refused e
reply_with f (ReadDone d) = read_done (f d)

abbrev pub reply_view : Carried (Bor (List ℕ)) → Reply
reply_view = reply_with (λ d. d.now)

abbrev pub held_reply : Carried (List ℕ) → Reply
held_reply = reply_with (λ d. d)

-- The kind of order that a reply answers.
abbrev pub answers : Reply → Service
answers (write_refused e) = Write
answers write_done = Write
answers (read_refused e) = Read
answers (read_done d) = Read

-- A read has 0 to 232 octets.
abbrev pub can_answer : Reply → Bool
can_answer (write_refused e) = true
can_answer write_done = true
can_answer (read_refused e) = true
can_answer (read_done d) = nat_le (length d) 232

-- What a reader makes of the octets so far.
abbrev pub verdict_view : Result (Carried (Bor (List ℕ))) NoReply → Result Reply NoReply
verdict_view (Ok r) = Ok (reply_view r)
verdict_view (Err e) = Err e

-- What is made of a reply: P of it exactly where the reply can be given, else nothing.
abbrev pub IfCanAnswer : {A : Type 0} → Option A → Reply → (A → Type 0) → Type 0
IfCanAnswer o r P = MatchOption o (can_answer r ≡ false) (λ a. (can_answer r ≡ true) × P a)
