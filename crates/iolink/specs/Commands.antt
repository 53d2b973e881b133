-- What the commands of a script give, by the rules of the line that is open.
use Rattle.std.specs.Prelude.{◌≡◌, ℕ, true, false, List, [], length, Some, None, Ok, Err, vec_items, Option, MatchOption, MatchResult}
use Rattle.characters.specs.Character.{load_refusal}
use Rattle.characters.specs.Numbers.{refusal_number}
use Rattle.control.specs.declared.channel.Access.{Access}
use Rattle.frame.specs.Lengths.{lengths_fit}
use Rattle.frame.specs.Message.{AnswerParts, MasterParts, answered_od, sent_od}
use Rattle.frame.specs.View.{answer_view, answer_with, answered_by, master_view, master_with, received_by, sent_by, taken_by}
use Rattle.frame.specs.declared.codec.Codec.{Codec}
use Rattle.frame.specs.declared.message.SequenceType.TheVariants.{Type2}
use Rattle.isdu.specs.Order.{Order, can_ask, held_order, order_with}
use Rattle.isdu.specs.Reply.{held_reply}
use Rattle.isdu.specs.Request.{request_octets, request_of}
use Rattle.isdu.specs.Response.{verdict_of}
use Rattle.isdu.specs.declared.service.Service.{Service}
use Rattle.iolink.specs.declared.outcome.Outcome.{Outcome}
use Rattle.iolink.specs.declared.outcome.Outcome.TheVariants.{Opened, Refused, Message, Answer, Faulty, Written, Request, Response, Encoded}
use Rattle.script.specs.declared.command.Command.{Command}
use Rattle.script.specs.declared.command.Command.TheVariants.{OpenFrame, Message as ReadMessage, Answer as ReadAnswer, Put, Reply, Request as ReadRequest, Response as ReadResponse, Encode}
use Rattle.script.specs.Lines.{IsCommand}
use Rattle.script.specs.Words.{first_word, said}

-- `open frame n p q`: a line of type 2 with these lengths, or a refusal that leaves what was open.
abbrev pub Opens : ℕ → ℕ → ℕ → Option Codec → Option Codec → Outcome → Type 0
Opens n p q before after (Opened l) =
    (lengths_fit n p q ≡ true) × (l.od ≡ n) × (l.pd_in ≡ p) × (l.pd_out ≡ q)
    × MatchOption after ⊥ (λ d. (d.lengths ≡ l) × (d.kind ≡ Type2))
Opens n p q before after (Refused e) = (lengths_fit n p q ≡ false) × (refusal_number e ≡ 3) × (after ≡ before)
Opens n p q before after _ = ⊥

-- `message`: the refusal of the load, else the fault, else the parts.
abbrev pub Receives : Codec → List ℕ → Outcome → Type 0
Receives d cs (Refused e) = load_refusal cs ≡ Some (refusal_number e)
Receives d cs (Message m) = (load_refusal cs ≡ None) × (received_by d cs ≡ Ok (master_view m))
Receives d cs (Faulty g) = (load_refusal cs ≡ None) × (received_by d cs ≡ Err g.fault)
Receives d cs _ = ⊥

-- `answer`, likewise.
abbrev pub Takes : Codec → Access → List ℕ → Outcome → Type 0
Takes d a cs (Refused e) = load_refusal cs ≡ Some (refusal_number e)
Takes d a cs (Answer r) = (load_refusal cs ≡ None) × (taken_by d a cs ≡ Ok (answer_view r))
Takes d a cs (Faulty g) = (load_refusal cs ≡ None) × (taken_by d a cs ≡ Err g.fault)
Takes d a cs _ = ⊥

-- What is written.
abbrev pub Writes : List ℕ → Outcome → Type 0
Writes cs (Written w) = w ≡ cs
Writes cs _ = ⊥

-- `request`: the order, or why there is none.
abbrev pub Asks : List ℕ → Outcome → Type 0
Asks os (Request q) = MatchResult q (λ h. request_of os ≡ Ok (held_order h)) (λ e. request_of os ≡ Err e)
Asks os _ = ⊥

-- `response`: what the octets say of the reply.
abbrev pub Judges : Service → List ℕ → Outcome → Type 0
Judges s os (Response v) = MatchResult v (λ h. verdict_of s os ≡ Ok (held_reply h)) (λ e. verdict_of s os ≡ Err e)
Judges s os _ = ⊥

-- `encode`: the request, or the refusal of an order that has none.
abbrev pub Encodes : Order → Outcome → Type 0
Encodes order (Refused e) = (can_ask order ≡ false) × (refusal_number e ≡ 9)
Encodes order (Encoded os) = (can_ask order ≡ true) × (os ≡ request_octets order)
Encodes order _ = ⊥

-- `put` and `reply` take exactly the octets that the line carries.
abbrev pub PutCounts : Codec → MasterParts → Type 0
PutCounts d m = (length m.outputs ≡ d.lengths.pd_out) × (length m.on_request ≡ sent_od m.access d.lengths.od)

abbrev pub ReplyCounts : Codec → Access → AnswerParts → Type 0
ReplyCounts d a r = (length r.on_request ≡ answered_od a d.lengths.od) × (length r.inputs ≡ d.lengths.pd_in)

-- What they write, on the line that is open.
abbrev pub Puts : MasterParts → Outcome → Codec → Type 0
Puts m o d = PutCounts d m × Writes (sent_by d m) o

abbrev pub Replies : Access → AnswerParts → Outcome → Codec → Type 0
Replies a r o d = ReplyCounts d a r × Writes (answered_by d a r) o

-- What a command gives, and what is open after it. Only `open` changes that; messages and answers want a line that is open.
abbrev pub Obeys : Option Codec → Option Codec → Command → Outcome → Type 0
Obeys before after (OpenFrame n p q) o = Opens n p q before after o
Obeys before after (ReadMessage cs) o = (after ≡ before) × MatchOption before ⊥ (λ d. Receives d (vec_items cs) o)
Obeys before after (ReadAnswer c cs) o = (after ≡ before) × MatchOption before ⊥ (λ d. Takes d c.access (vec_items cs) o)
Obeys before after (Put m) o = (after ≡ before) × MatchOption before ⊥ (Puts (master_with vec_items m) o)
Obeys before after (Reply c r) o = (after ≡ before) × MatchOption before ⊥ (Replies c.access (answer_with vec_items r) o)
Obeys before after (ReadRequest os) o = (after ≡ before) × Asks (vec_items os) o
Obeys before after (ReadResponse s os) o = (after ≡ before) × Judges s (vec_items os) o
Obeys before after (Encode order) o = (after ≡ before) × Encodes (order_with vec_items order) o

-- A line of a script: no command, which leaves what is open, or a command that is obeyed.
abbrev pub Plays : Option Codec → Option Codec → List ℕ → Option Outcome → Type 0
Plays before after line None = (first_word (said line) ≡ []) × (after ≡ before)
Plays before after line (Some o) = (c : Command) × IsCommand (said line) c × Obeys before after c o
