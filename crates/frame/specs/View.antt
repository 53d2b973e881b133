-- The program's messages and answers as their parts, and what a codec makes of them.
use Rattle.std.specs.Prelude.{ℕ, List, Ok, Err, Option, Result}
use Rattle.characters.specs.Fault.{first_of}
use Rattle.frame.specs.Message.{MasterParts, AnswerParts, answer_fault, answer_fit, answer_message, answer_octets, answer_tests, master_fault, master_fit, master_message, master_octets, master_tests, read_answer, read_master}
use Rattle.control.specs.declared.channel.Access.{Access}
use Rattle.frame.specs.declared.codec.Codec.{Codec}
use Rattle.characters.specs.declared.fault.Fault.{Fault}
use Rattle.frame.specs.declared.message.Answer.{Answer}
use Rattle.frame.specs.declared.message.MasterMessage.{MasterMessage}
use Rattle.frame.specs.declared.message.SequenceType.{SequenceType}
use Rattle.frame.specs.declared.message.SequenceType.TheVariants.{Type0, Type1, Type2}

abbrev pub kind_bits : SequenceType → ℕ
kind_bits Type0 = 0
kind_bits Type1 = 1
kind_bits Type2 = 2

-- By what the octets stand for.
abbrev pub master_with : {D : Type 0} → (D → List ℕ) → MasterMessage D → MasterParts
master_with f m =
    record {
      access = m.control.access;
      channel = m.control.channel;
      outputs = f m.outputs;
      on_request = f m.on_request;
    }

abbrev pub answer_with : {D : Type 0} → (D → List ℕ) → Answer D → AnswerParts
answer_with f r = record { on_request = f r.on_request; inputs = f r.inputs; event = r.event; invalid = r.invalid }

abbrev pub master_view : MasterMessage (List ℕ) → MasterParts
master_view = master_with (λ os. os)

abbrev pub answer_view : Answer (List ℕ) → AnswerParts
answer_view = answer_with (λ os. os)

abbrev pub heard : {A B : Type 0} → (A → B) → Result A Fault → Result B Fault
heard view (Ok m) = Ok (view m)
heard view (Err f) = Err f

-- ---- Master messages on a line with the codec's lengths and M-sequence type

abbrev pub sent_by : Codec → MasterParts → List ℕ
sent_by d m = master_message (kind_bits d.kind) d.lengths.od d.lengths.pd_out m

-- its octets before the check is added, and the first fault of octets
abbrev pub sent_octets : Codec → MasterParts → List ℕ
sent_octets d m = master_octets (kind_bits d.kind) d.lengths.od d.lengths.pd_out m

abbrev pub sent_test : Codec → List ℕ → Option Fault
sent_test d os = first_of (master_tests (kind_bits d.kind) d.lengths.od d.lengths.pd_out os)

abbrev pub sent_fault : Codec → List ℕ → Option Fault
sent_fault d cs = master_fault (kind_bits d.kind) d.lengths.od d.lengths.pd_out cs

abbrev pub received_by : Codec → List ℕ → Result MasterParts Fault
received_by d cs = read_master (kind_bits d.kind) d.lengths.od d.lengths.pd_out cs

-- cut or filled up with 00 to what the line carries
abbrev pub carried_by : Codec → MasterParts → MasterParts
carried_by d m = master_fit d.lengths.od d.lengths.pd_out m

-- ---- answers to an access

abbrev pub answered_by : Codec → Access → AnswerParts → List ℕ
answered_by d a r = answer_message d.lengths.od d.lengths.pd_in a r

abbrev pub answered_octets : Codec → Access → AnswerParts → List ℕ
answered_octets d a r = answer_octets d.lengths.od d.lengths.pd_in a r

abbrev pub answered_test : Codec → Access → List ℕ → Option Fault
answered_test d a os = first_of (answer_tests d.lengths.od d.lengths.pd_in a os)

abbrev pub answered_fault : Codec → Access → List ℕ → Option Fault
answered_fault d a cs = answer_fault d.lengths.od d.lengths.pd_in a cs

abbrev pub taken_by : Codec → Access → List ℕ → Result AnswerParts Fault
taken_by d a cs = read_answer d.lengths.od d.lengths.pd_in a cs

abbrev pub returned_by : Codec → Access → AnswerParts → AnswerParts
returned_by d a r = answer_fit d.lengths.od d.lengths.pd_in a r
