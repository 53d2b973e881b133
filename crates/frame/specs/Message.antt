-- The messages of both directions: as they are written, and what a receiver reads.
-- Throughout, n is how many on-request octets the line has, p inputs and q outputs; kind is the M-sequence type, 0 to 2.
use Rattle.std.specs.Prelude.{ℕ, ◌+◌, ◌*◌, ◌/◌, ◌%◌, Bool, cond, List, [], ◌∷◌, ◌++◌, map, take, drop, Some, None, Ok, Err, Option, Result, ◌==◌, slice_index, slice_set}
use Rattle.characters.specs.Character.{character, octet}
use Rattle.frame.specs.Check.{check_at}
use Rattle.control.specs.Control.{access_of, channel_of, control_octet}
use Rattle.characters.specs.Fault.{first_of, silent, odd}
use Rattle.frame.specs.Fault.{miscounted, mistyped, unchecked}
use Rattle.octets.specs.Octets.{fitted}
use Rattle.control.specs.declared.channel.Access.{Access}
use Rattle.control.specs.declared.channel.Access.TheVariants.{Read, Write}
use Rattle.control.specs.declared.channel.Channel.{Channel}
use Rattle.characters.specs.declared.fault.Fault.{Fault}

-- ---- the parts

-- What a Master message says.
pub record MasterParts : Type 0 where
  pub access : Access
  pub channel : Channel
  pub outputs : List ℕ
  pub on_request : List ℕ

-- What an answer says: invalid marks the inputs as not valid.
pub record AnswerParts : Type 0 where
  pub on_request : List ℕ
  pub inputs : List ℕ
  pub event : Bool
  pub invalid : Bool

-- On-request octets go with a write from the Master and with a read to it: how many of n, in either direction.
abbrev pub sent_od : Access → ℕ → ℕ
sent_od Write n = n
sent_od Read n = 0

abbrev pub answered_od : Access → ℕ → ℕ
answered_od Write n = 0
answered_od Read n = n

-- The parts as a line of n on-request octets and q outputs, or p inputs, carries them.
abbrev pub master_fit : ℕ → ℕ → MasterParts → MasterParts
master_fit n q m =
    record {
      access = m.access;
      channel = m.channel;
      outputs = fitted q m.outputs;
      on_request = fitted (sent_od m.access n) m.on_request;
    }

abbrev pub answer_fit : ℕ → ℕ → Access → AnswerParts → AnswerParts
answer_fit n p a r =
    record {
      on_request = fitted (answered_od a n) r.on_request;
      inputs = fitted p r.inputs;
      event = r.event;
      invalid = r.invalid;
    }

-- ---- written

-- The octets with the check added at place k, as characters.
abbrev pub sealed : ℕ → List ℕ → List ℕ
sealed k os = map character (slice_set os k (slice_index os k + check_at k os))

-- Control, M-sequence type with the check, outputs, and on a write the on-request octets.
abbrev pub master_octets : ℕ → ℕ → ℕ → MasterParts → List ℕ
master_octets kind n q m =
    control_octet m.access m.channel ∷ kind * 64 ∷ (fitted q m.outputs ++ fitted (sent_od m.access n) m.on_request)

unfoldable pub master_message : ℕ → ℕ → ℕ → MasterParts → List ℕ
master_message kind n q m = sealed 1 (master_octets kind n q m)

-- The event flag in bit 7, and a 1 in bit 6 for invalid inputs.
abbrev pub status_bits : Bool → Bool → ℕ
status_bits event invalid = cond event 128 0 + cond invalid 64 0

-- On a read the on-request octets, inputs, and an octet with flag, mark and the check.
abbrev pub answer_octets : ℕ → ℕ → Access → AnswerParts → List ℕ
answer_octets n p a r = fitted (answered_od a n) r.on_request ++ fitted p r.inputs ++ status_bits r.event r.invalid ∷ []

unfoldable pub answer_message : ℕ → ℕ → Access → AnswerParts → List ℕ
answer_message n p a r = sealed (answered_od a n + p) (answer_octets n p a r)

-- ---- read

-- How many characters a message has: the control octet and the line decide.
abbrev pub master_count : ℕ → ℕ → List ℕ → ℕ
master_count n q os = 2 + (q + sent_od (access_of (slice_index os 0)) n)

abbrev pub answer_count : ℕ → ℕ → Access → ℕ
answer_count n p a = answered_od a n + p + 1

-- The tests of the octets in their order.
abbrev pub master_tests : ℕ → ℕ → ℕ → List ℕ → List (Option Fault)
master_tests kind n q os = miscounted (master_count n q os) os ∷ mistyped kind 1 os ∷ unchecked 1 os ∷ []

abbrev pub answer_tests : ℕ → ℕ → Access → List ℕ → List (Option Fault)
answer_tests n p a os = miscounted (answer_count n p a) os ∷ unchecked (answered_od a n + p) os ∷ []

-- The first fault, or none: the characters' come first.
unfoldable pub master_fault : ℕ → ℕ → ℕ → List ℕ → Option Fault
master_fault kind n q cs = first_of (silent cs ∷ odd cs ∷ master_tests kind n q (map octet cs))

unfoldable pub answer_fault : ℕ → ℕ → Access → List ℕ → Option Fault
answer_fault n p a cs = first_of (silent cs ∷ odd cs ∷ answer_tests n p a (map octet cs))

-- The parts of a message with no fault, from its octets.
abbrev pub master_parts : ℕ → List ℕ → MasterParts
master_parts q os =
    record {
      access = access_of (slice_index os 0);
      channel = channel_of (slice_index os 0);
      outputs = take q (drop 2 os);
      on_request = drop q (drop 2 os);
    }

-- The bit of a weight: 128 is bit 7, 64 is bit 6.
abbrev pub bit : ℕ → ℕ → Bool
bit weight o = o / weight % 2 == 1

abbrev pub answer_parts : ℕ → ℕ → Access → List ℕ → AnswerParts
answer_parts n p a os =
    record {
      on_request = take (answered_od a n) os;
      inputs = take p (drop (answered_od a n) os);
      event = bit 128 (slice_index os (answered_od a n + p));
      invalid = bit 64 (slice_index os (answered_od a n + p));
    }

-- A fault, or else the parts.
abbrev pub unless : {A : Type 0} → Option Fault → A → Result A Fault
unless None parts = Ok parts
unless (Some f) parts = Err f

abbrev pub read_master : ℕ → ℕ → ℕ → List ℕ → Result MasterParts Fault
read_master kind n q cs = unless (master_fault kind n q cs) (master_parts q (map octet cs))

abbrev pub read_answer : ℕ → ℕ → Access → List ℕ → Result AnswerParts Fault
read_answer n p a cs = unless (answer_fault n p a cs) (answer_parts n p a (map octet cs))
