-- The worked cases, in one table: what the definitions give beside what is known, and one theorem that they agree.
use Rattle.std.specs.Prelude.{◌≡◌, ℕ, false, List, [], ◌∷◌, map, None, Option}
use Rattle.characters.specs.Character.{character, octet}
use Rattle.characters.specs.declared.fault.Fault.{Fault}
use Rattle.control.specs.declared.channel.Access.TheVariants.{Read}
use Rattle.control.specs.declared.channel.Channel.TheVariants.{Isdu}
use Rattle.control.specs.declared.channel.FlowCtrl.TheVariants.{Idle}
use Rattle.frame.specs.Check.{check_at}
use Rattle.frame.specs.Message.{AnswerParts, MasterParts, answer_message, master_fault, master_message}
use Rattle.std.specs.List.{AllByRecursion}

-- Octets as the definitions give them and as they are known, or a message that has no fault.
pub data Case : Type 0 where
  gives : List ℕ → List ℕ → Case
  good : Option Fault → Case

abbrev pub Holds : Case → Type 0
Holds (gives computed known) = computed ≡ known
Holds (good fault) = fault ≡ None

abbrev pub idle : MasterParts
idle = record { access = Read; channel = Isdu Idle; outputs = 0x00 ∷ []; on_request = [] }

abbrev pub five : AnswerParts
five = record { on_request = 0x00 ∷ []; inputs = 0x05 ∷ []; event = false; invalid = false }

abbrev pub cases : List Case
cases =
    -- type 0, read of page address 2: A2 00, the check is 0
    gives (check_at 1 (0xa2 ∷ 0x00 ∷ []) ∷ []) (0 ∷ [])
    -- type 2, one on-request and one output octet, read IDLE
    ∷ gives (map octet (master_message 2 1 1 idle)) (0xf1 ∷ 0x94 ∷ 0x00 ∷ [])
    -- its answer with the input 05
    ∷ gives (map octet (answer_message 1 1 Read five)) (0x00 ∷ 0x05 ∷ 0x2e ∷ [])
    -- two output octets: the first differs from the second in four bits, and both are good
    ∷ good (master_fault 2 1 2 (map character (0xf1 ∷ 0x94 ∷ 0x00 ∷ 0x00 ∷ [])))
    ∷ good (master_fault 2 1 2 (map character (0xf1 ∷ 0x94 ∷ 0x03 ∷ 0x03 ∷ [])))
    ∷ []

-- Every worked case holds.
abbrev pub Worked : Type 0
Worked = AllByRecursion Holds cases
