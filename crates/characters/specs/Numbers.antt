-- The number of each refusal, and the layer and number of each fault.
use Rattle.std.specs.Prelude.{ℕ}
use Rattle.characters.specs.declared.fault.Fault.{Fault}
use Rattle.characters.specs.declared.fault.Fault.TheVariants.{Silence, Parity, Length, WrongType, Check}
use Rattle.characters.specs.declared.fault.Layer.{Layer}
use Rattle.characters.specs.declared.fault.Layer.TheVariants.{Character, Message}
use Rattle.characters.specs.declared.refusal.Refusal.{Refusal}
use Rattle.characters.specs.declared.refusal.Refusal.TheVariants.{TooManyCharacters, NoCharacter, WrongLengths, WrongDataCount}

abbrev pub refusal_number : Refusal → ℕ
refusal_number TooManyCharacters = 1
refusal_number NoCharacter = 2
refusal_number WrongLengths = 3
refusal_number WrongDataCount = 9

-- Parity is a fault of a character; every other is one of the message.
abbrev pub fault_layer : Fault → Layer
fault_layer Silence = Message
fault_layer (Parity place) = Character
fault_layer (Length found) = Message
fault_layer WrongType = Message
fault_layer Check = Message

-- The place of the first wrong character, from 0; the count of characters found; else 0.
abbrev pub fault_number : Fault → ℕ
fault_number Silence = 0
fault_number (Parity place) = place
fault_number (Length found) = found
fault_number WrongType = 0
fault_number Check = 0
