-- The worked cases of ISDUs, in one table: what the definitions give beside what is known, and one theorem that they agree.
use Rattle.std.specs.Prelude.{◌≡◌, ℕ, List, [], ◌∷◌, length}
use Rattle.isdu.specs.Isdu.{Begins}
use Rattle.isdu.specs.Order.{read, write}
use Rattle.isdu.specs.Reply.{read_done, write_done, write_refused}
use Rattle.isdu.specs.Request.{request_octets}
use Rattle.isdu.specs.Response.{reply_octets}
use Rattle.std.specs.List.{AllByRecursion}
use Rattle.worked.specs.Worked.{Case, gives, Holds}

-- A case as a message has it, or how the octets begin that carry any data of a count.
pub data IsduCase : Type 0 where
  plain : Case → IsduCase
  opens : (List ℕ → List ℕ) → ℕ → List ℕ → IsduCase

abbrev pub HoldsIsdu : IsduCase → Type 0
HoldsIsdu (plain case) = Holds case
HoldsIsdu (opens carrier count known) = (d : List ℕ) → length d ≡ count → Begins (carrier d) known

abbrev pub isdu_cases : List IsduCase
isdu_cases =
    -- read index 16
    plain (gives (request_octets (read (16, 0))) (0x93 ∷ 0x10 ∷ 0x83 ∷ []))
    -- its reply, the letters of Bin
    ∷ plain (gives (reply_octets (read_done (0x42 ∷ 0x69 ∷ 0x6e ∷ []))) (0xd5 ∷ 0x42 ∷ 0x69 ∷ 0x6e ∷ 0x90 ∷ []))
    -- write 41 37 to index 24, and its reply
    ∷ plain (gives (request_octets (write (24, 0) (0x41 ∷ 0x37 ∷ []))) (0x15 ∷ 0x18 ∷ 0x41 ∷ 0x37 ∷ 0x7b ∷ []))
    ∷ plain (gives (reply_octets write_done) (0x52 ∷ 0x52 ∷ []))
    -- a write that is too long for its address
    ∷ plain (gives (reply_octets (write_refused 0x8033)) (0x44 ∷ 0x80 ∷ 0x33 ∷ 0xf7 ∷ []))
    -- 13 octets are the most that a read brings without a second octet for the total
    ∷ opens (λ d. reply_octets (read_done d)) 13 (0xdf ∷ [])
    ∷ opens (λ d. reply_octets (read_done d)) 14 (0xd1 ∷ 0x11 ∷ [])
    -- the longest request: 232 octets to an index of sixteen bits
    ∷ opens (λ d. request_octets (write (256, 0) d)) 232 (0x31 ∷ 0xee ∷ [])
    ∷ []

-- Every worked case of an ISDU holds.
abbrev pub WorkedIsdus : Type 0
WorkedIsdus = AllByRecursion HoldsIsdu isdu_cases
