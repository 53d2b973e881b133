-- What a disturbed line makes of characters, and that a good message shows it.
use Rattle.std.specs.Prelude.{◌≡◌, ℕ, ◌+◌, ◌<◌, ◌≤◌, List, [], ◌∷◌, length, take, All, None, Option, ◌≢◌, bit_xor, count_ones}
use Rattle.characters.specs.declared.fault.Fault.{Fault}

-- Turned bits: each mask says which of the nine bits of its character.
abbrev pub turned : List ℕ → List ℕ → List ℕ
turned [] ms = []
turned (c ∷ cs) [] = c ∷ cs
turned (c ∷ cs) (m ∷ ms) = bit_xor c m ∷ turned cs ms

-- How many bits the masks turn.
abbrev pub turns : List ℕ → ℕ
turns [] = 0
turns (m ∷ ms) = count_ones m + turns ms

-- Characters that have no fault, and have one as soon as one, two or three of their bits are turned, wherever these lie, or at least one
-- character is cut off.
pub record Sturdy (fault : List ℕ → Option Fault) (cs : List ℕ) : Type 0 where
  pub good : fault cs ≡ None
  pub bits : (ms : List ℕ) → length ms ≡ length cs → All (λ m. m < 512) ms → 1 ≤ turns ms → turns ms ≤ 3 → fault (turned cs ms) ≢ None
  pub cut : (k : ℕ) → k < length cs → fault (take k cs) ≢ None
