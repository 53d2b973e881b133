-- What octets are as characters.
use Rattle.std.specs.Prelude.{◌≡◌, ℕ, List, map, All}
use Rattle.characters.specs.Character.{Char, character, octet}

-- Characters that code octets: one for each, a right one, and the octets can be told from them.
pub record Codes (octets characters : List ℕ) : Type 0 where
  pub value : characters ≡ map character octets
  pub back : map octet characters ≡ octets
  pub right : All Char characters
