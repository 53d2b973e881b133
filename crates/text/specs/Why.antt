-- When a word is refused, and with which flaw.
use Rattle.std.specs.Prelude.{◌≡◌, ℕ, ◌%◌, ◌<◌, List, length, Some, None, Option}
use Rattle.text.specs.Text.{read_chars, read_hex}
use Rattle.text.specs.declared.flaw.Flaw.{Flaw}
use Rattle.text.specs.declared.flaw.Flaw.TheVariants.{NoNumber, TooLarge, OddDigits, NoDigit, NoCharacters, Memory}

abbrev pub WhyNoHex : List ℕ → Flaw → Type 0
WhyNoHex text OddDigits = (read_hex text ≡ None) × (length text % 2 ≡ 1)
WhyNoHex text NoDigit = (read_hex text ≡ None) × (length text % 2 ≡ 0)
WhyNoHex text Memory = Unit {0}
WhyNoHex text _ = ⊥

abbrev pub WhyNoChars : List ℕ → Flaw → Type 0
WhyNoChars text NoCharacters = read_chars text ≡ None
WhyNoChars text Memory = Unit {0}
WhyNoChars text _ = ⊥

-- Digits of no number up to the most: of no number at all, or of a larger one.
abbrev pub WhyNone : Option ℕ → ℕ → Flaw → Type 0
WhyNone number most NoNumber = number ≡ None
WhyNone number most TooLarge = (n : ℕ) → number ≡ Some n → most < n
WhyNone number most _ = ⊥
