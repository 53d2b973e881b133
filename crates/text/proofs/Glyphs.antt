-- A digit that is written is read as the value that it was written for.
use Rattle.std.proofs.Common.{◌≡◌, ℕ, ◌<◌, Some, arith}
use Rattle.text.specs.Digit.{digit, glyph}
use Rattle.std.proofs.lemmas.Bool.Decides.{nat_tests}

pub digit_glyph : (d : ℕ) → d < 16 → digit (glyph d) ≡ Some d
digit_glyph d h = grind (arith, nat_tests)
