use Rattle.std.proofs.Common.{take}
use Rattle.text.specs.Text.{dot_three}
use Rattle.std.specs.List.{flat_map}
use Rattle.std.specs.Fmt.{IsPlainFormatter, HasWritten}
use Rattle.text.proofs.chars.CharsDisplay.fmt.Given as goal

abbrev pub invariant-loop-character : goal.invariant-loop-character
invariant-loop-character g l = IsPlainFormatter l.initial.f → HasWritten g.W.Write.write_str_gives l.initial.f (flat_map dot_three (take l.character-index l.rest)) l.f
