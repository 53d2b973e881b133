-- The control octet and its names are one to one.
use Rattle.std.proofs.Common.{◌≡◌, ℕ, ◌<◌, true, arith}
use Rattle.std.proofs.lemmas.Bool.Decides.{nat_tests}
use Rattle.control.specs.Control.{access_of, channel_of, control_octet, is_channel}
use Rattle.control.specs.declared.channel.Access.{Access}
use Rattle.control.specs.declared.channel.Channel.{Channel}

pub control-back : (o : ℕ) → o < 256 → control_octet (access_of o) (channel_of o) ≡ o
control-back o h = grind (arith, nat_tests)

pub control-access : (a : Access) (ch : Channel) → is_channel ch ≡ true → access_of (control_octet a ch) ≡ a
control-access a ch h = grind (arith, nat_tests)

pub control-channel : (a : Access) (ch : Channel) → is_channel ch ≡ true → channel_of (control_octet a ch) ≡ ch
control-channel a ch h = grind (arith, nat_tests)
