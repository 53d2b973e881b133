-- The control octet: bit 7 is 1 for a read, bits 6 and 5 are the channel, bits 0 to 4 an address or, on the ISDU channel, the flow control.
use Rattle.std.specs.Prelude.{◌≡◌, ℕ, ◌+◌, ◌*◌, ◌/◌, ◌%◌, Bool, true, cond, ◌&&◌, ◌==◌, nat_lt}
use Rattle.control.specs.declared.channel.Access.{Access}
use Rattle.control.specs.declared.channel.Access.TheVariants.{Read, Write}
use Rattle.control.specs.declared.channel.Channel.{Channel}
use Rattle.control.specs.declared.channel.Channel.TheVariants.{Process, Page, Diagnosis, Isdu}
use Rattle.control.specs.declared.channel.FlowCtrl.{FlowCtrl}
use Rattle.control.specs.declared.channel.FlowCtrl.TheVariants.{Count, Start, Idle, Abort, Reserved}

-- ---- to the octet

abbrev pub access_bit : Access → ℕ
access_bit Read = 1
access_bit Write = 0

-- 0x00 to 0x0F COUNT, 0x10 START, 0x11 IDLE, 0x1F ABORT, the others reserved
abbrev pub flow_bits : FlowCtrl → ℕ
flow_bits (Count k) = k
flow_bits Start = 0x10
flow_bits Idle = 0x11
flow_bits Abort = 0x1f
flow_bits (Reserved v) = v

-- channel 0 process, 1 page, 2 diagnosis, 3 ISDU
abbrev pub channel_bits : Channel → ℕ
channel_bits (Process a) = 0 * 32 + a
channel_bits (Page a) = 1 * 32 + a
channel_bits (Diagnosis a) = 2 * 32 + a
channel_bits (Isdu f) = 3 * 32 + flow_bits f

abbrev pub control_octet : Access → Channel → ℕ
control_octet a ch = access_bit a * 128 + channel_bits ch

-- ---- from the octet

abbrev pub access_of : ℕ → Access
access_of o = cond (o / 128 == 0) Write Read

abbrev pub flow_of : ℕ → FlowCtrl
flow_of v = cond (nat_lt v 0x10) (Count v) (cond (v == 0x10) Start (cond (v == 0x11) Idle (cond (v == 0x1f) Abort (Reserved v))))

abbrev pub channel_of : ℕ → Channel
channel_of o =
    cond (o / 32 % 4 == 0) (Process (o % 32))
    (cond (o / 32 % 4 == 1) (Page (o % 32)) (cond (o / 32 % 4 == 2) (Diagnosis (o % 32)) (Isdu (flow_of (o % 32)))))

-- An octet says an access and a channel: it is theirs, and they are read from it.
pub record IsControlOctet (octet : ℕ) (a : Access) (ch : Channel) : Type 0 where
  pub value : octet ≡ control_octet a ch
  pub access : access_of octet ≡ a
  pub channel : channel_of octet ≡ ch

-- ---- the values that are a channel: an address has five bits, a COUNT four, and a reserved value is none of the others

abbrev pub is_flow : FlowCtrl → Bool
is_flow (Count k) = nat_lt k 16
is_flow Start = true
is_flow Idle = true
is_flow Abort = true
is_flow (Reserved v) = nat_lt 0x11 v && nat_lt v 0x1f

abbrev pub is_channel : Channel → Bool
is_channel (Process a) = nat_lt a 32
is_channel (Page a) = nat_lt a 32
is_channel (Diagnosis a) = nat_lt a 32
is_channel (Isdu f) = is_flow f
