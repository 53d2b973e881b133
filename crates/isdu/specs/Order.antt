-- Orders as plain values.
use Rattle.std.specs.Borrow.{Bor}
use Rattle.std.specs.Prelude.{◌≡◌, ℕ, Bool, true, false, ◌&&◌, List, [], length, MatchResult, Result, nat_le}
use Rattle.characters.specs.Numbers.{refusal_number}
use Rattle.characters.specs.declared.refusal.Refusal.{Refusal}
use Rattle.isdu.specs.Service.{Address}
use Rattle.isdu.specs.declared.service.Service.{Service}
use Rattle.isdu.specs.declared.service.Service.TheVariants.{Read as ReadService, Write as WriteService}
use Rattle.isdu.specs.declared.order.Order.{Order as Carried}
use Rattle.isdu.specs.declared.order.Order.TheVariants.{Read, Write}

-- The octets at an address are to be read, or written.
pub data Order : Type 0 where
  read : Address → Order
  write : Address → List ℕ → Order

-- By what the data stands for: octets that are borrowed, or held.
abbrev pub order_with : {D : Type 0} → (D → List ℕ) → Carried D → Order
order_with f (Read at) = read at
order_with f (Write at d) = write at (f d)

abbrev pub order_view : Carried (Bor (List ℕ)) → Order
order_view = order_with (λ d. d.now)

abbrev pub held_order : Carried (List ℕ) → Order
held_order = order_with (λ d. d)

abbrev pub address_of : Order → Address
address_of (read at) = at
address_of (write at d) = at

abbrev pub service_for : Order → Service
service_for (read at) = ReadService
service_for (write at d) = WriteService

abbrev pub data_of : Order → List ℕ
data_of (read at) = []
data_of (write at d) = d

-- A write has 1 to 232 data octets.
abbrev pub is_data : List ℕ → Bool
is_data d = nat_le 1 (length d) && nat_le (length d) 232

abbrev pub can_ask : Order → Bool
can_ask (read at) = true
can_ask (write at d) = is_data d

-- What is made of an order: P of it exactly where the order can be asked, else a refusal with 9.
abbrev pub IfCanAsk : {A : Type 0} → Result A Refusal → Order → (A → Type 0) → Type 0
IfCanAsk r o P = MatchResult r (λ a. (can_ask o ≡ true) × P a) (λ e. (can_ask o ≡ false) × (refusal_number e ≡ 9))
