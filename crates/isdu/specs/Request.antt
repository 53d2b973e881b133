-- The request of an order, written and read.
use Rattle.std.specs.Prelude.{◌≡◌, ℕ, ◌+◌, ◌*◌, ◌<◌, true, cond, List, [], ◌∷◌, ◌++◌, length, take, Some, None, Ok, Err, Option, Result}
use Rattle.isdu.specs.Isdu.{Begins, isdu}
use Rattle.isdu.specs.Opened.{opened}
use Rattle.isdu.specs.Order.{Order, read, write, address_of, can_ask, data_of, is_data, service_for}
use Rattle.isdu.specs.Service.{Address, address_octets, asking, can_name, first_form, service_bits, service_of}
use Rattle.isdu.specs.Total.{TotalSoFar}
use Rattle.isdu.specs.declared.opened.NoIsdu.{NoIsdu}
use Rattle.isdu.specs.declared.opened.NoIsdu.TheVariants.{Incomplete, NotWellFormed}
use Rattle.isdu.specs.declared.service.Form.{Form}
use Rattle.isdu.specs.declared.service.Form.TheVariants.{Index8, Index8Subindex, Index16Subindex}
use Rattle.isdu.specs.declared.service.IService.{IService}
use Rattle.isdu.specs.declared.service.IService.TheVariants.{Write, Read, WriteRefused, WriteDone, ReadRefused, ReadDone}

-- ---- written

-- An order's request in a form that can name its address.
abbrev pub request_in : Form → Order → List ℕ
request_in f o = isdu (service_bits (asking (service_for o) f)) (address_octets f (address_of o) ++ data_of o)

-- The writer takes the first such form.
unfoldable pub request_octets : Order → List ℕ
request_octets o = request_in (first_form (address_of o)) o

-- ---- read

-- The address that contents begin with in a form, and what follows it.
abbrev pub addressed : Form → List ℕ → Option (Address × List ℕ)
addressed Index8 [] = None
addressed Index8 (i ∷ rest) = Some ((i, 0), rest)
addressed Index8Subindex [] = None
addressed Index8Subindex (i ∷ []) = None
addressed Index8Subindex (i ∷ s ∷ rest) = Some ((i, s), rest)
addressed Index16Subindex [] = None
addressed Index16Subindex (h ∷ []) = None
addressed Index16Subindex (h ∷ l ∷ []) = None
addressed Index16Subindex (h ∷ l ∷ s ∷ rest) = Some ((h * 256 + l, s), rest)

abbrev pub read_at : Address → List ℕ → Option Order
read_at at [] = Some (read at)
read_at at (d ∷ ds) = None

-- A read has no data.
abbrev pub read_of : Option (Address × List ℕ) → Option Order
read_of None = None
read_of (Some p) = read_at p.0 p.1

abbrev pub write_of : Option (Address × List ℕ) → Option Order
write_of None = None
write_of (Some p) = cond (is_data p.1) (Some (write p.0 p.1)) None

-- The order of an I-Service and contents: a reply's is none.
abbrev pub order_of : IService → List ℕ → Option Order
order_of (Write f) os = write_of (addressed f os)
order_of (Read f) os = read_of (addressed f os)
order_of WriteRefused os = None
order_of WriteDone os = None
order_of ReadRefused os = None
order_of ReadDone os = None

abbrev pub order_in : Option IService → List ℕ → Option Order
order_in None os = None
order_in (Some v) os = order_of v os

abbrev pub well_formed : Option Order → Result Order NoIsdu
well_formed None = Err NotWellFormed
well_formed (Some o) = Ok o

abbrev pub ordered : Result (ℕ × List ℕ) NoIsdu → Result Order NoIsdu
ordered (Err e) = Err e
ordered (Ok p) = well_formed (order_in (service_of p.0) p.1)

unfoldable pub request_of : List ℕ → Result Order NoIsdu
request_of os = ordered (opened os)

-- ---- laws

-- Octets that begin with an order's request, in a form that can name its address.
pub record Asks (os : List ℕ) (f : Form) (o : Order) : Type 0 where
  pub names : can_name f (address_of o) ≡ true
  pub can : can_ask o ≡ true
  pub begins : Begins os (request_in f o)

-- They ask for one order, in whatever form.
pub record Asked (os : List ℕ) (o : Order) : Type 0 where
  pub form : Form
  pub asks : Asks os form o
  pub only : (f : Form) (x : Order) → Asks os f x → x ≡ o

abbrev pub NotAsked : List ℕ → Type 0
NotAsked os = (f : Form) (o : Order) → Asks os f o → ⊥

-- A request that carries an order: whole, it is read as the order, whatever follows; in part, more is to come; and the total that its first octets say is its length.
pub record Carries (os : List ℕ) (o : Order) : Type 0 where
  pub whole : (more : List ℕ) → request_of (os ++ more) ≡ Ok o
  pub part : (k : ℕ) → k < length os → request_of (take k os) ≡ Err Incomplete
  pub total : (k : ℕ) (more : List ℕ) → TotalSoFar (take k (os ++ more)) k (length os)
