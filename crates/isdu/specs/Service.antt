-- The I-Service, in bits 4 to 7 of the first octet, and the forms in which a request names an address.
use Rattle.std.specs.Prelude.{ℕ, ◌+◌, ◌/◌, ◌%◌, Bool, true, cond, ◌&&◌, List, [], ◌∷◌, length, Some, None, Option, ◌==◌, nat_le, nat_lt}
use Rattle.isdu.specs.declared.service.Form.{Form}
use Rattle.isdu.specs.declared.service.Form.TheVariants.{Index8, Index8Subindex, Index16Subindex}
use Rattle.isdu.specs.declared.service.Service.{Service}
use Rattle.isdu.specs.declared.service.Service.TheVariants.{Read as ReadService, Write as WriteService}
use Rattle.isdu.specs.declared.service.IService.{IService}
use Rattle.isdu.specs.declared.service.IService.TheVariants.{Write, Read, WriteRefused, WriteDone, ReadRefused, ReadDone}

-- An address: an index of sixteen bits and a subindex of eight.
abbrev pub Address : Type 0
Address = ℕ × ℕ

abbrev pub form_bits : Form → ℕ
form_bits Index8 = 1
form_bits Index8Subindex = 2
form_bits Index16Subindex = 3

abbrev pub service_bits : IService → ℕ
service_bits (Write f) = form_bits f
service_bits (Read f) = 8 + form_bits f
service_bits WriteRefused = 0x4
service_bits WriteDone = 0x5
service_bits ReadRefused = 0xc
service_bits ReadDone = 0xd

-- The other values stand for no request and no reply.
abbrev pub service_at : ℕ → Option IService
service_at v =
    cond (v == 0x1) (Some (Write Index8)) (cond (v == 0x2) (Some (Write Index8Subindex)) (cond (v == 0x3) (Some (Write Index16Subindex))
    (cond (v == 0x4) (Some WriteRefused) (cond (v == 0x5) (Some WriteDone)
    (cond (v == 0x9) (Some (Read Index8)) (cond (v == 0xa) (Some (Read Index8Subindex)) (cond (v == 0xb) (Some (Read Index16Subindex))
    (cond (v == 0xc) (Some ReadRefused) (cond (v == 0xd) (Some ReadDone) None)))))))))

abbrev pub service_of : ℕ → Option IService
service_of first = service_at (first / 16)

-- The I-Service that asks for a service in a form.
abbrev pub asking : Service → Form → IService
asking ReadService f = Read f
asking WriteService f = Write f

-- The first form that can name an address: an index of eight bits alone means subindex 0.
abbrev pub first_form : Address → Form
first_form at = cond (nat_lt at.0 256) (cond (at.1 == 0) Index8 Index8Subindex) Index16Subindex

-- Whether a form can name an address.
abbrev pub can_name : Form → Address → Bool
can_name Index8 at = nat_lt at.0 256 && at.1 == 0
can_name Index8Subindex at = nat_lt at.0 256
can_name Index16Subindex at = true

-- The octets by which a form names an address.
abbrev pub address_octets : Form → Address → List ℕ
address_octets Index8 at = at.0 ∷ []
address_octets Index8Subindex at = at.0 ∷ at.1 ∷ []
address_octets Index16Subindex at = at.0 / 256 ∷ at.0 % 256 ∷ at.1 ∷ []

-- Contents that the Length announces: between head and last octet of a total of 2 to 15 there are two fewer, and of one above 15 at least 14.
abbrev pub length_fits : ℕ → List ℕ → Bool
length_fits l os = cond (l == 1) (nat_le 14 (length os)) (length os + 2 == l && nat_le l 15)
