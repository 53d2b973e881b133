-- The words of a line: what stands between blanks, up to a `#`.
use Rattle.std.specs.Prelude.{ℕ, Bool, cond, not, ◌||◌, List, [], ◌∷◌, codes, ◌==◌}
use Rattle.isdu.specs.declared.service.Service.{Service}
use Rattle.isdu.specs.declared.service.Service.TheVariants.{Read, Write}

-- What stands before the first byte that passes a test, and from there on.
abbrev pub up_to : (ℕ → Bool) → List ℕ → List ℕ
up_to p [] = []
up_to p (b ∷ bs) = cond (p b) [] (b ∷ up_to p bs)

abbrev pub onward : (ℕ → Bool) → List ℕ → List ℕ
onward p [] = []
onward p (b ∷ bs) = cond (p b) (b ∷ bs) (onward p bs)

-- A space, a tab or a carriage return.
abbrev pub is_blank : ℕ → Bool
is_blank b = b == 32 || (b == 9 || b == 13)

abbrev pub is_letter : ℕ → Bool
is_letter b = not (is_blank b)

abbrev pub is_hash : ℕ → Bool
is_hash b = b == 35

-- What a line says before its comment.
abbrev pub said : List ℕ → List ℕ
said line = up_to is_hash line

-- The first word of a text, and what follows it.
abbrev pub first_word : List ℕ → List ℕ
first_word text = up_to is_blank (onward is_letter text)

abbrev pub after_word : List ℕ → List ℕ
after_word text = onward is_blank (onward is_letter text)

-- The word for the kind of an order.
abbrev pub service_word : Service → List ℕ
service_word Read = codes "read"
service_word Write = codes "write"
