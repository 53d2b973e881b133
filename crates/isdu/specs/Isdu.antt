-- An ISDU: the head with I-Service and total, the contents, and the last octet.
use Rattle.std.specs.Prelude.{◌≡◌, ℕ, ◌+◌, ◌*◌, cond, List, [], ◌∷◌, ◌++◌, length, take, fold, bit_xor, nat_lt}

abbrev pub xor_of : List ℕ → ℕ
xor_of os = fold bit_xor 0 os

-- The last octet makes the exclusive or of all zero.
abbrev pub closed : List ℕ → List ℕ
closed os = os ++ xor_of os ∷ []

-- A total of up to 15 stands in the first octet; else a 1 stands there, and the total in the second.
abbrev pub head : ℕ → ℕ → List ℕ
head service count = cond (nat_lt count 14) ((service * 16 + (count + 2)) ∷ []) ((service * 16 + 1) ∷ (count + 3) ∷ [])

abbrev pub isdu : ℕ → List ℕ → List ℕ
isdu service contents = closed (head service (length contents) ++ contents)

-- Octets that begin with others: what follows them is skipped.
abbrev pub Begins : List ℕ → List ℕ → Type 0
Begins os front = take (length front) os ≡ front
