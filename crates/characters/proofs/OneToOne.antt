-- Octets and right characters are one to one.
use Rattle.std.proofs.Common.{◌≡◌, ℕ, zero, suc, ◌+◌, ◌*◌, ◌/◌, ◌%◌, ◌^◌, ◌<◌, List, [], ◌∷◌, map, refl, ap, arith}
use lib.Count.{ones, ones_in, ones_cat}
use Rattle.std.specs.List.{AllByRecursion, AllZip}
use Rattle.std.proofs.lemmas.List.Elements.{All-from_recursion}
use Rattle.octets.proofs.Rows.{map-zip}
use Rattle.characters.specs.Character.{Char, character, octet}
use Rattle.characters.specs.Characters.{Codes}

bit-ones : (b : ℕ) → b < 2 → ones b ≡ b
unfolding ones ones_in
bit-ones zero h = refl
bit-ones (suc zero) h = refl
bit-ones (suc (suc b)) h = omega arith

pub char : (o : ℕ) → o < 256 → Char (character o)
char o h =
    let b : ones o % 2 < 2 = omega arith in
    let k : ones ((ones o % 2) * 2 ^ 8 + o) ≡ ones (character o) = ap ones (omega arith) in
    (omega arith, omega (arith, ones_cat 8 (ones o % 2) o h, bit-ones (ones o % 2) b))

pub chars-coded : (os : List ℕ) → AllByRecursion (λ o. o < 256) os → AllByRecursion Char (map character os)
chars-coded [] h = tt
chars-coded (o ∷ os) h = (char o h.0, chars-coded os h.1)

pub octets-coded : (os : List ℕ) → AllByRecursion (λ o. o < 256) os → map octet (map character os) ≡ os
octets-coded [] h = refl
octets-coded (o ∷ os) h =
    let e : octet (character o) ≡ o = omega (arith, h.0) in
    let es = octets-coded os h.1 in
    cc

coded : (c : ℕ) → Char c → character (octet c) ≡ c
coded c h =
    let b : c / 256 < 2 = omega (arith, h.0) in
    let e : ones ((c / 256) * 2 ^ 8 + c % 256) ≡ ones c = ap ones (omega arith) in
    omega (arith, h.1, ones_cat 8 (c / 256) (c % 256) (omega arith), bit-ones (c / 256) b)

pub coded-octets : (cs : List ℕ) → AllByRecursion Char cs → map character (map octet cs) ≡ cs
coded-octets [] h = refl
coded-octets (c ∷ cs) h = let e = coded c h.0 in let es = coded-octets cs h.1 in cc

pub octets-below : (cs : List ℕ) → AllByRecursion (λ o. o < 256) (map octet cs)
octets-below [] = tt
octets-below (c ∷ cs) = (omega arith, octets-below cs)

-- characters that are made of octets, one by one
pub Codes-zip : (R : ℕ → ℕ → Type 0) (os cs : List ℕ) → ((o c : ℕ) → R o c → (c ≡ character o) × (octet c ≡ o) × Char c) → AllZip R os cs → Codes os cs
Codes-zip R os cs each h = record { value = map-zip R character os cs (λ o c k. (each o c k).0) h; back = back os cs h; right = All-from_recursion Char cs (rights os cs h) }
  where
    back : (os cs : List ℕ) → AllZip R os cs → map octet cs ≡ os
    back [] [] h = refl
    back [] (c ∷ cs) h = absurd h
    back (o ∷ os) [] h = absurd h
    back (o ∷ os) (c ∷ cs) h = let e = (each o c h.0).1 in let es = back os cs h.1 in cc

    rights : (os cs : List ℕ) → AllZip R os cs → AllByRecursion Char cs
    rights [] [] h = tt
    rights [] (c ∷ cs) h = absurd h
    rights (o ∷ os) [] h = absurd h
    rights (o ∷ os) (c ∷ cs) h = ((each o c h.0).2, rights os cs h.1)
