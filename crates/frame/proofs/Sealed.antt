-- Sealed octets are a good message, and every good message is the sealing of its octets.
use Rattle.std.proofs.Common.{◌≡◌, ℕ, ◌+◌, ◌*◌, ◌/◌, ◌%◌, ◌<◌, List, map, length, get_or, set, fold, sym, ap, ◌∙◌, arith, length-set}
use lib.Bits.{bit_and, bit_xor, and_high}
use lib.ListN.{length-map}
use Rattle.std.specs.List.{AllByRecursion}
use Rattle.std.proofs.ByRecursion.{All-get_or, All-set}
use Rattle.std.proofs.lemmas.List.{get_or-set_same, set-get_or, set-set}
use Rattle.characters.specs.Character.{character, octet}
use Rattle.frame.specs.Check.{check_at, six_bits}
use Rattle.frame.specs.Message.{sealed}
use Rattle.characters.proofs.OneToOne.{chars-coded, octets-coded, coded-octets, octets-below}
use Rattle.frame.proofs.Good.{Good}

upper : (o : ℕ) → o < 256 → bit_and o 0xc0 ≡ o / 64 * 64
upper o h = omega (arith, and_high o 2 6)

pub check-small : (k : ℕ) (os : List ℕ) → check_at k os < 64
check-small k os = omega arith

-- the check does not look at its own six bits
check-same : (k v : ℕ) (os : List ℕ) → k < length os → bit_and v 0xc0 ≡ bit_and (get_or os k 0) 0xc0 → check_at k (set os k v) ≡ check_at k os
check-same k v os h e =
    ap (λ (l : List ℕ). six_bits (fold bit_xor 0x52 l)) (
    ap (λ (x : ℕ). set (set os k v) k (bit_and x 0xc0)) (get_or-set_same os k v 0 h) ∙ set-set os k v (bit_and v 0xc0)
    ∙ ap (set os k) e
    )

-- ---- written

-- the octet that carries the check, once it is added
abbrev carrier : ℕ → List ℕ → ℕ
carrier k os = get_or os k 0 + check_at k os

carrier-below : (k : ℕ) (os : List ℕ) → get_or os k 0 < 256 → get_or os k 0 % 64 ≡ 0 → carrier k os < 256
carrier-below k os h z = let c = check-small k os in omega arith

carrier-check : (k : ℕ) (os : List ℕ) → k < length os → get_or os k 0 < 256 → get_or os k 0 % 64 ≡ 0 → check_at k (set os k (carrier k os)) ≡ check_at k os
carrier-check k os l h z =
    let c = check-small k os in
    let b = carrier-below k os h z in
    check-same k (carrier k os) os l (upper (carrier k os) b ∙ (let e : carrier k os / 64 * 64 ≡ get_or os k 0 / 64 * 64 = omega arith in e) ∙ sym (upper (get_or os k 0) h))

pub octets-sealed : (k : ℕ) (os : List ℕ) → AllByRecursion (λ o. o < 256) os → k < length os → get_or os k 0 % 64 ≡ 0
    → map octet (sealed k os) ≡ set os k (carrier k os)
octets-sealed k os h l z =
    let o : get_or os k 0 < 256 = All-get_or (λ o. o < 256) os k 0 l h in
    octets-coded (set os k (carrier k os)) (All-set (λ o. o < 256) os k (carrier k os) (carrier-below k os o z) h)

pub sealed-good : (k : ℕ) (os : List ℕ) → AllByRecursion (λ o. o < 256) os → k < length os → get_or os k 0 % 64 ≡ 0 → Good (length os) k (sealed k os)
sealed-good k os h l z =
    let o : get_or os k 0 < 256 = All-get_or (λ o. o < 256) os k 0 l h in
    let e = octets-sealed k os h l z in
    let c = check-small k os in
    record {
      some = omega (arith, length-map (set os k (carrier k os)) character, length-set os k (carrier k os));
      chars = chars-coded (set os k (carrier k os)) (All-set (λ o. o < 256) os k (carrier k os) (carrier-below k os o z) h);
      count = ap length e ∙ length-set os k (carrier k os);
      check = rw e (ap (λ (x : ℕ). x % 64) (get_or-set_same os k (carrier k os) 0 l) ∙ (let m : carrier k os % 64 ≡ check_at k os = omega arith in m) ∙ sym (carrier-check k os l o z));
    }

-- ---- read

-- the octets with the check taken out again
abbrev pub opened : ℕ → List ℕ → List ℕ
opened k os = set os k (get_or os k 0 / 64 * 64)

pub good-sealed : (n k : ℕ) (cs : List ℕ) → Good n k cs → k < length (map octet cs) → sealed k (opened k (map octet cs)) ≡ cs
good-sealed n k cs g l =
    let os : List ℕ = map octet cs in
    let v : ℕ = get_or os k 0 / 64 * 64 in
    let o : get_or os k 0 < 256 = All-get_or (λ o. o < 256) os k 0 l (octets-below cs) in
    let same : check_at k (opened k os) ≡ check_at k os =
    check-same k v os l (upper v (omega arith) ∙ (let e : v / 64 * 64 ≡ v = omega arith in e) ∙ sym (upper (get_or os k 0) o)) in
    let got : get_or (opened k os) k 0 ≡ v = get_or-set_same os k v 0 l in
    let whole : carrier k (opened k os) ≡ get_or os k 0 = omega (arith, g.check, same, got) in
    ap (map character) (ap (set (opened k os) k) whole ∙ set-set os k v (get_or os k 0) ∙ set-get_or os k 0) ∙ coded-octets cs g.chars
