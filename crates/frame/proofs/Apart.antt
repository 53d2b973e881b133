-- No two good messages of one length differ in one to three bits: the parities that the check counts add up under exclusive or.
use Rattle.std.proofs.Common.{◌≡◌, ℕ, zero, suc, ◌+◌, ◌*◌, ◌%◌, ◌<◌, ◌≤◌, ◌⊎◌, List, [], ◌∷◌, map, length, get_or, fold, sym, refl, ap, ◌∙◌, inl, inr, arith}
use lib.Bits.{bit_and, bit_xor, xor_lt, xor_assoc, xor_self, and_mask}
use lib.Count.{ones}
use Rattle.std.specs.List.{AllByRecursion}
use Rattle.characters.specs.Character.{Char, octet}
use Rattle.frame.specs.Check.{cleared, fold_at}
use Rattle.frame.specs.Disturbed.{turned, turns}
use Rattle.frame.proofs.Caught.{Six, six-map, six-both, plain-caught, carrier-caught, fits_each}
use Rattle.frame.proofs.Good.{Good}
use Rattle.frame.proofs.Ones.{ones-xor, ones-zero, and_assoc, and_xor, count-xor, ones-and-le}

-- ---- the ones that a mask m and the place p of its bit count in a message

abbrev tally : ℕ → List ℕ → ℕ
tally m [] = 0
tally m (c ∷ cs) = ones (bit_and c m) + tally m cs

-- the octet at place k carries the check
abbrev row : ℕ → ℕ → ℕ → List ℕ → ℕ
row m p k [] = 0
row m p zero (b ∷ cs) = ones (bit_and (bit_and b 0xc0) m) + ones (bit_and b p) + tally m cs
row m p (suc k) (c ∷ cs) = ones (bit_and c m) + row m p k cs

-- a mask of eight bits sees a character's octet
in-octet : (c m : ℕ) → bit_and 0xff m ≡ m → bit_and (octet c) m ≡ bit_and c m
in-octet c m hm = ap (λ (x : ℕ). bit_and x m) (sym (and_mask c 8)) ∙ and_assoc c 0xff m ∙ ap (bit_and c) hm

fold-tally : (m : ℕ) → bit_and 0xff m ≡ m → (x : ℕ) (cs : List ℕ)
    → ones (bit_and (fold bit_xor x (map octet cs)) m) % 2 ≡ (ones (bit_and x m) + tally m cs) % 2
fold-tally m hm x [] = omega arith
fold-tally m hm x (c ∷ cs) = omega (arith, fold-tally m hm (bit_xor x (octet c)) cs, count-xor x (octet c) m, ap ones (in-octet c m hm))

fold-row : (m p : ℕ) → bit_and 0xff m ≡ m → bit_and 0xff p ≡ p → (k x : ℕ) (cs : List ℕ)
    → (ones (bit_and (fold bit_xor x (cleared k (map octet cs))) m) + ones (bit_and (get_or (map octet cs) k 0) p)) % 2
    ≡ (ones (bit_and x m) + row m p k cs) % 2
fold-row m p hm hp k x [] = omega (arith, ones-zero)
fold-row m p hm hp zero x (b ∷ cs) =
    omega (
      arith,
      fold-tally m hm (bit_xor x (bit_and (octet b) 0xc0)) cs,
      count-xor x (bit_and (octet b) 0xc0) m,
      ap (λ (y : ℕ). ones (bit_and y m)) (in-octet b 0xc0 refl),
      ap ones (in-octet b p hp),
    )
fold-row m p hm hp (suc k) x (c ∷ cs) =
    omega (arith, fold-row m p hm hp k (bit_xor x (octet c)) cs, count-xor x (octet c) m, ap ones (in-octet c m hm))

-- each of the six counts is even in a good message
rows : {n k : ℕ} {cs : List ℕ} → Good n k cs → Six (λ m p. (ones (bit_and 0x52 m) + row m p k cs) % 2 ≡ 0)
rows {n} {k} {cs} g =
    six-map (λ m p hm hp h. omega (arith, fold-row m p hm hp k 0x52 cs))
    (fits_each (fold_at k (map octet cs)) (get_or (map octet cs) k 0) (and_mask (get_or (map octet cs) k 0) 6 ∙ g.check))

-- ---- where two messages differ

tally-xor : (m : ℕ) (cs ds : List ℕ) → length ds ≡ length cs → tally m (turned cs ds) % 2 ≡ (tally m cs + tally m ds) % 2
tally-xor m [] [] l = refl
tally-xor m [] (d ∷ ds) l = omega arith
tally-xor m (c ∷ cs) [] l = omega arith
tally-xor m (c ∷ cs) (d ∷ ds) l = omega (arith, tally-xor m cs ds (omega arith), count-xor c d m)

row-xor : (m p k : ℕ) (cs ds : List ℕ) → length ds ≡ length cs → row m p k (turned cs ds) % 2 ≡ (row m p k cs + row m p k ds) % 2
row-xor m p k [] [] l = refl
row-xor m p k [] (d ∷ ds) l = omega arith
row-xor m p k (c ∷ cs) [] l = omega arith
row-xor m p zero (c ∷ cs) (d ∷ ds) l =
    omega (
      arith,
      ap (λ (x : ℕ). ones (bit_and x m)) (and_xor c d 0xc0),
      count-xor (bit_and c 0xc0) (bit_and d 0xc0) m,
      count-xor c d p,
      tally-xor m cs ds (omega arith),
    )
row-xor m p (suc k) (c ∷ cs) (d ∷ ds) l = omega (arith, count-xor c d m, row-xor m p k cs ds (omega arith))

-- ---- what turned bits do

tally-le : (m : ℕ) (es : List ℕ) → tally m es ≤ turns es
tally-le m [] = omega arith
tally-le m (e ∷ es) = omega (arith, ones-and-le e m, tally-le m es)

row-le : (m p k : ℕ) (es : List ℕ) → row m p k es ≤ 2 * turns es
row-le m p k [] = omega arith
row-le m p zero (e ∷ es) = omega (arith, ones-and-le (bit_and e 0xc0) m, ones-and-le e 0xc0, ones-and-le e p, tally-le m es)
row-le m p (suc k) (e ∷ es) = omega (arith, ones-and-le e m, row-le m p k es)

turns-even : (es : List ℕ) → AllByRecursion Char es → turns es % 2 ≡ 0
turns-even [] h = refl
turns-even (e ∷ es) h = omega (arith, turns-even es h.1, h.0.1)

none-or-two : (n : ℕ) → n % 2 ≡ 0 → n ≤ 3 → (n ≡ 0) ⊎ (n ≡ 2)
none-or-two zero h l = inl refl
none-or-two (suc zero) h l = absurd (let z : ⊥ = omega arith in z)
none-or-two (suc (suc zero)) h l = inr refl
none-or-two (suc (suc (suc n))) h l = absurd (let z : ⊥ = omega arith in z)

-- two turned bits of one character show in some count, whether it carries the check or not
loud : (es : List ℕ) → AllByRecursion Char es → turns es ≡ 2 → Six (λ m p. tally m es % 2 ≡ 0) → ⊥
loud [] h two s = omega arith
loud (e ∷ es) h two s =
    elim (none-or-two (ones e) h.0.1 (omega arith)) [
      | inl z ↦ loud es h.1 (omega arith) (six-map (λ m p _ _ k. omega (arith, ones-and-le e m)) s)
      | inr z ↦ plain-caught e h.0.0 z (six-map (λ m p _ _ k. omega (arith, tally-le m es)) s)
    ]

shown : (k : ℕ) (es : List ℕ) → AllByRecursion Char es → 1 ≤ turns es → turns es ≤ 3 → Six (λ m p. row m p k es % 2 ≡ 0) → ⊥
shown k [] h low high s = omega arith
shown zero (e ∷ es) h low high s =
    elim (none-or-two (ones e) h.0.1 (omega arith)) [
      | inl z ↦ loud es h.1 (omega (arith, turns-even es h.1))
          (six-map (λ m p _ _ k. omega (arith, ones-and-le (bit_and e 0xc0) m, ones-and-le e 0xc0, ones-and-le e p)) s)
      | inr z ↦ carrier-caught e h.0.0 z (six-map (λ m p _ _ k. omega (arith, tally-le m es, turns-even es h.1)) s)
    ]
shown (suc k) (e ∷ es) h low high s =
    elim (none-or-two (ones e) h.0.1 (omega arith)) [
      | inl z ↦ shown k es h.1 (omega arith) (omega arith) (six-map (λ m p _ _ t. omega (arith, ones-and-le e m)) s)
      | inr z ↦ plain-caught e h.0.0 z (six-map (λ m p _ _ t. omega (arith, row-le m p k es, turns-even es h.1)) s)
    ]

-- ---- the masks of a turned message

-- turned back, a character is as it was, so the masks of two messages are characters too
back : (c m : ℕ) → bit_xor c (bit_xor c m) ≡ m
back c m = sym (xor_assoc c c m) ∙ ap (λ (x : ℕ). bit_xor x m) (xor_self c)

turned-back : (cs ms : List ℕ) → length ms ≡ length cs → turned cs (turned cs ms) ≡ ms
turned-back [] [] l = refl
turned-back [] (m ∷ ms) l = absurd (let z : ⊥ = omega arith in z)
turned-back (c ∷ cs) [] l = absurd (let z : ⊥ = omega arith in z)
turned-back (c ∷ cs) (m ∷ ms) l = let e = back c m in let es = turned-back cs ms (omega arith) in cc

length-turned : (cs ms : List ℕ) → length (turned cs ms) ≡ length cs
length-turned [] ms = refl
length-turned (c ∷ cs) [] = refl
length-turned (c ∷ cs) (m ∷ ms) = ap suc (length-turned cs ms)

char-xor : (c d : ℕ) → Char c → Char d → Char (bit_xor c d)
char-xor c d hc hd = (xor_lt 9 c d hc.0 hd.0, omega (arith, ones-xor c d))

chars-xor : (cs ds : List ℕ) → length ds ≡ length cs → AllByRecursion Char cs → AllByRecursion Char ds → AllByRecursion Char (turned cs ds)
chars-xor [] ds l hc hd = tt
chars-xor (c ∷ cs) [] l hc hd = hc
chars-xor (c ∷ cs) (d ∷ ds) l hc hd = (char-xor c d hc.0 hd.0, chars-xor cs ds (omega arith) hc.1 hd.1)

pub turned-nine : (cs ms : List ℕ) → AllByRecursion (λ c. c < 512) cs → AllByRecursion (λ m. m < 512) ms → AllByRecursion (λ c. c < 512) (turned cs ms)
turned-nine [] ms h k = tt
turned-nine (c ∷ cs) [] h k = h
turned-nine (c ∷ cs) (m ∷ ms) h k = (xor_lt 9 c m h.0 k.0, turned-nine cs ms h.1 k.1)

-- With one to three bits turned, a good message is not good.
pub apart : {n n' : ℕ} (k : ℕ) (cs ms : List ℕ) → Good n k cs → Good n' k (turned cs ms) → length ms ≡ length cs → 1 ≤ turns ms → turns ms ≤ 3 → ⊥
apart k cs ms g g' l low high =
    let e : turned cs (turned cs ms) ≡ ms = turned-back cs ms l in
    let lt : length (turned cs ms) ≡ length cs = length-turned cs ms in
    shown k ms (rw e at (chars-xor cs (turned cs ms) lt g.chars g'.chars)) low high
    (six-both (λ m p h h'. omega (arith, row-xor m p k cs (turned cs ms) lt, ap (row m p k) e)) (rows g) (rows g'))
