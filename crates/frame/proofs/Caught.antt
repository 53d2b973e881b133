-- Two turned bits of one character show in the check: computed at each of the 512 numbers of nine bits.
use Rattle.std.proofs.Common.{◌≡◌, ℕ, zero, suc, ◌+◌, ◌-◌, ◌/◌, ◌%◌, ◌^◌, ◌<◌, Bool, true, ◌&&◌, eqb, ltb, sym, refl, ap, ◌∙◌, pow-suc, arith}
use lib.Arith.{lt-one}
use lib.Bits.{bit_and, and_le_l, mask_lt}
use lib.Count.{ones, ones_in, ones_step}
use Rattle.std.proofs.lemmas.Bool.Decides.{Decides-below_and, Decides-ltb, Decides-eqb}
use Rattle.frame.specs.Check.{six_bits}
use Rattle.frame.proofs.Ones.{ones-zero, and_assoc}

-- what is said of each mask of the check and of the place of its bit
pub record Six (P : ℕ → ℕ → Type 0) : Type 0 where
  pub b5 : P 0xaa 0x20
  pub b4 : P 0x55 0x10
  pub b3 : P 0xc0 0x08
  pub b2 : P 0x30 0x04
  pub b1 : P 0x0c 0x02
  pub b0 : P 0x03 0x01

pub six-map : {P Q : ℕ → ℕ → Type 0} → ((m p : ℕ) → bit_and 0xff m ≡ m → bit_and 0xff p ≡ p → P m p → Q m p) → Six P → Six Q
six-map f s =
    record {
      b5 = f 0xaa 0x20 refl refl s.b5;
      b4 = f 0x55 0x10 refl refl s.b4;
      b3 = f 0xc0 0x08 refl refl s.b3;
      b2 = f 0x30 0x04 refl refl s.b2;
      b1 = f 0x0c 0x02 refl refl s.b1;
      b0 = f 0x03 0x01 refl refl s.b0;
    }

pub six-both : {P Q R : ℕ → ℕ → Type 0} → ((m p : ℕ) → P m p → Q m p → R m p) → Six P → Six Q → Six R
six-both f s t =
    record {
      b5 = f 0xaa 0x20 s.b5 t.b5;
      b4 = f 0x55 0x10 s.b4 t.b4;
      b3 = f 0xc0 0x08 s.b3 t.b3;
      b2 = f 0x30 0x04 s.b2 t.b2;
      b1 = f 0x0c 0x02 s.b1 t.b1;
      b0 = f 0x03 0x01 s.b0 t.b0;
    }

-- a number of d digits needs d steps to count
ones-in : (d n : ℕ) → n < 2 ^ d → ones n ≡ ones_in d n
unfolding ones_in
ones-in zero n h = ap ones (lt-one h) ∙ ones-zero
ones-in (suc d) n h = ones_step n ∙ ap (λ (x : ℕ). n % 2 + x) (ones-in d (n / 2) (omega (arith, pow-suc 2 d)))

nine : (n : ℕ) → n < 512 → ones n ≡ ones_in 9 n
nine n h = ones-in 9 n h

under : (n m : ℕ) → n < 512 → ones (bit_and n m) ≡ ones_in 9 (bit_and n m)
under n m h = nine (bit_and n m) (omega (arith, and_le_l n m))

-- positive, unless the count of e is 2 and each of the six parities is 0
abbrev score : (ℕ → ℕ → ℕ) → ℕ → ℕ
score f e =
    (ones_in 9 e - 2) + (2 - ones_in 9 e)
    + f 0xaa 0x20 % 2 + f 0x55 0x10 % 2 + f 0xc0 0x08 % 2 + f 0x30 0x04 % 2 + f 0x0c 0x02 % 2 + f 0x03 0x01 % 2

-- under the masks, as any octet but the one that carries the check
abbrev plain : ℕ → ℕ → ℕ → ℕ
plain e m p = ones_in 9 (bit_and e m)

abbrev plain-test : ℕ → Bool
plain-test zero = true
plain-test (suc n) = ltb 0 (score (plain n) n) && plain-test n

plain-all : (e : ℕ) → e < 512 → 0 < score (plain e) e
unfolding ones_in
plain-all = (Decides-below_and (λ n. ltb 0 (score (plain n) n)) (λ n. 0 < score (plain n) n) plain-test (λ n. Decides-ltb 0 (score (plain n) n)) refl (λ _. refl) 512).0 refl

-- under the masks with bits 0 to 5 cleared, and at the place of the bit, as the octet that carries the check
abbrev carrier : ℕ → ℕ → ℕ → ℕ
carrier e m p = ones_in 9 (bit_and (bit_and e 0xc0) m) + ones_in 9 (bit_and e p)

abbrev carrier-test : ℕ → Bool
carrier-test zero = true
carrier-test (suc n) = ltb 0 (score (carrier n) n) && carrier-test n

carrier-all : (e : ℕ) → e < 512 → 0 < score (carrier e) e
unfolding ones_in
carrier-all = (Decides-below_and (λ n. ltb 0 (score (carrier n) n)) (λ n. 0 < score (carrier n) n) carrier-test (λ n. Decides-ltb 0 (score (carrier n) n)) refl (λ _. refl) 512).0 refl

pub plain-caught : (e : ℕ) → e < 512 → ones e ≡ 2 → Six (λ m p. ones (bit_and e m) % 2 ≡ 0) → ⊥
plain-caught e h two s =
    omega (arith, plain-all e h, nine e h, under e 0xaa h, under e 0x55 h, under e 0xc0 h, under e 0x30 h, under e 0x0c h, under e 0x03 h)

pub carrier-caught : (e : ℕ) → e < 512 → ones e ≡ 2 → Six (λ m p. (ones (bit_and (bit_and e 0xc0) m) + ones (bit_and e p)) % 2 ≡ 0) → ⊥
carrier-caught e h two s =
    let k : bit_and e 0xc0 < 512 = omega (arith, and_le_l e 0xc0) in
    omega (
      arith,
      carrier-all e h,
      nine e h,
      under (bit_and e 0xc0) 0xaa k,
      under (bit_and e 0xc0) 0x55 k,
      under (bit_and e 0xc0) 0xc0 k,
      under (bit_and e 0xc0) 0x30 k,
      under (bit_and e 0xc0) 0x0c k,
      under (bit_and e 0xc0) 0x03 k,
      under e 0x20 h,
      under e 0x10 h,
      under e 0x08 h,
      under e 0x04 h,
      under e 0x02 h,
      under e 0x01 h,
    )

-- a bit of six, as a count under its place
abbrev place-test : ℕ → ℕ → Bool
place-test p zero = true
place-test p (suc n) = eqb (ones_in 9 (bit_and n p)) (n / p % 2) && place-test p n

place-all : (p : ℕ) → place-test p 64 ≡ true → (v : ℕ) → v < 64 → ones_in 9 (bit_and v p) ≡ v / p % 2
place-all p t =
    (Decides-below_and (λ n. eqb (ones_in 9 (bit_and n p)) (n / p % 2)) (λ n. ones_in 9 (bit_and n p) ≡ n / p % 2) (place-test p)
    (λ n. Decides-eqb (ones_in 9 (bit_and n p)) (n / p % 2)) refl (λ _. refl) 64).0 t

place : (p : ℕ) → place-test p 64 ≡ true → bit_and 63 p ≡ p → (t : ℕ) → ones (bit_and t p) ≡ bit_and t 63 / p % 2
place p ok in' t =
    let k : bit_and t 63 < 64 = mask_lt t 6 in
    ap ones (sym (and_assoc t 63 p ∙ ap (bit_and t) in')) ∙ under (bit_and t 63) p (omega arith) ∙ place-all p ok (bit_and t 63) k

-- a check that fits is right in each bit
pub fits_each : (x t : ℕ) → bit_and t 0x3f ≡ six_bits x → Six (λ m p. ones (bit_and x m) % 2 ≡ ones (bit_and t p))
unfolding ones_in
fits_each x t h =
    let a : ones (bit_and t 0x20) ≡ bit_and t 63 / 0x20 % 2 = place 0x20 refl refl t in
    let b : ones (bit_and t 0x10) ≡ bit_and t 63 / 0x10 % 2 = place 0x10 refl refl t in
    let c : ones (bit_and t 0x08) ≡ bit_and t 63 / 0x08 % 2 = place 0x08 refl refl t in
    let d : ones (bit_and t 0x04) ≡ bit_and t 63 / 0x04 % 2 = place 0x04 refl refl t in
    let e : ones (bit_and t 0x02) ≡ bit_and t 63 / 0x02 % 2 = place 0x02 refl refl t in
    let f : ones (bit_and t 0x01) ≡ bit_and t 63 / 0x01 % 2 = place 0x01 refl refl t in
    record { b5 = omega arith; b4 = omega arith; b3 = omega arith; b2 = omega arith; b1 = omega arith; b0 = omega arith }
