-- Counts of ones under a mask: exclusive or adds them, but for ones that meet, which go in pairs.
use Rattle.std.proofs.Common.{◌≡◌, ℕ, zero, suc, ◌+◌, ◌*◌, ◌/◌, ◌%◌, ◌<◌, ◌≤◌, sym, refl, ap, ◌∙◌, ap₂, le_of_suc-le-suc, not-suc-le-zero, mod-lt, zero-lt-suc, arith}
use lib.Arith.{bin_ind}
use lib.Bits.{bit_and, bit_xor, and_shr, and_mod, xor_shr, xor_mod, xor_add_and, and_le_l}
use lib.Count.{ones, ones_in, ones_step}

two_pos : zero < 2
two_pos = zero-lt-suc 1

not_digit {ℓ} : {A : Type ℓ} {x : ℕ} → suc (suc x) < 2 → A
not_digit h = absurd (not-suc-le-zero (le_of_suc-le-suc (le_of_suc-le-suc h)))

-- what holds of three digits by computation at each
by-eight : (P : ℕ → ℕ → ℕ → Type 0) → P 0 0 0 → P 0 0 1 → P 0 1 0 → P 0 1 1 → P 1 0 0 → P 1 0 1 → P 1 1 0 → P 1 1 1
    → (x y z : ℕ) → x < 2 → y < 2 → z < 2 → P x y z
by-eight P a b c d e f g h zero zero zero hx hy hz = a
by-eight P a b c d e f g h zero zero (suc zero) hx hy hz = b
by-eight P a b c d e f g h zero (suc zero) zero hx hy hz = c
by-eight P a b c d e f g h zero (suc zero) (suc zero) hx hy hz = d
by-eight P a b c d e f g h (suc zero) zero zero hx hy hz = e
by-eight P a b c d e f g h (suc zero) zero (suc zero) hx hy hz = f
by-eight P a b c d e f g h (suc zero) (suc zero) zero hx hy hz = g
by-eight P a b c d e f g h (suc zero) (suc zero) (suc zero) hx hy hz = h
by-eight P a b c d e f g h (suc (suc x)) y z hx hy hz = not_digit hx
by-eight P a b c d e f g h zero (suc (suc y)) z hx hy hz = not_digit hy
by-eight P a b c d e f g h (suc zero) (suc (suc y)) z hx hy hz = not_digit hy
by-eight P a b c d e f g h zero zero (suc (suc z)) hx hy hz = not_digit hz
by-eight P a b c d e f g h zero (suc zero) (suc (suc z)) hx hy hz = not_digit hz
by-eight P a b c d e f g h (suc zero) zero (suc (suc z)) hx hy hz = not_digit hz
by-eight P a b c d e f g h (suc zero) (suc zero) (suc (suc z)) hx hy hz = not_digit hz

pub ones-zero : ones 0 ≡ 0
unfolding ones ones_in
ones-zero = refl

-- the count of ones of an `and`: the lowest digits, and the rest
ones-and-step : (a m : ℕ) → ones (bit_and a m) ≡ bit_and (a % 2) (m % 2) + ones (bit_and (a / 2) (m / 2))
ones-and-step a m = ones_step (bit_and a m) ∙ ap₂ (λ (x y : ℕ). x + ones y) (and_mod a m 1) (and_shr a m 1)

ones-xor-step : (a b : ℕ) → ones (bit_xor a b) ≡ bit_xor (a % 2) (b % 2) + ones (bit_xor (a / 2) (b / 2))
ones-xor-step a b = ones_step (bit_xor a b) ∙ ap₂ (λ (x y : ℕ). x + ones y) (xor_mod a b 1) (xor_shr a b 1)

-- the count of an exclusive or is that of its operands, less both of each pair that meets
pub ones-xor : (a b : ℕ) → ones (bit_xor a b) + 2 * ones (bit_and a b) ≡ ones a + ones b
ones-xor =
    bin_ind (λ (n : ℕ). (b : ℕ) → ones (bit_xor n b) + 2 * ones (bit_and n b) ≡ ones n + ones b)
    (λ b. omega (arith, ones-zero))
    (λ n ih b. omega (arith, ones-xor-step n b, ones-and-step n b, ones_step n, ones_step b, ih (b / 2), xor_add_and (n % 2) (b % 2)))

digit-and-assoc : (x y z : ℕ) → x < 2 → y < 2 → z < 2 → bit_and (bit_and x y) z ≡ bit_and x (bit_and y z)
digit-and-assoc =
    by-eight (λ x y z. bit_and (bit_and x y) z ≡ bit_and x (bit_and y z)) refl refl refl refl refl refl refl refl

by_digits : {a b : ℕ} → a / 2 ≡ b / 2 → a % 2 ≡ b % 2 → a ≡ b
by_digits {a} {b} hi lo = omega (arith, hi, lo)

pub and_assoc : (a b c : ℕ) → bit_and (bit_and a b) c ≡ bit_and a (bit_and b c)
and_assoc =
    bin_ind (λ (n : ℕ). (b c : ℕ) → bit_and (bit_and n b) c ≡ bit_and n (bit_and b c)) (λ b c. refl)
    (λ n ih b c. by_digits
    (and_shr (bit_and n b) c 1 ∙ ap (λ (x : ℕ). bit_and x (c / 2)) (and_shr n b 1) ∙ ih (b / 2) (c / 2)
    ∙ sym (and_shr n (bit_and b c) 1 ∙ ap (bit_and (n / 2)) (and_shr b c 1)))
    (and_mod (bit_and n b) c 1 ∙ ap (λ (x : ℕ). bit_and x (c % 2)) (and_mod n b 1)
    ∙ digit-and-assoc (n % 2) (b % 2) (c % 2) (mod-lt n two_pos) (mod-lt b two_pos) (mod-lt c two_pos)
    ∙ sym (and_mod n (bit_and b c) 1 ∙ ap (bit_and (n % 2)) (and_mod b c 1))))

-- a mask passes through an exclusive or
pub and_xor : (a b m : ℕ) → bit_and (bit_xor a b) m ≡ bit_xor (bit_and a m) (bit_and b m)
and_xor =
    bin_ind (λ (n : ℕ). (b m : ℕ) → bit_and (bit_xor n b) m ≡ bit_xor (bit_and n m) (bit_and b m)) (λ b m. refl)
    (λ n ih b m. by_digits
    (and_shr (bit_xor n b) m 1 ∙ ap (λ (x : ℕ). bit_and x (m / 2)) (xor_shr n b 1) ∙ ih (b / 2) (m / 2)
    ∙ sym (xor_shr (bit_and n m) (bit_and b m) 1 ∙ ap₂ bit_xor (and_shr n m 1) (and_shr b m 1)))
    (and_mod (bit_xor n b) m 1 ∙ ap (λ (x : ℕ). bit_and x (m % 2)) (xor_mod n b 1)
    ∙ by-eight (λ x y z. bit_and (bit_xor x y) z ≡ bit_xor (bit_and x z) (bit_and y z)) refl refl refl refl refl refl refl refl
    (n % 2) (b % 2) (m % 2) (mod-lt n two_pos) (mod-lt b two_pos) (mod-lt m two_pos)
    ∙ sym (xor_mod (bit_and n m) (bit_and b m) 1 ∙ ap₂ bit_xor (and_mod n m 1) (and_mod b m 1))))

-- so the count under a mask is linear, but for pairs
pub count-xor : (a b m : ℕ) → ones (bit_and (bit_xor a b) m) + 2 * ones (bit_and (bit_and a m) (bit_and b m)) ≡ ones (bit_and a m) + ones (bit_and b m)
count-xor a b m = omega (arith, ap ones (and_xor a b m), ones-xor (bit_and a m) (bit_and b m))

-- a mask leaves no more ones than there were
pub ones-and-le : (a m : ℕ) → ones (bit_and a m) ≤ ones a
ones-and-le =
    bin_ind (λ (n : ℕ). (m : ℕ) → ones (bit_and n m) ≤ ones n) (λ m. omega arith)
    (λ n ih m. omega (arith, ones-and-step n m, ones_step n, ih (m / 2), and_le_l (n % 2) (m % 2)))
