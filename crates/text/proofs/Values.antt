-- Reading a number digit by digit.
use Rattle.std.proofs.Common.{◌≡◌, ℕ, ◌+◌, ◌*◌, ◌<◌, ◌≤◌, cond, List, [], ◌∷◌, length, get_or, drop, Some, None, Option, sym, refl, ap, ◌∙◌, mul-le-mul_left, mul-one, arith, ne_eqb}
use Rattle.text.specs.Digit.{digit}
use Rattle.text.specs.Number.{below, on, value, value_after}
use Rattle.std.proofs.lemmas.List.{at_drop_more}

after_none : (radix : ℕ) (bs : List ℕ) → value_after radix None bs ≡ None
after_none radix [] = refl
after_none radix (b ∷ bs) = after_none radix bs

-- a number does not get smaller by more digits
pub after-ge : (radix n : ℕ) (bs : List ℕ) (m : ℕ) → 0 < radix → value_after radix (Some n) bs ≡ Some m → n ≤ m
after-ge radix n [] m some e = let same : n ≡ m = cc in omega arith
after-ge radix n (b ∷ bs) m some e = go (λ d z. after-ge radix (n * radix + d) bs m some z) (below radix (digit b)) e
  where
    go : ((d : ℕ) → value_after radix (Some (n * radix + d)) bs ≡ Some m → n * radix + d ≤ m) → (o : Option ℕ) → value_after radix (on radix n o) bs ≡ Some m → n ≤ m
    go rest None z = let f : ◌≡◌ {A = ℕ} 0 1 = cc (after_none radix bs) in absurd (let g : ⊥ = omega arith in g)
    go rest (Some d) z =
        let wide : n * 1 ≤ n * radix = mul-le-mul_left n some in
        let more : n * radix + d ≤ m = rest d z in
        omega (arith, mul-one n)

step : (radix n : ℕ) (xs : List ℕ) (i : ℕ) → i < length xs → value_after radix (Some n) (drop i xs) ≡ value_after radix (on radix n (below radix (digit (get_or xs i 0)))) (drop (i + 1) xs)
step radix n xs i lt = at_drop_more (value_after radix (Some n)) xs i 0 lt

pub value-again : (radix n d : ℕ) (xs : List ℕ) (i : ℕ) → i < length xs → Some d ≡ below radix (digit (get_or xs i 0)) → value_after radix (Some 0) xs ≡ value_after radix (Some n) (drop i xs) → value_after radix (Some 0) xs ≡ value_after radix (Some (n * radix + d)) (drop (i + 1) xs)
value-again radix n d xs i lt e inv = inv ∙ step radix n xs i lt ∙ ap (λ (o : Option ℕ). value_after radix (on radix n o) (drop (i + 1) xs)) (sym e)

-- a number has digits
pub some-value : (radix : ℕ) (xs : List ℕ) → (length xs ≡ 0 → ⊥) → value radix xs ≡ value_after radix (Some 0) xs
some-value radix xs some = ap (λ b. cond b None (value_after radix (Some 0) xs)) (ne_eqb (length xs) 0 some)

pub value_none : (radix n : ℕ) (xs : List ℕ) (i : ℕ) → i < length xs → None ≡ below radix (digit (get_or xs i 0)) → value_after radix (Some 0) xs ≡ value_after radix (Some n) (drop i xs) → value_after radix (Some 0) xs ≡ None
value_none radix n xs i lt e inv = inv ∙ step radix n xs i lt ∙ ap (λ (o : Option ℕ). value_after radix (on radix n o) (drop (i + 1) xs)) (sym e) ∙ after_none radix (drop (i + 1) xs)

-- what is read so far is no more than the number
pub value-ge : (radix n d : ℕ) (xs : List ℕ) (i m : ℕ) → 0 < radix → i < length xs → Some d ≡ below radix (digit (get_or xs i 0)) → value_after radix (Some 0) xs ≡ value_after radix (Some n) (drop i xs) → value_after radix (Some 0) xs ≡ Some m → n * radix + d ≤ m
value-ge radix n d xs i m some lt e inv is = after-ge radix (n * radix + d) (drop (i + 1) xs) m some (sym (value-again radix n d xs i lt e inv) ∙ is)
