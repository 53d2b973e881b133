-- Reading CHARS: characters with the `.` that follows each, and the last with none.
use Rattle.std.proofs.Common.{◌≡◌, ℕ, zero, suc, ◌+◌, ◌*◌, ◌/◌, ◌%◌, ◌<◌, Bool, true, false, cond, ◌&&◌, eqb, ltb, List, [], ◌∷◌, ◌++◌, length, get_or, drop, Some, None, Option, sym, refl, ap, ◌∙◌, arith, ⊎_elim}
use Rattle.octets.specs.Below.{all_below}
use Rattle.std.proofs.lemmas.Bool.{cases_Bool, eqb-true}
use Rattle.std.proofs.lemmas.Bool.Decides.{nat_tests}
use Rattle.std.specs.List.{flat_map}
use Rattle.std.specs.Simd.{first_chunks}
use Rattle.text.proofs.Glyphs.{digit_glyph}
use Rattle.text.proofs.Reading.{before-none, long-no-dash, read_each}
use Rattle.text.specs.Digit.{digit, glyph}
use Rattle.text.specs.Text.{before, chars_text, dot_three, dotted, dotted_one, is_dash, more, read_chars}

-- the character of three digits, and of three with a `.` behind them
abbrev pub three : List ℕ → Option ℕ
three ds = more (more (digit (get_or ds 0 0)) (digit (get_or ds 1 0))) (digit (get_or ds 2 0))

abbrev pub four : List ℕ → Option ℕ
four ds = dotted_one (get_or ds 3 0) (get_or ds 0 0) (get_or ds 1 0) (get_or ds 2 0)

-- characters, and one more
abbrev pub followed : Option (List ℕ) → Option ℕ → Option (List ℕ)
followed None n = None
followed (Some xs) None = None
followed (Some xs) (Some n) = Some (xs ++ n ∷ [])

last-one : (n : Option ℕ) → before n (Some []) ≡ followed (Some []) n
last-one None = refl
last-one (Some n) = refl

before-followed : (x : Option ℕ) (xs : Option (List ℕ)) (n : Option ℕ) → before x (followed xs n) ≡ followed (before x xs) n
before-followed None xs n = refl
before-followed (Some x) None n = refl
before-followed (Some x) (Some xs) None = refl
before-followed (Some x) (Some xs) (Some n) = refl

-- characters come in fours with their `.`
pub uneven-none : (xs : List ℕ) → (length xs % 4 ≡ 0 → ⊥) → dotted xs ≡ None
uneven-none [] h = absurd (h refl)
uneven-none (p ∷ []) h = refl
uneven-none (p ∷ a ∷ []) h = refl
uneven-none (p ∷ a ∷ b ∷ []) h = refl
uneven-none (p ∷ a ∷ b ∷ c ∷ xs) h = ap (before _) (uneven-none xs (λ e. h (omega arith))) ∙ before-none _

no-dot : (p : ℕ) (text : List ℕ) → 0 < length text → eqb p 46 ≡ false → dotted (p ∷ text) ≡ None
no-dot p [] h e = absurd (omega arith)
no-dot p (a ∷ []) h e = refl
no-dot p (a ∷ b ∷ []) h e = refl
no-dot p (a ∷ b ∷ c ∷ text) h e = ap (λ t. before (cond t (more (more (digit a) (digit b)) (digit c)) None) (dotted text)) e

pub by-fours : (k : ℕ) (text : List ℕ) → length text ≡ 4 * k + 3 → dotted (46 ∷ text) ≡ followed (read_each four (first_chunks 4 k text)) (three (drop (k * 4) text))
by-fours zero (a ∷ b ∷ c ∷ []) e = last-one _
by-fours (suc k) (a ∷ b ∷ c ∷ p ∷ text) e =
    let x : Option ℕ = more (more (digit a) (digit b)) (digit c) in
    let same : suc k * 4 ≡ suc (suc (suc (suc (k * 4)))) = omega arith in
    let last : drop (suc k * 4) (a ∷ b ∷ c ∷ p ∷ text) ≡ drop (k * 4) text = rw same in
    let end : Option ℕ = three (drop (k * 4) text) in
    let groups : Option (List ℕ) = read_each four (first_chunks 4 k text) in
    ⊎_elim
    (λ dot. let is : p ≡ 46 = eqb-true p 46 dot in
    ap (λ q. before x (dotted (q ∷ text))) is ∙ ap (before x) (by-fours k text (omega arith)) ∙ before-followed x groups end
    ∙ ap (λ (t : Bool). followed (before (cond t x None) groups) end) (sym dot) ∙ ap (λ (l : List ℕ). followed (before (four (a ∷ b ∷ c ∷ p ∷ [])) groups) (three l)) (sym last))
    (λ other. ap (before x) (no-dot p text (omega arith) other) ∙ before-none x ∙ ap (λ (t : Bool). followed (before (cond t x None) groups) (three (drop (suc k * 4) (a ∷ b ∷ c ∷ p ∷ text)))) (sym other))
    (cases_Bool (eqb p 46))
by-fours k text e = absurd (omega arith)

-- the word as its groups and what stands behind them
in-fours : (word : List ℕ) (groups : List (List ℕ)) (last : List ℕ) → length word ≡ 4 * (length word / 4) + 3 → groups ≡ first_chunks 4 (length word / 4) word → last ≡ drop (length word / 4 * 4) word → dotted (46 ∷ word) ≡ followed (read_each four groups) (three last)
in-fours word groups last len front back = by-fours (length word / 4) word len ∙ (λ k. followed (read_each four (sym front k)) (three (sym back k)))

pub ends-in : (word : List ℕ) (groups : List (List ℕ)) (last cs : List ℕ) (o : Option ℕ) → length word ≡ 4 * (length word / 4) + 3 → groups ≡ first_chunks 4 (length word / 4) word → last ≡ drop (length word / 4 * 4) word → read_each four groups ≡ Some cs → o ≡ three last → dotted (46 ∷ word) ≡ followed (Some cs) o
ends-in word groups last cs o len front back read e = in-fours word groups last len front back ∙ (λ k. followed (read k) (sym e k))

pub no-group : (word : List ℕ) (groups : List (List ℕ)) → length word ≡ 4 * (length word / 4) + 3 → groups ≡ first_chunks 4 (length word / 4) word → read_each four groups ≡ None → dotted (46 ∷ word) ≡ None
no-group word groups len front none = in-fours word groups _ len front refl ∙ ap (λ (cs : Option (List ℕ)). followed cs (three (drop (length word / 4 * 4) word))) none

followed-none : (cs : Option (List ℕ)) → followed cs None ≡ None
followed-none None = refl
followed-none (Some cs) = refl

pub no-last : (word last : List ℕ) → length word ≡ 4 * (length word / 4) + 3 → last ≡ drop (length word / 4 * 4) word → None ≡ three last → dotted (46 ∷ word) ≡ None
no-last word last len back e = in-fours word _ last len refl back ∙ ap (followed (read_each four (first_chunks 4 (length word / 4) word))) (sym e) ∙ followed-none _

pub plain-chars : (text : List ℕ) (o : Option (List ℕ)) → false ≡ is_dash text → dotted (46 ∷ text) ≡ o → read_chars text ≡ o
plain-chars text o d e = ap (λ b. cond b (Some []) (dotted (46 ∷ text))) (sym d) ∙ e

-- a character's digits are read as the character
three_back : (c : ℕ) → c < 4096 → more (more (digit (glyph (c / 256 % 16))) (digit (glyph (c / 16 % 16)))) (digit (glyph (c % 16))) ≡ Some c
three_back c h =
    (λ k. more (more (digit_glyph (c / 256 % 16) (omega arith) k) (digit_glyph (c / 16 % 16) (omega arith) k)) (digit_glyph (c % 16) (omega arith) k))
    ∙ ap (λ (n : ℕ). Some n) (let e : 16 * (16 * (c / 256 % 16) + c / 16 % 16) + c % 16 ≡ c = omega arith in e)

first-and-rest : (c : ℕ) (rest : Bool) → (ltb c 4096 && rest) ≡ true → (c < 4096) × (rest ≡ true)
first-and-rest c rest h = grind (arith, nat_tests)

dotted-back : (cs : List ℕ) → all_below 4096 cs ≡ true → dotted (flat_map dot_three cs) ≡ Some cs
dotted-back [] h = refl
dotted-back (c ∷ cs) h = let p = first-and-rest c (all_below 4096 cs) h in (λ k. before (three_back c p.0 k) (dotted-back cs p.1 k))

-- what is written of characters is read as them
pub chars_back : (cs : List ℕ) → all_below 4096 cs ≡ true → read_chars (chars_text cs) ≡ Some cs
chars_back [] h = refl
chars_back (c ∷ cs) h =
    plain-chars (chars_text (c ∷ cs)) _ (long-no-dash (glyph (c / 256 % 16)) (glyph (c / 16 % 16)) (glyph (c % 16) ∷ flat_map dot_three cs)) (dotted-back (c ∷ cs) h)
