-- What a write to the memory of a row leaves.
use Rattle.std.proofs.Common.{◌≡◌, ℕ, ◌+◌, ◌-◌, ◌<◌, List, [], ◌∷◌, ◌++◌, length, get_or, take, replicate, drop, map, set, refl, ap, ◌∙◌, sym, arith, length-set, drop-drop, ◌≤◌, length-append, length-take, length-take-le, length-drop}
use lib.Seq.{take-set-lt}
use Rattle.std.specs.List.{AllZip}
use Rattle.std.proofs.lemmas.List.{drop-set-lt, drop-replicate, take_more}
use borrow.Rule.Slice.PartMut.{put_mid}
use Rattle.std.proofs.lemmas.Slice.{drop-put_mid, take-put_mid}
use Rattle.std.proofs.lemmas.Slice.Zip.{all_zipped_more}
use Rattle.octets.specs.Row.{IsRow}

-- a store at the place after the last element
pub pushed : {A : Type 0} (fill : A) (n len : ℕ) (items : List A) (x : A) → IsRow fill n len items → len < n → IsRow fill n (len + 1) (set items len x)
pushed fill n len items x is l = record {
  full = length-set items len x ∙ is.full;
  room = omega arith;
  filled =
      drop-set-lt (len + 1) items len x (omega arith)
      ∙ sym (drop-drop 1 len items)
      ∙ ap (drop 1) is.filled
      ∙ drop-replicate 1 (n - len) fill
      ∙ ap (λ k. replicate k fill) (let k : n - len - 1 ≡ n - (len + 1) = omega arith in k);
}

-- a store of several at the places after the last element
pub extended : {A : Type 0} (fill : A) (n len k : ℕ) (items xs : List A) → IsRow fill n len items → len + length xs ≤ n → k ≡ length xs
    → IsRow fill n (len + length xs) (put_mid len k items xs)
extended fill n len k items xs is l e =
    let here : len ≤ length items = omega (arith, is.full) in
    let after : drop (len + length xs) (put_mid len k items xs) ≡ drop (len + length xs) items = drop-put_mid len k items xs (len + length xs) (omega arith) here (sym e) in
    let front : length (take (len + length xs) (put_mid len k items xs)) ≡ len + length xs = ap length (take-put_mid len k items xs (len + length xs) refl here) ∙ omega (arith, length-append (take len items) xs, length-take-le len items here) in
    record {
      full = let m = put_mid len k items xs in grind (arith, front, length-take (len + length xs) m, length-drop (len + length xs) m, ap length after, length-drop (len + length xs) items, is.full);
      room = l;
      filled =
          after
          ∙ sym (drop-drop (length xs) len items)
          ∙ ap (drop (length xs)) is.filled
          ∙ drop-replicate (length xs) (n - len) fill
          ∙ ap (λ j. replicate j fill) (let j : n - len - length xs ≡ n - (len + length xs) = omega arith in j);
    }

-- a store at the place of an element that is held
pub held_set : {A : Type 0} (n : ℕ) (items held : List A) (place : ℕ) (x : A) → take n items ≡ held → place < n → take n (set items place x) ≡ set held place x
held_set n items held place x e l = take-set-lt n items place x l ∙ ap (λ xs. set xs place x) e

-- one more element of a list through a relation, at the end of what was made
pub AllZip-more : {A B : Type 0} (R : A → B → Type 0) (xs : List A) (i : ℕ) (x : A) (ys zs : List B) (y : B) → i < length xs → x ≡ get_or xs i x
    → AllZip R (take i xs) ys → R x y → zs ≡ ys ++ y ∷ [] → AllZip R (take (i + 1) xs) zs
AllZip-more R xs i x ys zs y l is so_far here e =
    rw (take_more xs i x l, ← is, e) (all_zipped_more R (take i xs) ys x y so_far here)

-- what a function gives for each element, where the relation says no less
pub map-zip : {A B : Type 0} (R : A → B → Type 0) (f : A → B) (xs : List A) (ys : List B) → ((x : A) (y : B) → R x y → y ≡ f x) → AllZip R xs ys → ys ≡ map f xs
map-zip R f [] [] gives h = refl
map-zip R f [] (y ∷ ys) gives h = absurd h
map-zip R f (x ∷ xs) [] gives h = absurd h
map-zip R f (x ∷ xs) (y ∷ ys) gives h = let e = gives x y h.0 in let es = map-zip R f xs ys gives h.1 in cc
