-- Octets as an ISDU: the first octet and the contents, or why there is none.
use Rattle.std.specs.Prelude.{ℕ, ◌-◌, ◌%◌, cond, List, length, take, drop, Ok, Err, Result, ◌==◌, nat_le, slice_index}
use Rattle.isdu.specs.Isdu.{xor_of}
use Rattle.isdu.specs.Total.{total_of}
use Rattle.isdu.specs.declared.opened.NoIsdu.{NoIsdu}
use Rattle.isdu.specs.declared.opened.NoIsdu.TheVariants.{Incomplete, BadTotal, NotWellFormed}
use Rattle.isdu.specs.declared.total.NoTotal.{NoTotal}
use Rattle.isdu.specs.declared.total.NoTotal.TheVariants.{Unknown, Bad}

-- The head has two octets where the Length is 1, else one.
abbrev pub head_count : List ℕ → ℕ
head_count os = cond (slice_index os 0 % 16 == 1) 2 1

-- The octets of the head that have come.
abbrev pub head_so_far : List ℕ → List ℕ
head_so_far os = take (head_count os) os

-- What follows the head in the octets before the last.
abbrev pub contents_of : List ℕ → List ℕ
contents_of front = drop (head_count front) front

-- All octets are there: their exclusive or is to be zero. What follows the total is skipped.
abbrev pub whole : ℕ → List ℕ → Result (ℕ × List ℕ) NoIsdu
whole t os = cond (xor_of (take t os) == 0) (Ok (slice_index os 0, contents_of (take (t - 1) os))) (Err NotWellFormed)

-- Octets that say no total yet are incomplete.
abbrev pub no_isdu : NoTotal → NoIsdu
no_isdu Unknown = Incomplete
no_isdu Bad = BadTotal

abbrev pub opened_by : Result ℕ NoTotal → List ℕ → Result (ℕ × List ℕ) NoIsdu
opened_by (Err why) os = Err (no_isdu why)
opened_by (Ok t) os = cond (nat_le t (length os)) (whole t os) (Err Incomplete)

abbrev pub opened : List ℕ → Result (ℕ × List ℕ) NoIsdu
opened os = opened_by (total_of os) os
