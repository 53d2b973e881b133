-- The text is cut at its first letter, and what is left at its first blank.
use Rattle.std.proofs.Common.{ℕ, List, drop, ap, ◌∙◌, rules, tests}
use Rattle.std.proofs.lemmas.List.{take_rest}
use Rattle.script.specs.Words.{is_blank, is_letter, onward}
use Rattle.script.proofs.Fronts.{IsCutAt-from_position}
use Rattle.script.proofs.word.split_word.Goals as goal

pub returns : goal.returns
returns c =
    let text : List ℕ = c.args.text.now in
    let blanks = IsCutAt-from_position is_letter text c.position.ensures.ran c.iter.ensures.rest (λ x b q k. search (rules, tests)) in
    let front = take_rest text c.unwrap_or-start.result ∙ ap (λ n. drop n text) c.unwrap_or-start.ensures ∙ blanks.back in
    let word = IsCutAt-from_position is_blank (onward is_letter text) c.position-2.ensures.ran (c.iter-2.ensures.rest ∙ front) (λ x b q k. search (rules, tests)) in
    record { word = cc; rest = cc }
