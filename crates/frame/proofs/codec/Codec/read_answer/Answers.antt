-- The characters' faults come first, then the octets'; the laws hold of what has none.
use Rattle.std.proofs.Common.{◌≡◌, ℕ, List, map, None, Ok, sym, ap, ◌∙◌}
use Rattle.characters.specs.Character.{octet}
use Rattle.frame.specs.Message.{answer_parts, unless}
use Rattle.frame.specs.View.{answer_view, answered_by, answered_fault}
use Rattle.frame.specs.declared.codec.Codec.{Codec}
use Rattle.std.proofs.lemmas.Result.{err_from_is_err_and}
use Rattle.frame.proofs.Heard.{answer-characters, answer-octets, nine}
use Rattle.frame.proofs.AnswerBack.{answer-sturdy, answer-written}
use Rattle.frame.proofs.codec.Codec.read_answer.Goals as goal

pub returns-in_err-row-clause-value : goal.returns-in_err-row-clause-value
returns-in_err-row-clause-value c =
    let d : Codec = c.args.self.now in
    let cs : List ℕ = c.args.record.now in
    let p = err_from_is_err_and c.from_residual.result c.from_residual.ensures.1 in
    let f = answer-characters d.lengths.od d.lengths.pd_in c.args.access cs _ c.in_err-row.ensures.cases in
    rw (p.1, p.2) (ap (λ o. unless o (answer_parts d.lengths.od d.lengths.pd_in c.args.access (map octet cs))) (sym f))

pub returns-in_err-test_answer-clause-value : goal.returns-in_err-test_answer-clause-value
returns-in_err-test_answer-clause-value c =
    let d : Codec = c.args.self.now in
    let cs : List ℕ = c.args.record.now in
    let p = err_from_is_err_and c.from_residual-in_err-test_answer.result c.from_residual-in_err-test_answer.ensures.1 in
    let f =
    answer-octets d.lengths.od d.lengths.pd_in c.args.access cs _ _ c.in_ok-row.ensures.cases.0 (c.as_slice-octets.ensures.value ∙ c.in_ok-row.ensures.cases.1) (sym c.in_err-test_answer.ensures) in
    rw (p.1, p.2) (ap (λ o. unless o (answer_parts d.lengths.od d.lengths.pd_in c.args.access (map octet cs))) (sym f))

none : (c : goal.After-answer_parts) → answered_fault c.args.self.now c.args.access c.args.record.now ≡ None
none c =
    let d : Codec = c.args.self.now in
    answer-octets d.lengths.od d.lengths.pd_in c.args.access c.args.record.now _ _ c.in_ok-row.ensures.cases.0 (c.as_slice-octets.ensures.value ∙ c.in_ok-row.ensures.cases.1) (sym c.in_ok-test_answer.ensures)

parts : (c : goal.After-answer_parts) → answer_view c.answer_parts.result ≡ answer_parts c.args.self.now.lengths.od c.args.self.now.lengths.pd_in c.args.access (map octet c.args.record.now)
parts c = c.answer_parts.ensures ∙ ap (answer_parts c.args.self.now.lengths.od c.args.self.now.lengths.pd_in c.args.access) (c.as_slice-octets.ensures.value ∙ c.in_ok-row.ensures.cases.1)

pub returns-clause-value : goal.returns-clause-value
returns-clause-value c = ap Ok (parts c) ∙ ap (λ o. unless o (answer_parts c.args.self.now.lengths.od c.args.self.now.lengths.pd_in c.args.access (map octet c.args.record.now))) (sym (none c))

pub returns-clause-written : goal.returns-clause-written
returns-clause-written c =
    let d : Codec = c.args.self.now in
    answer-written d.lengths.od d.lengths.pd_in c.args.access c.args.record.now (nine c.args.record.now c.in_ok-row.ensures.right) (none c) ∙ ap (answered_by d c.args.access) (sym (parts c))

pub returns-clause-sturdy : goal.returns-clause-sturdy
returns-clause-sturdy c =
    let d : Codec = c.args.self.now in
    answer-sturdy d.lengths.od d.lengths.pd_in c.args.access c.args.record.now (nine c.args.record.now c.in_ok-row.ensures.right) (none c)
