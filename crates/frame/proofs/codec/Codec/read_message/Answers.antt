-- The characters' faults come first, then the octets'; the laws hold of what has none.
use Rattle.std.proofs.Common.{◌≡◌, ℕ, List, map, None, Ok, sym, ap, ◌∙◌}
use Rattle.characters.specs.Character.{octet}
use Rattle.frame.specs.Message.{master_parts, unless}
use Rattle.frame.specs.View.{kind_bits, master_view, sent_by, sent_fault}
use Rattle.frame.specs.declared.codec.Codec.{Codec}
use Rattle.std.proofs.lemmas.Result.{err_from_is_err_and}
use Rattle.frame.proofs.Heard.{master-characters, master-octets, nine}
use Rattle.frame.proofs.MasterBack.{master-sturdy, master-written}
use Rattle.frame.proofs.codec.Codec.read_message.Goals as goal

pub returns-in_err-row-clause-value : goal.returns-in_err-row-clause-value
returns-in_err-row-clause-value c =
    let d : Codec = c.args.self.now in
    let cs : List ℕ = c.args.record.now in
    let p = err_from_is_err_and c.from_residual.result c.from_residual.ensures.1 in
    let f = master-characters (kind_bits d.kind) d.lengths.od d.lengths.pd_out cs _ c.in_err-row.ensures.cases in
    rw (p.1, p.2) (ap (λ o. unless o (master_parts d.lengths.pd_out (map octet cs))) (sym f))

pub returns-in_err-test_message-clause-value : goal.returns-in_err-test_message-clause-value
returns-in_err-test_message-clause-value c =
    let d : Codec = c.args.self.now in
    let cs : List ℕ = c.args.record.now in
    let p = err_from_is_err_and c.from_residual-in_err-test_message.result c.from_residual-in_err-test_message.ensures.1 in
    let f =
    master-octets (kind_bits d.kind) d.lengths.od d.lengths.pd_out cs _ _ c.in_ok-row.ensures.cases.0 (c.as_slice-octets.ensures.value ∙ c.in_ok-row.ensures.cases.1) (sym c.in_err-test_message.ensures) in
    rw (p.1, p.2) (ap (λ o. unless o (master_parts d.lengths.pd_out (map octet cs))) (sym f))

none : (c : goal.After-message_parts) → sent_fault c.args.self.now c.args.record.now ≡ None
none c =
    let d : Codec = c.args.self.now in
    master-octets (kind_bits d.kind) d.lengths.od d.lengths.pd_out c.args.record.now _ _ c.in_ok-row.ensures.cases.0 (c.as_slice-octets.ensures.value ∙ c.in_ok-row.ensures.cases.1) (sym c.in_ok-test_message.ensures)

parts : (c : goal.After-message_parts) → master_view c.message_parts.result ≡ master_parts c.args.self.now.lengths.pd_out (map octet c.args.record.now)
parts c = c.message_parts.ensures ∙ ap (master_parts c.args.self.now.lengths.pd_out) (c.as_slice-octets.ensures.value ∙ c.in_ok-row.ensures.cases.1)

pub returns-clause-value : goal.returns-clause-value
returns-clause-value c = ap Ok (parts c) ∙ ap (λ o. unless o (master_parts c.args.self.now.lengths.pd_out (map octet c.args.record.now))) (sym (none c))

pub returns-clause-written : goal.returns-clause-written
returns-clause-written c =
    let d : Codec = c.args.self.now in
    master-written (kind_bits d.kind) d.lengths.od d.lengths.pd_out c.args.record.now (nine c.args.record.now c.in_ok-row.ensures.right) (none c) ∙ ap (sent_by d) (sym (parts c))

pub returns-clause-sturdy : goal.returns-clause-sturdy
returns-clause-sturdy c =
    let d : Codec = c.args.self.now in
    master-sturdy (kind_bits d.kind) d.lengths.od d.lengths.pd_out c.args.record.now (nine c.args.record.now c.in_ok-row.ensures.right) (none c)
