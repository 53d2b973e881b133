-- The sealed row is the answer, which reads back.
use Rattle.std.proofs.Common.{◌≡◌, ℕ, ◌<◌, List, subst, ap, ◌∙◌, ap₂}
use Rattle.std.specs.List.{AllByRecursion}
use Rattle.frame.specs.Message.{answer_message, answer_octets, sealed}
use Rattle.frame.specs.View.{answer_with, answered_by, taken_by}
use Rattle.frame.specs.declared.codec.Codec.{Codec}
use Rattle.std.proofs.lemmas.List.Elements.{recursion_from_All}
use Rattle.frame.proofs.AnswerBack.{answer_back, answer-clear}
use Rattle.frame.proofs.codec.Codec.write_answer.Given.{Over}
use Rattle.frame.proofs.codec.Codec.write_answer.Goals as goal

pub sealed_characters-requires : goal.sealed_characters-requires
sealed_characters-requires g c =
    let d : Codec = c.args.self.now in
    let w = answer-clear d.lengths.od d.lengths.pd_in c.args.access (answer_with g.D.AsSlice.items c.args.answer.now) _ _ c.answer_row.ensures c.status_place.ensures.value in
    record { within = w.0; clear = w.1 }

written : (g : Over) (c : goal.After-sealed_characters g)
    → c.sealed_characters.result ≡ answered_by c.args.self.now c.args.access (answer_with g.D.AsSlice.items c.args.answer.now)
unfolding answer_message
written g c =
    c.sealed_characters.ensures.value
    ∙ ap₂ (λ (k : ℕ) (os : List ℕ). sealed k os) c.status_place.ensures.value c.answer_row.ensures

octets : (g : Over) (c : goal.After-sealed_characters g)
    → AllByRecursion (λ o. o < 256) (answer_octets c.args.self.now.lengths.od c.args.self.now.lengths.pd_in c.args.access (answer_with g.D.AsSlice.items c.args.answer.now))
octets g c = subst (AllByRecursion (λ o. o < 256)) c.answer_row.ensures (recursion_from_All (λ o. o < 256) c.answer_row.result c.sealed_characters.ensures.octets)

pub returns : goal.returns
returns g c =
    let d : Codec = c.args.self.now in
    let r = c.args.answer.now in
    record {
      value = written g c;
      back = ap (taken_by d c.args.access) (written g c)
          ∙ answer_back d.lengths.od d.lengths.pd_in c.args.access (answer_with g.D.AsSlice.items r) (octets g c);
    }
