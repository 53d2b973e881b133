-- The sealed row is the message, which reads back.
use Rattle.std.proofs.Common.{◌≡◌, ◌<◌, subst, ap, ◌∙◌, arith}
use Rattle.std.specs.List.{AllByRecursion}
use Rattle.frame.specs.Message.{master_message, master_octets, sealed}
use Rattle.frame.specs.View.{kind_bits, master_with, received_by, sent_by}
use Rattle.frame.specs.declared.codec.Codec.{Codec}
use Rattle.frame.specs.declared.message.SequenceType.{SequenceType}
use Rattle.frame.specs.declared.message.SequenceType.TheVariants.{Type0, Type1, Type2}
use Rattle.std.proofs.lemmas.List.Elements.{recursion_from_All}
use Rattle.frame.proofs.MasterBack.{master-back}
use Rattle.frame.proofs.codec.Codec.write_message.Given.{Over}
use Rattle.frame.proofs.codec.Codec.write_message.Goals as goal

kind-small : (k : SequenceType) → kind_bits k < 4
kind-small Type0 = omega arith
kind-small Type1 = omega arith
kind-small Type2 = omega arith

written : (g : Over) (c : goal.After-sealed_characters g)
    → c.sealed_characters.result ≡ sent_by c.args.self.now (master_with g.D.AsSlice.items c.args.message.now)
unfolding master_message
written g c = c.sealed_characters.ensures.value ∙ ap (sealed 1) c.message_row.ensures

octets : (g : Over) (c : goal.After-sealed_characters g)
    → AllByRecursion (λ o. o < 256) (master_octets (kind_bits c.args.self.now.kind) c.args.self.now.lengths.od c.args.self.now.lengths.pd_out (master_with g.D.AsSlice.items c.args.message.now))
octets g c = subst (AllByRecursion (λ o. o < 256)) c.message_row.ensures (recursion_from_All (λ o. o < 256) c.message_row.result c.sealed_characters.ensures.octets)

pub returns : goal.returns
returns g c =
    let d : Codec = c.args.self.now in
    let m = c.args.message.now in
    record {
      value = written g c;
      back = ap (received_by d) (written g c)
          ∙ master-back (kind_bits d.kind) d.lengths.od d.lengths.pd_out (master_with g.D.AsSlice.items m) (kind-small d.kind) m.control.exists (octets g c);
    }
