-- Each octet is coded by itself.
use Rattle.std.proofs.Common.{rules, ◌<◌}
use Rattle.std.proofs.lemmas.List.Elements.{All-weaker}
use Rattle.characters.specs.Character.{Char}
use Rattle.characters.specs.Characters.{Codes}
use Rattle.characters.proofs.OneToOne.{Codes-zip}
use Rattle.characters.proofs.coding.CharactersFromRefOctetsMOST.from.Goals as goal

codes : (c : goal.After-map) → Codes c.args.octets.now c.map.result
codes c = Codes-zip _ _ _ (λ o ch h. search rules) c.map.ensures

pub invariant_of-result : goal.invariant_of-result
invariant_of-result c = All-weaker Char (λ x. x < 512) (λ x h. h.0) c.map.result (codes c).right

pub returns : goal.returns
returns c = codes c
