-- No character is odd, so each is the one of its octet.
use Rattle.std.proofs.Common.{rules, ◌≡◌, ◌<◌, [], ◌∷◌, map, None, ap, sym, ◌∙◌}
use Rattle.octets.proofs.Rows.{map-zip}
use Rattle.std.proofs.lemmas.List.Elements.{recursion_from_All, All-from_recursion}
use Rattle.std.specs.List.{AllByRecursion}
use Rattle.characters.specs.Character.{Char, octet, character, odd_from}
use Rattle.characters.specs.Fault.{first_of, odd, silent}
use Rattle.characters.proofs.OneToOne.{coded-octets}
use Rattle.characters.proofs.Right.{all_right, no-fault}
use Rattle.characters.proofs.Characters.octets.Goals as goal

good : (c : goal.After-map) → first_of (silent c.args.self.now ∷ odd c.args.self.now ∷ []) ≡ None
good c = no-fault c.args.self.now (search rules) (ap (odd_from 0) (sym c.as_slice-characters.ensures.value) ∙ sym c.odd_place.ensures ∙ c.in-None.is)

made : (c : goal.After-map) → c.map.result ≡ map octet c.args.self.now
made c = map-zip _ octet _ _ (λ ch o h. search rules) c.map.ensures ∙ ap (map octet) c.self.view_is

pub returns-in-None-clause-cases : goal.returns-in-None-clause-cases
returns-in-None-clause-cases c = (good c, made c)

right : (c : goal.After-map) → AllByRecursion Char c.args.self.now
right c = all_right c.args.self.now (recursion_from_All (λ c. c < 512) c.args.self.now c.as_slice-characters.ensures.nine) (good c)

pub returns-in-None-clause-back : goal.returns-in-None-clause-back
returns-in-None-clause-back c = ap (map character) (made c) ∙ coded-octets c.args.self.now (right c)

pub returns-in-None-clause-right : goal.returns-in-None-clause-right
returns-in-None-clause-right c = All-from_recursion Char c.args.self.now (right c)
