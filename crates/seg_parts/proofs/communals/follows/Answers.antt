use Rattle.std.proofs.Common.{◌∙◌, ap, Option}
use Rattle.std.specs.Option.{option_map, option_map_or}
use Rattle.link_model.specs.Parts as rules
use Rattle.seg_parts.specs.Parts.{shown}
use Rattle.seg_parts.specs.Communals.{is_of, is_other}
use Rattle.seg_parts.proofs.Lists.{find_mapped}
use Rattle.seg_parts.proofs.communals.follows.Goals as goal

pub returns-in-Some : goal.returns-in-Some
returns-in-Some c =
    ap (λ (o : Option rules.Part). option_map_or (λ p. p.wide) o c.args.otherwise)
    (ap (option_map shown) c.in-Some.ensures ∙ find_mapped (is_other c.args.dgroup.now.keys (is_of c.args.name.now c.args.class.now)) shown c.args.contributions.now)

pub returns-in-None : goal.returns-in-None
returns-in-None c =
    ap (λ (o : Option rules.Part). option_map_or (λ p. p.wide) o c.args.otherwise)
    (ap (option_map shown) c.in-None.ensures ∙ find_mapped (is_other c.args.dgroup.now.keys (is_of c.args.name.now c.args.class.now)) shown c.args.contributions.now)
