use Rattle.std.proofs.Common.{◌∙◌, ◌==◌, ap, sym, Option, Some, List, ℕ}
use Rattle.std.specs.Option.{option_map}
use Rattle.obj_types.specs.declared.object.TheConstants.{ALIGN_ABSOLUTE}
use Rattle.link_model.specs.declared.refusals.LayRefusal.TheVariants.{AbsoluteSeg}
use Rattle.link_model.specs.Parts as rules
use Rattle.seg_parts.specs.Parts.{shown}
use Rattle.seg_parts.proofs.Lists.{find_mapped}
use Rattle.seg_parts.proofs.refusals.check_absolute.Goals as goal

pub returns-in-None : goal.returns-in-None
returns-in-None c =
    ap (λ (o : Option rules.Part). option_map (λ p. AbsoluteSeg p.name) o)
    (sym (ap (option_map shown) c.in-None.ensures ∙ find_mapped (λ p. p.align == ALIGN_ABSOLUTE) shown c.args.contributions.now))

pub returns-in_ok-copied-in-Some : goal.returns-in_ok-copied-in-Some
returns-in_ok-copied-in-Some c =
    ap (λ (o : Option rules.Part). option_map (λ p. AbsoluteSeg p.name) o)
    (sym (ap (option_map shown) c.in-Some.ensures ∙ find_mapped (λ p. p.align == ALIGN_ABSOLUTE) shown c.args.contributions.now))
    ∙ ap (λ (n : List ℕ). Some (AbsoluteSeg n)) (sym c.in_ok-copied-in-Some.ensures)
