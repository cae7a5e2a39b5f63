-- Refusals of these parts.
use Rattle.std.specs.Prelude.{◌==◌, List, Option, find}
use Rattle.std.specs.Option.{option_map}
use Rattle.obj_types.specs.declared.object.TheConstants.{ALIGN_ABSOLUTE}
use Rattle.link_model.specs.declared.refusals.LayRefusal.{LayRefusal}
use Rattle.link_model.specs.declared.refusals.LayRefusal.TheVariants.{AbsoluteSeg}
use Rattle.link_model.specs.Parts.{Part}

-- `AbsoluteSeg`: the first contribution of alignment 0.
abbrev pub absolute_in : List Part → Option LayRefusal
absolute_in ps = option_map (λ p. AbsoluteSeg p.name) (find (λ p. p.align == ALIGN_ABSOLUTE) ps)
