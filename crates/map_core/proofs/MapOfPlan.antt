-- The map of an input, from that of its plan.
use Rattle.std.proofs.Common.{◌≡◌, ℕ, List, None, sym, subst}
use Rattle.obj_types.specs.declared.input.LinkInput.{LinkInput}
use Rattle.link_model.specs.Kept.{Kept}
use Rattle.link_model.specs.Link.{Link, link_of}
use Rattle.lx_exports.specs.Exports.{export_refusal}
use Rattle.map_model.specs.Maps.{IsMap}
use Rattle.link_types.specs.Binding.{IsBound}
use Rattle.link_types.specs.Layout.{IsLaidOut}
use Rattle.link_core.specs.declared.planning.Plan.{Plan}
use Rattle.link_core.specs.Planned.{IsPlanned}
use Rattle.link_core.proofs.Assembled.{accepted, joined-is}
use Rattle.map_core.specs.Mapped.{IsMapped}

pub bound_kept : (input kept : LinkInput) (p : Plan) → kept ≡ Kept input → IsPlanned input p → IsBound kept p.syms
bound_kept input kept p is planned = subst (λ (k : LinkInput). IsBound k p.syms) (sym is) planned.bound

pub laid_kept : (input kept : LinkInput) (p : Plan) → kept ≡ Kept input → IsPlanned input p → IsLaidOut (link_of kept p.syms.chosen) p.layout
laid_kept input kept p is planned = subst (λ (k : LinkInput). IsLaidOut (link_of k p.syms.chosen) p.layout) (sym is) planned.planned.laid

pub map_of_plan : (input kept : LinkInput) (p : Plan) (text : List ℕ) → kept ≡ Kept input → IsPlanned input p → export_refusal p.image.exports ≡ None
    → IsMap p.image.name (link_of kept p.syms.chosen) text → IsMapped input text
map_of_plan input kept p text is planned exported map =
    let l : Link = link_of (Kept input) p.syms.chosen in
    let of_kept : IsMap p.image.name l text = subst (λ (k : LinkInput). IsMap p.image.name (link_of k p.syms.chosen) text) is map in
    record {
      link = l;
      of_input = record { picks = p.syms.chosen; chosen = planned.bound.chosen; same = joined-is input p.syms.chosen planned.joined };
      accepted = accepted input p planned exported;
      map = subst (λ (name : List ℕ). IsMap name l text) planned.planned.image.name of_kept;
    }
