use Rattle.std.proofs.Common.{Some, ap, sym, ◌∙◌}
use Rattle.std.specs.Prelude.{option_map}
use Rattle.lx_types.specs.declared.parts.Parts.{Parts}
use Rattle.load_model.specs.Modules.{start_of}
use Rattle.load_model.specs.Entering.{call_of}
use Rattle.residence_table.proofs.CallLists.{call_is}
use Rattle.residence_table.proofs.calls.start_call.Goals as goal

pub returns-in-Some : goal.returns-in-Some
unfolding start_of
returns-in-Some c = λ r at.
    ap Some (call_is c.args.kind r c.args.m c.in-Some.object c.in-Some.offset c.args.at.serial c.object_base.result c.args.at.bases.now at.serial at.bases c.object_base.ensures)
    ∙ ap (option_map (call_of c.args.kind r c.args.m)) (sym c.in-Some.is ∙ c.start.ensures ∙ ap (λ (p : Parts). p.start) c.module.ensures)

pub returns-in-None : goal.returns-in-None
unfolding start_of
returns-in-None c = λ r at. ap (option_map (call_of c.args.kind r c.args.m)) (sym c.in-None.is ∙ c.start.ensures ∙ ap (λ (p : Parts). p.start) c.module.ensures)
