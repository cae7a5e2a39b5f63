use Rattle.std.proofs.Common.{◌∙◌, ◌++◌, ap, sym, filter_map, take}
use Rattle.link_types.specs.Links.{link_with}
use Rattle.link_model.specs.Symbols.{comdef_of, comdefs}
use Rattle.sym_table.proofs.CommunalOnes.{comdefs-push}
use Rattle.sym_table.proofs.communals.comdefs_of.Goals as goal

pub loop-object-preserved : goal.loop-object-preserved
loop-object-preserved c =
    c.in_ok-add_comdefs.ensures
    ∙ ap (λ t. t ++ filter_map comdef_of c.as_slice.result.now) c.loop-object.invariant
    ∙ ap (λ es. comdefs (link_with c.args.input.now (take c.loop-object.object-index c.args.modules.now)) ++ filter_map comdef_of es) c.as_slice.ensures
    ∙ sym (comdefs-push c.args.input.now c.args.modules.now c.loop-object.object-index c.object-item.result c.loop-object-test.true c.object-item.is)
