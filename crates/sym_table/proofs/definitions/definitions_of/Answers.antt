use Rattle.std.proofs.Common.{◌∙◌, ◌++◌, ap, sym}
use Rattle.link_model.specs.Symbols.{definitions_in}
use Rattle.link_model.specs.Link.{of_modules}
use Rattle.link_types.specs.Links.{link_with}
use Rattle.link_types.proofs.Lists.{modules-push}
use Rattle.sym_table.proofs.definitions.definitions_of.Goals as goal
use Rattle.std.proofs.Common.{take}

pub loop-index-preserved : goal.loop-index-preserved
loop-index-preserved c =
    let before = of_modules (link_with c.args.input.now (take c.loop-index.index c.args.modules.now)) definitions_in in
    c.in_ok-add_module.ensures
    ∙ ap (λ ds. ds ++ definitions_in c.in_ok-count.field-0 c.index-modules-index.result.now) c.loop-index.invariant
    ∙ ap (λ n. before ++ definitions_in n c.index-modules-index.result.now) c.in_ok-count.ensures
    ∙ sym (modules-push definitions_in c.args.input.now c.args.modules.now c.loop-index.index c.index-modules-index.result c.loop-index-test.true c.index-modules-index.is)
