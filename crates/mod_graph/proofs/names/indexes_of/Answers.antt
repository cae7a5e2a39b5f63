use Rattle.std.proofs.Common.{◌∙◌, ap}
use Rattle.lx_types.specs.Parts.{ordinal_named}
use Rattle.mod_graph.proofs.Indexed.{AreIndexed-more}
use Rattle.mod_graph.proofs.names.indexes_of.Goals as goal

pub loop-m-preserved : goal.loop-m-preserved
loop-m-preserved c =
    AreIndexed-more c.args.mods.now c.loop-m.names.items c.push.new.self.items c.loop-m.m-index c.m-item.result c.m-item.result c.in_ok-of.field-0
    c.loop-m.invariant c.loop-m-test.true c.m-item.is
    (λ q. c.in_ok-of.ensures q ∙ ap (λ names. ordinal_named names q) c.names.ensures) c.in_ok-push.ensures.items
