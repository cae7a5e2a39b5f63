use Rattle.std.proofs.Common.{◌<◌, List, [], ◌∙◌, length, get_or, ap, sym, subst}
use Rattle.lx_types.specs.declared.parts.Parts.{Parts}
use Rattle.lx_model.specs.Reach.{Order}
use Rattle.mod_graph.proofs.Tables.{table_at}
use Rattle.mod_graph.proofs.library.Library.order.Goals as goal

pub returns : goal.returns
returns c =
    let mods : List Parts = c.self.inside.mods.items in
    c.list_at.ensures ∙ ap (λ os. get_or os c.args.m []) c.deref.ensures.value
    ∙ table_at (Order mods) c.self.inside.orders.items (length mods) c.args.m [] c.self.invariant.ordered
    (subst (λ lib. c.args.m < length lib) (sym c.self.view_is) c.requires)
    ∙ ap (λ lib. Order lib c.args.m) c.self.view_is
