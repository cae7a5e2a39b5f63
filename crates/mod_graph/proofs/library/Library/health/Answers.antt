use Rattle.std.proofs.Common.{◌<◌, List, ◌∙◌, length, get_or, ap, sym, subst}
use Rattle.lx_types.specs.declared.parts.Parts.{Parts}
use Rattle.lx_model.specs.declared.library.Health.TheVariants.{Fit}
use Rattle.lx_model.specs.Reach.{HealthOf}
use Rattle.mod_graph.proofs.Tables.{table_at}
use Rattle.mod_graph.proofs.library.Library.health.Goals as goal

pub returns : goal.returns
returns c =
    let mods : List Parts = c.self.inside.mods.items in
    c.health_at.ensures ∙ ap (λ hs. get_or hs c.args.m Fit) c.deref.ensures.value
    ∙ table_at (HealthOf mods) c.self.inside.healths.items (length mods) c.args.m Fit c.self.invariant.judged
    (subst (λ lib. c.args.m < length lib) (sym c.self.view_is) c.requires)
    ∙ ap (λ lib. HealthOf lib c.args.m) c.self.view_is
