use Rattle.std.proofs.Common.{◌≡◌, Bool, Option, Some, None, if◌then◌else◌, ◌∙◌, ap}
use Rattle.lx_types.specs.declared.fix.FixTarget.{FixTarget}
use Rattle.std.proofs.Common.{List}
use Rattle.lx_model.specs.declared.library.Health.{Health}
use Rattle.lx_model.specs.Library.{module_of}
use Rattle.lx_model.specs.Reach.{lost_import}
use Rattle.mod_graph.specs.declared.health.Faults.{Faults}
use Rattle.mod_graph.specs.declared.health.Met.{Met}
use Rattle.mod_graph.specs.Faults.{met_by}
use Rattle.mod_graph.proofs.health.faults_of_module.Goals as goal

faults_same : (a b c d u v w x : Option Health) → a ≡ u → b ≡ v → c ≡ w → d ≡ x →
    (let one : Faults = record { no_module = a; no_entry = b; forward_loop = c; gate286 = d } in one)
    ≡ (let other : Faults = record { no_module = u; no_entry = v; forward_loop = w; gate286 = x } in other)
faults_same a b c d u v w x f g h i =
    ap (λ z. record { no_module = z; no_entry = b; forward_loop = c; gate286 = d }) f
    ∙ ap (λ z. record { no_module = u; no_entry = z; forward_loop = c; gate286 = d }) g
    ∙ ap (λ z. record { no_module = u; no_entry = v; forward_loop = z; gate286 = d }) h
    ∙ ap (λ z. record { no_module = u; no_entry = v; forward_loop = w; gate286 = z }) i

-- a fault where the look-ups met it
met_so : (result : Option Health) (fault : Health) (met whole : Met) (of : Met → Bool) → result ≡ (if of met then Some fault else None) → met ≡ whole →
    result ≡ (if of whole then Some fault else None)
met_so result fault met whole of is same = is ∙ ap (λ (x : Met). if of x then Some fault else None) same

pub returns : goal.returns
returns c =
    let lib = c.args.points.now in
    let whole : Met = met_by lib c.args.m (module_of lib c.args.m).refs in
    let same : c.met_by-met.result ≡ whole =
    c.met_by-met.ensures ∙ ap (λ (ts : List FixTarget). met_by lib c.args.m ts) (c.refs_of.ensures ∙ ap (λ ms. (module_of ms c.args.m).refs) c.modules-mods.ensures.modules) in
    faults_same _ _ _ _ _ _ _ _
    (c.in_ok-lost_import.ensures ∙ ap (λ ms. lost_import ms c.args.m) c.modules-mods.ensures.modules)
    (met_so _ _ _ whole (λ x. x.no_entry) c.where_so.ensures same)
    (met_so _ _ _ whole (λ x. x.forward_loop) c.where_so-2.ensures same)
    (met_so _ _ _ whole (λ x. x.gate286) c.where_so-3.ensures same)
