use Rattle.std.proofs.Common.{◌∙◌, ap}
use Rattle.lx_types.specs.Parts.{ordinal_named}
use Rattle.mod_graph.proofs.NameIndexes.{lookup-shown, bytes_eq-sym}
use Rattle.mod_graph.proofs.names.NameIndex.ordinal_of.Goals as goal

pub returns : goal.returns
returns c =
    c.copied.ensures ∙ c.get.ensures.value
    ∙ lookup-shown (λ k. k.items) _ c.args.name.now (λ k. bytes_eq-sym c.args.name.now k.items) c.self.inside.ordinals.entries
    ∙ ap (λ names. ordinal_named names c.args.name.now) c.self.view_is
