use Rattle.std.proofs.Common.{◌≡◌, ◌∙◌, ap, filter_map, length, get_or, arith}
use Rattle.std.proofs.lemmas.Grind.{common_steps}
use Rattle.std.proofs.lemmas.List.{get_or_default}
use Rattle.std.proofs.lemmas.List.FromFn.{length-map-range_with_len}
use Rattle.lx_types.specs.declared.parts.Parts.{Parts}
use Rattle.lx_model.specs.Library.{library_named, no_module}
use Rattle.lx_model.specs.Reach.{imports_of}
use Rattle.mod_graph.proofs.Lists.{table_more}
use Rattle.mod_graph.proofs.imports.graph_of.Goals as goal

pub loop-m-preserved : goal.loop-m-preserved
loop-m-preserved c =
    let same : c.m-item.result ≡ get_or c.args.mods.now c.loop-m.m-index no_module =
    c.m-item.is ∙ get_or_default c.args.mods.now c.loop-m.m-index c.m-item.result no_module c.loop-m-test.true in
    let imports : c.in_ok-imports_among.field-0 ≡ imports_of c.args.mods.now c.loop-m.m-index =
    c.in_ok-imports_among.ensures.list ∙ ap (λ (m : Parts). filter_map (library_named c.args.mods.now) m.imports) same in (
      table_more (imports_of c.args.mods.now) c.loop-m.graph.items c.push.new.self.items c.in_ok-imports_among.field-0 c.loop-m.m-index
          c.loop-m.invariant.0 imports c.in_ok-push.ensures.items,
      grind (arith, common_steps),
    )

pub returns-clause-length : goal.returns-clause-length
returns-clause-length c =
    ap length c.loop-m.invariant.0 ∙ length-map-range_with_len (imports_of c.args.mods.now) 0 c.loop-m.m-index ∙ omega (arith, c.loop-m-test.false, c.loop-m.auto.m-index-end)
