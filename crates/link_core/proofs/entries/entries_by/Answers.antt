use Rattle.std.proofs.Common.{◌∙◌, ◌++◌, ap, List, [], map}
use Rattle.std.specs.Prelude.{option_to_list}
use Rattle.std.specs.Borrow.{Bor}
use Rattle.std.proofs.lemmas.List.{take_all}
use Rattle.obj_types.specs.declared.symbol.Exp.{Exp}
use Rattle.lx_exports.specs.declared.exports.OutEntry.{OutEntry}
use Rattle.link_core.specs.Exports.{entry_in, entries_in}
use Rattle.link_core.proofs.Steps.{picked-more}
use Rattle.link_core.proofs.entries.entries_by.Goals as goal

pub loop-export-preserved : goal.loop-export-preserved
loop-export-preserved c = λ pairs are offsets.
    let f = entry_in c.args.context.now.places.now c.args.context.now.syms.now pairs c.args.context.now.objects.now in
    c.in_ok-add_entry.ensures pairs are offsets
    ∙ ap (λ (es : List OutEntry). es ++ option_to_list (f c.export-item.result.now)) (c.loop-export.invariant pairs are offsets)
    ∙ picked-more f [] c.args.exports.now c.loop-export.export-index c.export-item.result c.loop-export-test.true c.export-item.is

pub loop-export-init : goal.loop-export-init
loop-export-init c = λ pairs are offsets. c.new-entries.ensures.items

pub returns : goal.returns
returns c = λ pairs are offsets.
    c.loop-export.invariant pairs are offsets
    ∙ ap (λ (xs : List (Bor Exp)). entries_in c.args.context.now.places.now c.args.context.now.syms.now pairs c.args.context.now.objects.now (map (λ (x : Bor Exp). x.now) xs))
    (take_all c.loop-export.export-index c.args.exports.now c.loop-export-test.false)
