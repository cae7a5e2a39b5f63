use Rattle.std.proofs.Common.{◌≡◌, ◌++◌, List, [], drop, sym, ap, ◌∙◌, append-nil}
use Rattle.std.proofs.lemmas.List.{drop_all}
use Rattle.link_model.specs.Exports.{given}
use Rattle.lx_exports.specs.declared.exports.OutEntry.{OutEntry}
use Rattle.lx_exports.specs.Exports.{asked}
use Rattle.lx_exports.proofs.ordinals.asked_ordinals.Goals as goal

pub returns : goal.returns
returns c =
    let asked_for = c.loop-export.asked_for.items in
    let done : drop c.loop-export.export-index c.args.exports.now ≡ [] = drop_all c.loop-export.export-index c.args.exports.now c.loop-export-test.false in
    sym (append-nil asked_for) ∙ ap (λ (left : List OutEntry). asked_for ++ given (asked left)) (sym done) ∙ c.loop-export.invariant
