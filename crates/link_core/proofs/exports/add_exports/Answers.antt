use Rattle.std.proofs.Common.{◌∙◌, ◌++◌, ap, sym, List, map}
use Rattle.std.specs.Borrow.{Bor}
use Rattle.std.proofs.lemmas.List.{append-nil, take_all}
use Rattle.obj_types.specs.declared.symbol.Exp.{Exp}
use Rattle.link_core.proofs.Steps.{lent-pushed}
use Rattle.link_core.proofs.exports.add_exports.Goals as goal

pub loop-export-init : goal.loop-export-init
loop-export-init c = sym (append-nil (map (λ (x : Bor Exp). x.now) c.args.found.now.items))

pub loop-export-preserved : goal.loop-export-preserved
loop-export-preserved c =
    lent-pushed c.args.found.now.items c.loop-export.found.items c.push.new.self.items c.args.exports.now c.loop-export.export-index _ c.loop-export-test.true c.export-item.is c.loop-export.invariant c.in_ok-push.ensures.items

pub returns : goal.returns
returns c =
    c.loop-export.invariant ∙ ap (λ (xs : List Exp). map (λ (x : Bor Exp). x.now) c.args.found.now.items ++ xs) (take_all c.loop-export.export-index c.args.exports.now c.loop-export-test.false)
