use Rattle.std.proofs.Common.{◌∙◌, ◌++◌, ap, List, map}
use Rattle.std.specs.Borrow.{Bor}
use Rattle.std.specs.List.{flat_map}
use Rattle.std.proofs.lemmas.List.{take_all}
use Rattle.obj_types.specs.declared.object.ObjModule.{ObjModule}
use Rattle.obj_types.specs.declared.symbol.Exp.{Exp}
use Rattle.link_core.proofs.Steps.{exports-more}
use Rattle.link_core.proofs.exports.exports_of.Goals as goal

abbrev values : List (Bor Exp) → List Exp
values xs = map (λ (x : Bor Exp). x.now) xs

pub loop-object-init : goal.loop-object-init
loop-object-init c = ap values c.new-found.ensures.items

pub loop-object-preserved : goal.loop-object-preserved
loop-object-preserved c =
    exports-more c.args.modules.now c.loop-object.object-index c.object-item.result (values c.loop-object.found.items) (values c.add_exports.new.found.items) c.loop-object-test.true c.object-item.is c.loop-object.invariant
    (c.in_ok-add_exports.ensures ∙ ap (λ (xs : List Exp). values c.loop-object.found.items ++ xs) c.as_slice.ensures)

pub returns : goal.returns
returns c =
    c.in_ok-add_exports-2.ensures ∙ ap (λ (xs : List Exp). values c.loop-object.found.items ++ xs) c.as_slice-2.ensures
    ∙ ap (λ (xs : List Exp). xs ++ c.args.input.now.def.exports)
    (c.loop-object.invariant
    ∙ ap (λ (ms : List (Bor ObjModule)). flat_map (λ (m : ObjModule). m.exports) (map (λ (m : Bor ObjModule). m.now) ms)) (take_all c.loop-object.object-index c.args.modules.now c.loop-object-test.false))
