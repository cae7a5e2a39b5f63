use Rattle.std.proofs.Common.{◌≡◌, ◌∙◌, [], sym, subst, take}
use Rattle.std.proofs.lemmas.List.{take_all}
use Rattle.std.proofs.lemmas.List.Elements.{All-more, All-same}
use Rattle.obj_types.specs.declared.object.ObjModule.{ObjModule}
use Rattle.comdat_core.proofs.Loops.{no_items}
use Rattle.comdat_core.proofs.taking.have_comdats.Goals as goal

pub loop-object-preserved : goal.loop-object-preserved
loop-object-preserved c =
    let x = c.object-item.result in
    let none : x.comdats ≡ [] = sym c.as_slice.ensures ∙ no_items c.as_slice.result.now (sym c.is_empty.ensures ∙ c.if-not-is_empty.false) in
    All-more (λ (m : ObjModule). m.comdats ≡ []) c.args.modules.now c.loop-object.object-index x c.loop-object-test.true c.loop-object.invariant (subst (λ (m : ObjModule). m.comdats ≡ []) c.object-item.is none)

pub returns : goal.returns
returns c =
    let ms = c.args.modules.now in
    let i = c.loop-object.object-index in
    All-same (λ (m : ObjModule). m.comdats ≡ []) ms (take i ms) (sym (take_all i ms c.loop-object-test.false)) c.loop-object.invariant
