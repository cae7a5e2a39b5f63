use Rattle.std.proofs.Common.{◌∙◌, ap, sym, subst, map, Option, ℕ, List}
use Rattle.std.specs.Borrow.{Bor}
use Rattle.std.specs.List.{All, position}
use Rattle.std.specs.Option.{unwrap_or, option_and_then}
use Rattle.obj_types.specs.declared.object.Group.{Group}
use Rattle.obj_types.specs.declared.object.ObjModule.{ObjModule}
use Rattle.link_core.proofs.AutoData.{named, HasNone, auto-found, auto-none, has-none, all-more}
use Rattle.std.proofs.lemmas.List.{take_all}
use Rattle.link_core.proofs.auto.auto_of.Goals as goal

pub returns-in-Some : goal.returns-in-Some
returns-in-Some c = λ l of are.
    c.object_or_0.ensures
    ∙ ap (λ (o : Option (Option ℕ)). unwrap_or (option_and_then (λ (x : Option ℕ). x) o) 0) c.group.ensures
    ∙ auto-found l c.args.places.now c.args.modules.now c.index-modules-index.result c.loop-index.index c.in_ok-count.field-0 c.in_ok-count-2.field-0 c.in-Some.group of are c.loop-index-test.true c.index-modules-index.is
    c.in_ok-count.ensures c.in_ok-count-2.ensures (sym (c.dgroup_in.ensures ∙ ap (λ (gs : List Group). position named gs) c.as_slice.ensures) ∙ c.in-Some.is)

pub loop-index-preserved : goal.loop-index-preserved
loop-index-preserved c =
    all-more HasNone c.args.modules.now c.loop-index.index c.index-modules-index.result c.loop-index-test.true c.index-modules-index.is c.loop-index.invariant
    (has-none c.index-modules-index.result.now (sym (c.dgroup_in.ensures ∙ ap (λ (gs : List Group). position named gs) c.as_slice.ensures) ∙ c.in_default.is))

pub returns : goal.returns
returns c = λ l of are. auto-none l (map (λ m. m.now) c.args.modules.now) of (subst (λ (ms : List (Bor ObjModule)). All HasNone (map (λ m. m.now) ms)) (take_all c.loop-index.index c.args.modules.now c.loop-index-test.false) c.loop-index.invariant)
