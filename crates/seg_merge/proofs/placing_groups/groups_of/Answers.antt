use Rattle.std.proofs.Common.{◌∙◌, ◌++◌, ◌∷◌, [], ap, sym, map, ℕ, List, Option}
use Rattle.std.proofs.lemmas.List.{map-append}
use Rattle.std.specs.Borrow.{Bor}
use Rattle.obj_types.specs.declared.object.Group.{Group}
use Rattle.obj_types.specs.declared.object.ObjModule.{ObjModule}
use Rattle.link_types.proofs.Lists.{map-more}
use Rattle.seg_merge.specs.Placing.{object_named}
use Rattle.seg_merge.proofs.placing_groups.groups_of.Goals as goal

pub loop-object-preserved : goal.loop-object-preserved
loop-object-preserved c =
    let name : Group → Option ℕ = λ g. object_named c.args.names.now c.args.objects.now g.name in
    let row : Bor ObjModule → List (Option ℕ) = λ m. map name m.now.groups in
    ap (map (λ v. v.items)) c.in_ok-push.ensures.items
    ∙ map-append (λ v. v.items) c.loop-object.found.items (c.in_ok-groups_in.field-0 ∷ [])
    ∙ ap (λ (t : List (Option ℕ)). map (λ v. v.items) c.loop-object.found.items ++ t ∷ []) (c.in_ok-groups_in.ensures ∙ ap (map name) c.as_slice.ensures)
    ∙ ap (λ (t : List (List (Option ℕ))). t ++ row c.object-item.result ∷ []) c.loop-object.invariant
    ∙ sym (map-more row c.args.modules.now c.loop-object.object-index c.object-item.result c.loop-object-test.true c.object-item.is)
