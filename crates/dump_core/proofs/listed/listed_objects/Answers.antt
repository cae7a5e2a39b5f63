use Rattle.std.proofs.Common.{ℕ, ◌+◌, [], ◌∷◌, ◌++◌, map, length, sym, ap, ◌∙◌, arith}
use Rattle.std.specs.List.{range_with_len}
use Rattle.std.proofs.lemmas.List.FromFn.{map-range_with_len_more}
use Rattle.dump_model.specs.declared.listing.ListedObject.{ListedObject}
use Rattle.dump_model.specs.Listings.{listed_object}
use Rattle.dump_core.proofs.ObjectCounts.{few-objects}
use Rattle.dump_core.proofs.listed.listed_objects.Goals as goal

pub overflow_add-number : goal.overflow_add-number
overflow_add-number c =
    omega (arith, c.loop.invariant.0, c.loop-test.true, c.loop.auto.index-end, ap length c.objects-items.ensures.list, few-objects c.args.m.now c.requires)

pub loop-preserved : goal.loop-preserved
loop-preserved c =
    let object : ℕ → ListedObject = listed_object c.args.m.now in
    let n = c.loop.index in (
      omega (arith, c.loop.invariant.0),
      c.in_ok-push.ensures.items ∙ ap (λ os. os ++ c.in_ok-listed_object.field-0 ∷ []) c.loop.invariant.1
          ∙ ap (λ o. map object (range_with_len 1 n) ++ o ∷ []) c.in_ok-listed_object.ensures
          ∙ sym (map-range_with_len_more object 1 n (c.loop.number + 1) (omega (arith, c.loop.invariant.0))),
    )
