use Rattle.std.proofs.Common.{◌≡◌, ◌+◌, ◌++◌, ◌∷◌, [], get_or, sym, ap, Err, rules, subst, ◌∙◌}
use Rattle.lx_types.specs.declared.object.ObjHead.{ObjHead}
use Rattle.base_pick.specs.declared.occupied.AddressRange.{AddressRange}
use Rattle.base_pick.specs.Places.{place_of, range_at}
use Rattle.base_pick.proofs.Placing.{IsPlaced, IsPlaced-more, IsPlaced-full, IsPlaced-all, refused}
use Rattle.base_pick.proofs.picking.place_each.Goals as goal

-- what a look-up past the end of a list of objects gives
no_object : ObjHead
no_object = record { size = 0; base = 0; flags = 0; first = 0; count = 0 }

pub returns-in_default : goal.returns-in_default
unfolding no_object
returns-in_default c =
    let object = get_or c.args.objects.now c.loop-object.object-index no_object in
    refused c.full_at.result _ _
    (IsPlaced-full c.args.arena c.args.occupied.now c.args.objects.now c.loop-object.object-index c.loop-object.ranges.items c.put_in_order.new.ranges.items
    c.loop-object.bases.items no_object c.loop-object.invariant c.loop-object-test.true c.put_in_order.ensures.moved (ap (λ xs. place_of c.args.arena xs object) (sym c.deref.ensures.value) ∙ sym c.in_default.ensures.place)
    ∙ ap (λ n. Err (record { object = n; size = object.size })) (sym (ap (λ n. n + 1) (c.len.ensures ∙ search rules))))
    c.full_at.ensures

pub loop-object-preserved : goal.loop-object-preserved
unfolding no_object
loop-object-preserved c =
    let more : IsPlaced c.args.arena c.args.occupied.now c.args.objects.now (c.loop-object.object-index + 1) _ _ =
    IsPlaced-more c.args.arena c.args.occupied.now c.args.objects.now c.loop-object.object-index c.loop-object.ranges.items c.put_in_order.new.ranges.items
    c.loop-object.bases.items c.in-Some.base no_object
    c.loop-object.invariant c.loop-object-test.true c.put_in_order.ensures.moved (ap (λ xs. place_of c.args.arena xs (get_or c.args.objects.now c.loop-object.object-index no_object)) (sym c.deref.ensures.value) ∙ sym c.in-Some.ensures.place) in
    let range : AddressRange = range_at c.in-Some.base (get_or c.args.objects.now c.loop-object.object-index no_object).size in
    let ranges : c.put_in_order.new.ranges.items ++ range ∷ [] ≡ c.push.new.self.items =
    ap (λ (r : AddressRange). c.put_in_order.new.ranges.items ++ r ∷ []) (sym c.range_at.ensures) ∙ sym c.in_ok-push.ensures.items in
    subst (λ xs. IsPlaced c.args.arena c.args.occupied.now c.args.objects.now (c.loop-object.object-index + 1) xs c.push-in-loop-object.new.self.items) ranges
    (subst (λ xs. IsPlaced c.args.arena c.args.occupied.now c.args.objects.now (c.loop-object.object-index + 1) (c.put_in_order.new.ranges.items ++ range ∷ []) xs) (sym c.in_ok-push-2.ensures.items) more)

pub returns : goal.returns
returns c =
    IsPlaced-all c.args.arena c.args.occupied.now c.args.objects.now c.loop-object.object-index c.loop-object.ranges.items c.loop-object.bases.items
    c.loop-object.invariant c.loop-object-test.false
