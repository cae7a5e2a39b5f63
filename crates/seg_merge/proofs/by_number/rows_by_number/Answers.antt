use Rattle.std.proofs.Common.{◌<◌, sym, subst, length, get_or, arith, ℕ, List, []}
use Rattle.seg_parts.specs.Order.{gathered}
use Rattle.seg_merge.proofs.GatheredPlaces.{gathered-below, list-at}
use Rattle.seg_merge.proofs.by_number.rows_by_number.Goals as goal

pub first_row-requires-clause-some : goal.first_row-requires-clause-some
first_row-requires-clause-some c =
    let at = list-at (λ v. v.items) c.in_ok-lists.lists.items c.deref-places-items.result.now (gathered c.args.order.now c.args.count) c.loop-places.places-index c.places-item.result c.as_slice.result.now
    c.deref-places-items.ensures.value c.in_ok-lists.ensures c.loop-places-test.true c.places-item.is c.as_slice.ensures.value in
    subst (λ (t : List ℕ). 0 < length t) (sym at.1) (c.requires.some c.loop-places.places-index [] at.0)

pub first_row-requires-clause-below : goal.first_row-requires-clause-below
first_row-requires-clause-below c =
    let at = list-at (λ v. v.items) c.in_ok-lists.lists.items c.deref-places-items.result.now (gathered c.args.order.now c.args.count) c.loop-places.places-index c.places-item.result c.as_slice.result.now
    c.deref-places-items.ensures.value c.in_ok-lists.ensures c.loop-places-test.true c.places-item.is c.as_slice.ensures.value in
    let place : ℕ = get_or (get_or (gathered c.args.order.now c.args.count) c.loop-places.places-index []) 0 0 in
    let some : 0 < length (get_or (gathered c.args.order.now c.args.count) c.loop-places.places-index []) = c.requires.some c.loop-places.places-index [] at.0 in
    let below : place < length c.args.order.now = gathered-below c.args.order.now c.args.count c.loop-places.places-index at.0 0 0 some in
    subst (λ (t : List ℕ). get_or t 0 0 < length c.args.rows.now) (sym at.1) (omega (arith, below, c.requires.as_many))
