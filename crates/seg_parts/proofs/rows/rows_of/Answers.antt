use Rattle.std.proofs.Common.{◌≡◌, ◌∙◌, ◌<◌, ◌+◌, ◌∷◌, ◌++◌, [], ap, sym, subst, map, take, drop, arith, ℕ, List, Some}
use Rattle.std.proofs.Math.ListN.{get_or}
use Rattle.std.proofs.lemmas.List.{map-append}
use Rattle.link_model.specs.declared.refusals.LayRefusal.{LayRefusal}
use Rattle.link_types.proofs.Lists.{map-more}
use Rattle.seg_parts.specs.declared.rows.Placed.{Placed}
use Rattle.seg_parts.specs.declared.rows.Unplaced as lent
use Rattle.seg_parts.specs.Rows.{Unplaced, rows_later}
use Rattle.link_model.specs.LayoutRefusals.{too_large_in}
use Rattle.seg_parts.specs.Placing.{unplaced_shown}
use Rattle.seg_parts.proofs.EndSums.{end-within, ends-length}
use Rattle.seg_parts.proofs.Lists.{take_all, split-at}
use Rattle.seg_parts.proofs.Walk.{Walked, walked-more, walk-ends, stand-in}
use Rattle.seg_parts.proofs.rows.rows_of.Goals as goal

pub place-requires-clause-object : goal.place-requires-clause-object
place-requires-clause-object c =
    let u = c.unit-item.result in
    let below : (get_or c.args.units.now c.loop-unit.unit-index u).object < c.args.count = c.requires c.loop-unit.unit-index u c.loop-unit-test.true in
    let same : u.object ≡ (get_or c.args.units.now c.loop-unit.unit-index u).object = ap (λ (v : lent.Unplaced). v.object) c.unit-item.is in
    omega (arith, below, same, ends-length c.args.count (rows_later [] (map unplaced_shown (take c.loop-unit.unit-index c.args.units.now))) c.loop-unit.ends c.loop-unit.invariant.ends_are)

pub place-requires-clause-within : goal.place-requires-clause-within
place-requires-clause-within c =
    end-within c.args.count (rows_later [] (map unplaced_shown (take c.loop-unit.unit-index c.args.units.now))) c.unit-item.result c.loop-unit.ends
    c.loop-unit.invariant.ends_are (place-requires-clause-object c)

pub returns-in-None : goal.returns-in-None
returns-in-None c =
    let i : ℕ = c.loop-unit.unit-index in
    let u = c.unit-item.result in
    let us : List Unplaced = map unplaced_shown (take i c.args.units.now) in
    let vs : List Unplaced = map unplaced_shown (drop (i + 1) c.args.units.now) in
    let all : map unplaced_shown c.args.units.now ≡ us ++ unplaced_shown u ∷ vs =
    ap (map unplaced_shown) (split-at c.args.units.now i u c.loop-unit-test.true c.unit-item.is) ∙ map-append unplaced_shown (take i c.args.units.now) (u ∷ drop (i + 1) c.args.units.now) in
    ap (λ (t : List Unplaced). too_large_in (rows_later [] t)) all
    ∙ walk-ends us vs (unplaced_shown u) c.loop-unit.invariant.none_past (c.in-None.ensures c.args.count (rows_later [] us) c.loop-unit.invariant.ends_are)
    ∙ ap (λ (r : LayRefusal). Some r) (sym c.in_ok-too_large-in-None.ensures)

pub loop-unit-preserved : goal.loop-unit-preserved
loop-unit-preserved c =
    let i : ℕ = c.loop-unit.unit-index in
    let u = c.unit-item.result in
    let us : List Unplaced = map unplaced_shown (take i c.args.units.now) in
    let says = c.in-Some.ensures c.args.count (rows_later [] us) c.loop-unit.invariant.ends_are in
    let next = walked-more c.args.count us c.loop-unit.rows.items c.loop-unit.ends c.place.new.ends (unplaced_shown u) c.in-Some.row c.loop-unit.invariant says.0 says.1 says.2 says.3 in
    subst (λ (t : List Unplaced). Walked c.args.count t c.push.new.self.items c.place.new.ends) (sym (map-more unplaced_shown c.args.units.now i u c.loop-unit-test.true c.unit-item.is))
    (subst (λ (t : List Placed). Walked c.args.count (us ++ unplaced_shown u ∷ []) t c.place.new.ends) (sym c.in_ok-push-in-Some.ensures.items) next)

pub returns : goal.returns
returns c =
    let whole : take c.loop-unit.unit-index c.args.units.now ≡ c.args.units.now = take_all c.args.units.now c.loop-unit.unit-index (omega arith) in
    stand-in c.args.count (map unplaced_shown c.args.units.now) c.loop-unit.rows c.loop-unit.ends
    (subst (λ (t : List lent.Unplaced). Walked c.args.count (map unplaced_shown t) c.loop-unit.rows.items c.loop-unit.ends) whole c.loop-unit.invariant)
