use Rattle.std.proofs.Common.{◌∙◌, ◌++◌, ◌∷◌, [], ap, get_or, arith, ℕ}
use Rattle.seg_parts.specs.Parts.{shown}
use Rattle.seg_merge.proofs.PartRows.{own-within, rows-long}
use Rattle.seg_merge.proofs.PartWalk.{here-at, got, end-under, offset-fits, next-fits, walk-goes-on}
use Rattle.seg_merge.proofs.UseWalk.{number-at}
use Rattle.seg_merge.proofs.placing_parts.part_places.Goals as goal

pub row_at-row-requires : goal.row_at-row-requires
row_at-row-requires c =
    let below = number-at c.parts-part-items.result.now c.args.segments.now c.numbers.result.now c.loop-place.place c.parts-part-items.ensures c.numbers.ensures c.loop-place-test.true in
    let long = rows-long c.requires.0 c.args.segments.now c.args.rows.now c.requires.1 in
    omega (arith, below, long)

pub index-requires : goal.index-requires
index-requires c =
    let h = here-at c.parts-part-items.result.now c.args.segments.now c.numbers.result.now c.loop-place.place c.part-item.result c.parts-part-items.ensures c.numbers.ensures c.loop-place-test.true c.part-item.is in
    let row = got c.args.rows.now (get_or c.numbers.result.now c.loop-place.place 0) c.row_at-row.result.now c.row_at-row.ensures in
    let under = end-under c.requires.0 c.args.segments.now c.args.rows.now c.requires.1 c.loop-place.place (shown c.part-item.result) (get_or c.numbers.result.now c.loop-place.place 0) c.row_at-row.result.now h.below h.is h.at row c.loop-place.ends.items c.loop-place.places.items c.loop-place.invariant in
    omega (arith, under, c.loop-place.ends.ok)

pub next_offset-offset-requires : goal.next_offset-offset-requires
next_offset-offset-requires c =
    let h = here-at c.parts-part-items.result.now c.args.segments.now c.numbers.result.now c.loop-place.place c.part-item.result c.parts-part-items.ensures c.numbers.ensures c.loop-place-test.true c.part-item.is in
    let row = got c.args.rows.now (get_or c.numbers.result.now c.loop-place.place 0) c.row_at-row.result.now c.row_at-row.ensures in
    offset-fits c.requires.0 c.args.segments.now c.args.rows.now c.requires.1 c.loop-place.place (shown c.part-item.result) (get_or c.numbers.result.now c.loop-place.place 0) c.row_at-row.result.now h.below h.is h.at row c.loop-place.ends.items c.loop-place.places.items c.loop-place.invariant c.index.result.now c.index.ensures

pub object_of-requires : goal.object_of-requires
object_of-requires c =
    let h = here-at c.parts-part-items.result.now c.args.segments.now c.numbers.result.now c.loop-place.place c.part-item.result c.parts-part-items.ensures c.numbers.ensures c.loop-place-test.true c.part-item.is in
    let row = got c.args.rows.now (get_or c.numbers.result.now c.loop-place.place 0) c.row_at-row.result.now c.row_at-row.ensures in
    let few = own-within c.requires.0 c.args.segments.now c.args.rows.now c.requires.1 c.loop-place.place (shown c.part-item.result) (get_or c.numbers.result.now c.loop-place.place 0) c.row_at-row.result.now h.below h.is h.at row in
    let most = few.1 in omega (arith, most)

pub end_after-requires : goal.end_after-requires
end_after-requires c =
    let h = here-at c.parts-part-items.result.now c.args.segments.now c.numbers.result.now c.loop-place.place c.part-item.result c.parts-part-items.ensures c.numbers.ensures c.loop-place-test.true c.part-item.is in
    let row = got c.args.rows.now (get_or c.numbers.result.now c.loop-place.place 0) c.row_at-row.result.now c.row_at-row.ensures in
    next-fits c.requires.0 c.args.segments.now c.args.rows.now c.requires.1 c.loop-place.place (shown c.part-item.result) (get_or c.numbers.result.now c.loop-place.place 0) c.row_at-row.result.now h.below h.is h.at row c.loop-place.ends.items c.loop-place.places.items c.loop-place.invariant c.index.result.now c.index.ensures c.next_offset-offset.result c.next_offset-offset.ensures

pub index_mut-requires : goal.index_mut-requires
index_mut-requires c =
    let h = here-at c.parts-part-items.result.now c.args.segments.now c.numbers.result.now c.loop-place.place c.part-item.result c.parts-part-items.ensures c.numbers.ensures c.loop-place-test.true c.part-item.is in
    let row = got c.args.rows.now (get_or c.numbers.result.now c.loop-place.place 0) c.row_at-row.result.now c.row_at-row.ensures in
    let under = end-under c.requires.0 c.args.segments.now c.args.rows.now c.requires.1 c.loop-place.place (shown c.part-item.result) (get_or c.numbers.result.now c.loop-place.place 0) c.row_at-row.result.now h.below h.is h.at row c.loop-place.ends.items c.loop-place.places.items c.loop-place.invariant in
    omega (arith, under, c.loop-place.ends.ok)

pub loop-place-preserved : goal.loop-place-preserved
loop-place-preserved c =
    let h = here-at c.parts-part-items.result.now c.args.segments.now c.numbers.result.now c.loop-place.place c.part-item.result c.parts-part-items.ensures c.numbers.ensures c.loop-place-test.true c.part-item.is in
    let row = got c.args.rows.now (get_or c.numbers.result.now c.loop-place.place 0) c.row_at-row.result.now c.row_at-row.ensures in
    walk-goes-on c.requires.0 c.args.segments.now c.args.rows.now c.requires.1 c.loop-place.place (shown c.part-item.result) (get_or c.numbers.result.now c.loop-place.place 0) c.row_at-row.result.now h.below h.is h.at row c.loop-place.ends.items c.loop-place.places.items c.loop-place.invariant c.index.result.now c.index.ensures c.next_offset-offset.result c.next_offset-offset.ensures c.end_after.result c.push.new.self.items c.end_after.ensures
    (c.in_ok-push.ensures.items ∙ ap (λ (n : ℕ). c.loop-place.places.items ++ (n, c.next_offset-offset.result) ∷ []) c.object_of.ensures)
