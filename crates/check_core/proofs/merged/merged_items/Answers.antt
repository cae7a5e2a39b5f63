use Rattle.std.proofs.Common.{◌≡◌, ℕ, ◌+◌, ◌<◌, List, ◌++◌, length, map, ◌∙◌, ap, refl, arith}
use Rattle.std.proofs.lemmas.List.{map-append}
use Rattle.check_core.specs.declared.items.ToldItem.{ToldItem}
use Rattle.check_model.specs.Places.{Numbered, NumberedLine, numbered_scripts, numbered_from, all_numbered_at, after_entries}
use Rattle.check_core.specs.ToldItems.{line_shown, item_shown}
use Rattle.check_core.proofs.Judged.{entry_fits}
use Rattle.check_core.proofs.MergedItems.{merge_step, entries_step, lines_found}
use Rattle.check_core.proofs.merged.merged_items.Goals as goal

pub loop-place-init : goal.loop-place-init
loop-place-init c =
    let s : List (ℕ × List NumberedLine) = numbered_scripts 1 c.args.first c.args.told.steady.now in
    let some : 0 < length c.args.told.history.now + 1 = omega arith in
    let here : map line_shown c.as_slice-2.result.now ≡ all_numbered_at s 0 =
    lines_found (λ v. map line_shown v.items) c.in_ok-fronts.fronts.items (length c.args.told.history.now + 1) 0 (map line_shown c.as_slice.result.now) (map line_shown c.as_slice-2.result.now) s c.index.result.now
    c.in_ok-fronts.ensures.long some c.index.ensures (ap (map line_shown) c.as_slice-2.ensures.value) (ap (map line_shown) c.as_slice.ensures.value ∙ c.in_ok-lines.ensures) c.in_ok-fronts.ensures.each in (
      ap (λ (t : List Numbered). t ++ numbered_from s 1 2 c.args.told.history.now)
          (c.in_ok-push_lines.ensures ∙ ap (λ (t : List ToldItem). map item_shown t ++ map line_shown c.as_slice-2.result.now) c.new-items.ensures.items ∙ here),
      refl,
    )

pub height-number-requires : goal.height-number-requires
height-number-requires c =
    let r = entry_fits c.loop-place.number c.loop-place.place (after_entries 2 c.args.told.history.now) c.entry-item.result c.args.told.history.now c.loop-place-test.true c.entry-item.is c.loop-place.invariant.1 in
    omega (arith, r, c.requires.entries)

pub overflow_add-number : goal.overflow_add-number
overflow_add-number c =
    let r = entry_fits c.loop-place.number c.loop-place.place (after_entries 2 c.args.told.history.now) c.entry-item.result c.args.told.history.now c.loop-place-test.true c.entry-item.is c.loop-place.invariant.1 in
    omega (arith, r, c.requires.entries, c.height-number.ensures)

pub loop-place-preserved : goal.loop-place-preserved
loop-place-preserved c =
    let s : List (ℕ × List NumberedLine) = numbered_scripts 1 c.args.first c.args.told.steady.now in
    let inside : c.loop-place.place + 1 < length c.args.told.history.now + 1 = omega (arith, c.loop-place-test.true) in
    let here : map line_shown c.as_slice-in-loop-place.result.now ≡ all_numbered_at s (c.loop-place.place + 1) =
    lines_found (λ v. map line_shown v.items) c.in_ok-fronts.fronts.items (length c.args.told.history.now + 1) (c.loop-place.place + 1) (map line_shown c.as_slice.result.now)
    (map line_shown c.as_slice-in-loop-place.result.now) s c.index-in-loop-place.result.now
    c.in_ok-fronts.ensures.long inside c.index-in-loop-place.ensures (ap (map line_shown) c.as_slice-in-loop-place.ensures.value) (ap (map line_shown) c.as_slice.ensures.value ∙ c.in_ok-lines.ensures)
    c.in_ok-fronts.ensures.each in
    let pushed = c.in_ok-push_lines-2.ensures
    ∙ ap (λ (t : List ToldItem). map item_shown t ++ map line_shown c.as_slice-in-loop-place.result.now) c.in_ok-push.ensures.items
    ∙ ap (λ (t : List Numbered). t ++ map line_shown c.as_slice-in-loop-place.result.now) (map-append item_shown c.loop-place.items.items _) in (
      merge_step s c.loop-place.place c.loop-place.number c.height-number.result (map item_shown c.loop-place.items.items) _ _ _ c.entry-item.result c.args.told.history.now c.loop-place-test.true c.entry-item.is here
          pushed c.height-number.ensures c.loop-place.invariant.0,
      entries_step c.loop-place.number c.loop-place.place c.height-number.result (after_entries 2 c.args.told.history.now) c.entry-item.result c.args.told.history.now c.loop-place-test.true c.entry-item.is
          c.height-number.ensures c.loop-place.invariant.1,
    )
