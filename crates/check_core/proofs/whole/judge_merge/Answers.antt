use Rattle.std.proofs.Common.{◌≡◌, ◌≤◌, ◌∙◌, ℕ, List, [], length, map, drop, arith, Ok, Option, refl, ap, sym, subst}
use Rattle.std.specs.List.{AllByRecursion}
use Rattle.lx_types.specs.declared.limits.TheConstants.{MAX_PROCESSES}
use Rattle.session_model.specs.Merging.{Item, merge_of}
use Rattle.check_model.specs.declared.kinds.CheckFault.{CheckFault}
use Rattle.check_model.specs.Places.{Numbered, item_places}
use Rattle.check_model.specs.Checks.{process_of}
use Rattle.check_core.specs.declared.items.ToldItem.{ToldItem}
use Rattle.check_core.specs.Judged.{IsJudged}
use Rattle.check_core.specs.NextCommands.{AreDone}
use Rattle.check_core.specs.PlayedItems.{IsOneOf}
use Rattle.check_core.specs.ToldItems.{item_of, item_shown}
use Rattle.check_core.specs.ToldRun.{told_of}
use Rattle.check_core.proofs.AllPlaces.{items_are, items_of_scripts, few_processes, stands_first, refilled}
use Rattle.check_core.proofs.whole.judge_merge.Goals as goal

pub next_items-requires : goal.next_items-requires
next_items-requires g c =
    subst (λ (xs : List ToldItem). AllByRecursion (λ (x : ToldItem). process_of (item_of x) ≤ MAX_PROCESSES) xs) (sym c.as_slice.ensures.value)
    (few_processes c.in_ok-items.items.items (length c.args.told.steady.now) c.requires.few
    (items_of_scripts c.in_ok-items.items.items c.args.first (length c.args.told.steady.now) c.args.told.steady.now c.args.told.history.now c.in_ok-items.ensures refl c.requires.processes))

pub judge_items-requires-clause-processes : goal.judge_items-requires-clause-processes
judge_items-requires-clause-processes g c =
    subst (λ (xs : List ToldItem). AllByRecursion (λ (x : ToldItem). IsOneOf (length c.args.by.scripts.now) (process_of (item_of x))) xs) (sym c.as_slice-2.ensures.value)
    (items_of_scripts c.in_ok-items.items.items c.args.first (length c.args.by.scripts.now) c.args.told.steady.now c.args.told.history.now c.in_ok-items.ensures c.requires.scripts c.requires.processes)

pub judge_items-requires-clause-stands : goal.judge_items-requires-clause-stands
judge_items-requires-clause-stands g c =
    let r = c.requires.stands in
    let items = ap (map item_of) c.as_slice-2.ensures.value ∙ items_are c.in_ok-items.items.items c.args.first c.args.told.steady.now c.args.told.history.now c.in_ok-items.ensures in
    let zero = c.as_mut_slice.ensures.value ∙ c.in_ok-done.ensures.items_if_clones_equal (λ y is. is) in (
      r.0,
      told_of c.args.told,
      r.1,
      stands_first (g.P.Player.stands c.args.player.now) r.0 c.args.by.scripts.now c.as_mut_slice.result.now (map item_of c.as_slice-2.result.now) (merge_of c.args.told.history.now c.args.told.steady.now)
          r.1.scripts_are zero items r.2,
    )

pub returns : goal.returns
returns g c j judge stands =
    let items = ap (map item_of) c.as_slice-2.ensures.value ∙ items_are c.in_ok-items.items.items c.args.first c.args.told.steady.now c.args.told.history.now c.in_ok-items.ensures in
    let zero = c.as_mut_slice.ensures.value ∙ c.in_ok-done.ensures.items_if_clones_equal (λ y is. is) in
    let first = stands_first (g.P.Player.stands c.args.player.now) j c.args.by.scripts.now c.as_mut_slice.result.now (map item_of c.as_slice-2.result.now) (merge_of c.args.told.history.now c.args.told.steady.now)
    judge.scripts_are zero items stands in
    let long : length c.judge_items.new.done ≡ c.in_ok-done.done.len = omega (arith, c.judge_items.auto.done, c.as_mut_slice.ensures.len) in
    let written = refilled c.in_ok-done.done.len c.judge_items.new.done (drop (length c.judge_items.new.done) c.in_ok-done.done.items) long in
    record {
      items =
          subst (λ (xs : List Numbered). IsJudged j (told_of c.args.told) (item_places [] xs) c.in_ok-fault.fault) (ap (map item_shown) c.as_slice-2.ensures.value ∙ c.in_ok-items.ensures)
          (c.in_ok-fault.ensures.judged j (told_of c.args.told) judge first);
      counted = λ none.
          subst (λ (d : List ℕ). AreDone j (merge_of c.args.told.history.now c.args.told.steady.now) d) (sym written)
          (subst (λ (xs : List Item). AreDone j xs c.judge_items.new.done) items
          (c.judge_items.ensures.more (c.in_ok-fault.was ∙ ap (λ (o : Option CheckFault). Ok o) none) j (told_of c.args.told) judge first));
    }
