use Rattle.std.proofs.Common.{◌≡◌, ◌+◌, ◌-◌, ◌<◌, ◌≤◌, List, ℕ, length, map, get_or, set, replicate, subst, sym, ◌∙◌, ap, arith}
use Rattle.std.proofs.lemmas.List.{length-map, length-set, get_or-map, get_or_default}
use Rattle.lx_types.specs.declared.limits.TheConstants.{MAX_PROCESSES}
use Rattle.session_model.specs.Merging.{Item}
use Rattle.check_model.specs.Checks.{process_of}
use Rattle.check_core.specs.ToldItems.{item_of}
use Rattle.check_core.proofs.NextItems.{AreLatest, AreNextFrom, none_latest, none_next, next_step, latest_kept, latest_set, all_at}
use Rattle.check_core.proofs.ahead.next_items.Goals as goal

pub loop-place-init : goal.loop-place-init
loop-place-init c =
    let items : List Item = map item_of c.args.items.now in
    let n : length items ≡ length c.args.items.now = length-map c.args.items.now item_of in
    let latest : AreLatest items c.in_ok-latest.latest.items (length items) =
    none_latest items c.in_ok-latest.latest.items (c.in_ok-latest.ensures.items_if_clones_equal (λ y is. is) ∙ ap (λ (k : ℕ). replicate 17 k) (sym n)) in
    let long : length c.in_ok-next.next.items ≡ length c.args.items.now = omega (arith, c.in_ok-next.ensures.len) in
    let seventeen : length c.in_ok-latest.latest.items ≡ 17 = omega (arith, c.in_ok-latest.ensures.len) in
    (long, seventeen, subst (λ (k : ℕ). AreLatest items c.in_ok-latest.latest.items k) n latest, subst (λ (k : ℕ). AreNextFrom items c.in_ok-next.next.items k) n (none_next items c.in_ok-next.next.items))

pub loop-place-preserved-then-is_command : goal.loop-place-preserved-then-is_command
loop-place-preserved-then-is_command c =
    let items : List Item = map item_of c.args.items.now in
    let place : ℕ = c.loop-place.place - 1 in
    let x : Item = item_of c.index-items-place.result in
    let n : length items ≡ length c.args.items.now = length-map c.args.items.now item_of in
    let here : place < length c.args.items.now = omega arith in
    let below : place < length items = omega (arith, here, n) in
    let back : c.loop-place.place ≡ place + 1 = omega arith in
    let at : x ≡ get_or items place x = ap item_of c.index-items-place.is ∙ sym (get_or-map item_of c.args.items.now place c.index-items-place.result x here) in
    let few : process_of x ≤ MAX_PROCESSES = subst (λ y. process_of (item_of y) ≤ MAX_PROCESSES) (sym c.index-items-place.is) (all_at (λ y. process_of (item_of y) ≤ MAX_PROCESSES) c.args.items.now place c.index-items-place.result c.requires here) in
    let long : length c.loop-place.next.items ≡ length items = omega (arith, n, c.loop-place.invariant.0) in
    let pid : c.process-pid.result ≡ process_of x = c.process-pid.ensures in
    let inside : c.process-pid.result < length c.loop-place.latest.items = omega (arith, pid, few, c.loop-place.invariant.1) in
    let v : c.index.result.now ≡ get_or c.loop-place.latest.items (process_of x) 0 =
    c.index.ensures ∙ get_or_default c.loop-place.latest.items c.process-pid.result c.index.result.now 0 inside ∙ ap (λ (k : ℕ). get_or c.loop-place.latest.items k 0) pid in
    let latest : AreLatest items c.loop-place.latest.items (place + 1) = subst (λ (k : ℕ). AreLatest items c.loop-place.latest.items k) back c.loop-place.invariant.2 in
    let next : AreNextFrom items c.loop-place.next.items (place + 1) = subst (λ (k : ℕ). AreNextFrom items c.loop-place.next.items k) back c.loop-place.invariant.3 in (
      length-set c.loop-place.next.items place c.index.result.now ∙ c.loop-place.invariant.0,
      length-set c.loop-place.latest.items c.process-pid.result place ∙ c.loop-place.invariant.1,
      subst (λ (k : ℕ). AreLatest items (set c.loop-place.latest.items k place) place) (sym pid)
          (latest_set items c.loop-place.latest.items place x below c.loop-place.invariant.1 at (sym c.is_command.ensures ∙ c.if-is_command.true) latest),
      next_step items c.loop-place.next.items c.loop-place.latest.items place c.index.result.now x below long at few v latest next,
    )

pub loop-place-preserved : goal.loop-place-preserved
loop-place-preserved c =
    let items : List Item = map item_of c.args.items.now in
    let place : ℕ = c.loop-place.place - 1 in
    let x : Item = item_of c.index-items-place.result in
    let n : length items ≡ length c.args.items.now = length-map c.args.items.now item_of in
    let here : place < length c.args.items.now = omega arith in
    let below : place < length items = omega (arith, here, n) in
    let back : c.loop-place.place ≡ place + 1 = omega arith in
    let at : x ≡ get_or items place x = ap item_of c.index-items-place.is ∙ sym (get_or-map item_of c.args.items.now place c.index-items-place.result x here) in
    let few : process_of x ≤ MAX_PROCESSES = subst (λ y. process_of (item_of y) ≤ MAX_PROCESSES) (sym c.index-items-place.is) (all_at (λ y. process_of (item_of y) ≤ MAX_PROCESSES) c.args.items.now place c.index-items-place.result c.requires here) in
    let long : length c.loop-place.next.items ≡ length items = omega (arith, n, c.loop-place.invariant.0) in
    let pid : c.process-pid.result ≡ process_of x = c.process-pid.ensures in
    let inside : c.process-pid.result < length c.loop-place.latest.items = omega (arith, pid, few, c.loop-place.invariant.1) in
    let v : c.index.result.now ≡ get_or c.loop-place.latest.items (process_of x) 0 =
    c.index.ensures ∙ get_or_default c.loop-place.latest.items c.process-pid.result c.index.result.now 0 inside ∙ ap (λ (k : ℕ). get_or c.loop-place.latest.items k 0) pid in
    let latest : AreLatest items c.loop-place.latest.items (place + 1) = subst (λ (k : ℕ). AreLatest items c.loop-place.latest.items k) back c.loop-place.invariant.2 in
    let next : AreNextFrom items c.loop-place.next.items (place + 1) = subst (λ (k : ℕ). AreNextFrom items c.loop-place.next.items k) back c.loop-place.invariant.3 in (
      length-set c.loop-place.next.items place c.index.result.now ∙ c.loop-place.invariant.0,
      c.loop-place.invariant.1,
      latest_kept items c.loop-place.latest.items place x below at (sym c.is_command.ensures ∙ c.if-is_command.false) latest,
      next_step items c.loop-place.next.items c.loop-place.latest.items place c.index.result.now x below long at few v latest next,
    )

pub returns : goal.returns
returns c =
    let items : List Item = map item_of c.args.items.now in
    let n : length items ≡ length c.args.items.now = length-map c.args.items.now item_of in
    let none : c.loop-place.place ≡ 0 = omega arith in
    record {
      each = c.loop-place.invariant.0 ∙ sym n;
      next_is = λ place d below. c.loop-place.invariant.3 place d (omega (arith, none)) below;
    }
