use Rattle.std.proofs.Common.{◌+◌, ◌∙◌, ℕ, [], map, take, drop, length, ap, sym, subst, Ok, Option}
use Rattle.check_model.specs.declared.kinds.CheckKind.{CheckKind}
use Rattle.check_model.specs.Places.{item_places}
use Rattle.check_model.specs.Checks.{FirstWrongIn, process_of}
use Rattle.check_core.specs.ToldItems.{item_of, item_shown}
use Rattle.check_core.specs.PlayedItems.{IsJudgedItem, IsOneOf}
use Rattle.check_core.proofs.ItemsInTurn.{stands_there, wrong_there, goes_further, of_script}
use Rattle.check_core.proofs.NextItems.{all_at}
use Rattle.check_core.proofs.judging.judge_items.Goals as goal

pub judge_item-requires : goal.judge_item-requires
judge_item-requires g c =
    let r = c.requires.stands in
    let xs = c.args.items.now in
    let place : ℕ = c.loop-place.place in
    let x = c.index-items-place.result in
    let below = c.loop-place-test.true in
    let at = c.index-items-place.is in
    let one = subst (λ y. IsOneOf (length c.args.by.scripts.now) (process_of (item_of y))) (sym at)
    (all_at (λ y. IsOneOf (length c.args.by.scripts.now) (process_of (item_of y))) xs place x c.requires.processes below) in (
      r.0,
      r.1,
      take place (map item_of xs),
      drop (place + 1) (map item_of xs),
      r.2,
      stands_there (g.P.Player.stands c.loop-place.player) r.0 r.1 xs place x c.loop-place.done below at (c.loop-place.invariant r.0 r.1 r.2 r.3),
      of_script r.0 xs c.args.next.now place x c.later-after.result (length c.args.by.scripts.now) below at one (ap length (sym r.2.scripts_are)) c.requires.next c.later-after.ensures,
    )

pub returns-in-Some-clause-judged : goal.returns-in-Some-clause-judged
returns-in-Some-clause-judged g c j t judge stands =
    let xs = c.args.items.now in
    let place : ℕ = c.loop-place.place in
    let x = c.index-items-place.result in
    let below = c.loop-place-test.true in
    let at = c.index-items-place.is in
    let one = subst (λ y. IsOneOf (length c.args.by.scripts.now) (process_of (item_of y))) (sym at)
    (all_at (λ y. IsOneOf (length c.args.by.scripts.now) (process_of (item_of y))) xs place x c.requires.processes below) in
    let goes = c.loop-place.invariant j t judge stands in
    let there = stands_there (g.P.Player.stands c.loop-place.player) j t xs place x c.loop-place.done below at goes in
    let script = of_script j xs c.args.next.now place x c.later-after.result (length c.args.by.scripts.now) below at one (ap length (sym judge.scripts_are)) c.requires.next c.later-after.ensures in
    let is = c.in_ok-kind.ensures.judged j t (take place (map item_of xs)) (drop (place + 1) (map item_of xs)) judge there script in
    subst (λ (n : ℕ). FirstWrongIn j t (item_places [] (map item_shown xs)) n c.in-Some.kind) (sym c.number-line.ensures)
    (wrong_there (g.P.Player.stands c.loop-place.player) j t xs place x c.loop-place.done c.in-Some.kind below at goes
    (subst (λ a. IsJudgedItem j t (item_shown x).low (take place (map item_of xs)) (item_of x) (drop (place + 1) (map item_of xs)) a) c.in-Some.is is))

pub loop-place-preserved : goal.loop-place-preserved
loop-place-preserved g c j t judge stands =
    let xs = c.args.items.now in
    let place : ℕ = c.loop-place.place in
    let x = c.index-items-place.result in
    let below = c.loop-place-test.true in
    let at = c.index-items-place.is in
    let one = subst (λ y. IsOneOf (length c.args.by.scripts.now) (process_of (item_of y))) (sym at)
    (all_at (λ y. IsOneOf (length c.args.by.scripts.now) (process_of (item_of y))) xs place x c.requires.processes below) in
    let goes = c.loop-place.invariant j t judge stands in
    let there = stands_there (g.P.Player.stands c.loop-place.player) j t xs place x c.loop-place.done below at goes in
    let script = of_script j xs c.args.next.now place x c.later-after.result (length c.args.by.scripts.now) below at one (ap length (sym judge.scripts_are)) c.requires.next c.later-after.ensures in
    let is = c.in_ok-kind.ensures.judged j t (take place (map item_of xs)) (drop (place + 1) (map item_of xs)) judge there script in
    let played = c.in_ok-kind.was ∙ ap (λ (o : Option CheckKind). Ok o) c.in_default.is in
    goes_further (g.P.Player.stands c.loop-place.player) (g.P.Player.stands c.judge_item.new.player) j t xs place x c.loop-place.done c.judge_item.new.done below at goes
    (subst (λ a. IsJudgedItem j t (item_shown x).low (take place (map item_of xs)) (item_of x) (drop (place + 1) (map item_of xs)) a) c.in_default.is is)
    (c.judge_item.ensures.more played j t (take place (map item_of xs)) (drop (place + 1) (map item_of xs)) judge there script)
