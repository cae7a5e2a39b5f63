use Rattle.std.proofs.Common.{◌<◌, ◌∙◌, ℕ, ap, sym, subst, Ok, Option}
use Rattle.std.specs.Prelude.{option_copied, option_map}
use Rattle.std.proofs.lemmas.Bool.{false≢true}
use Rattle.check_model.specs.declared.kinds.CheckKind.{CheckKind}
use Rattle.check_model.specs.Checks.{FrontFits}
use Rattle.check_core.specs.NextCommands.{done_of, next_command}
use Rattle.check_core.specs.ToldItems.{item_of, item_shown}
use Rattle.check_core.specs.PlayedItems.{IsPlayed}
use Rattle.check_core.proofs.OneItem.{command_wrong, played_wrong, played_right, can_play, has_command, counted_more, some_few}
use Rattle.check_core.proofs.playing.judge_item.Goals as goal

pub returns-then-not-is_next-clause-judged : goal.returns-then-not-is_next-clause-judged
returns-then-not-is_next-clause-judged g c j t before after judge stands script =
    let fits = subst (λ n. FrontFits (item_shown c.args.item).low n (item_of c.args.item)) (sym judge.most_is) (c.front_fits.ensures.0 c.if-not-front_fits.false) in
    command_wrong j t (item_shown c.args.item).low before (item_of c.args.item) after fits
    (λ next. false≢true (sym c.if-not-is_next.true ∙ (c.is_next.ensures j before judge.lib_is judge.scripts_are stands.counted).1 next))

pub play-requires : goal.play-requires
play-requires g c =
    let r = c.requires in
    let next = (c.is_next.ensures r.0 r.2 r.4.lib_is r.4.scripts_are r.5.counted).0 c.if-not-is_next.false in
    let found = c.next_command-command.ensures.command ∙ ap (next_command c.args.by.scripts.now c.args.done.now) c.process.ensures in (
      r.0,
      r.2,
      r.3,
      r.5.stands,
      can_play r.0 r.2 (item_of c.args.item) r.3 c.args.by.scripts.now c.args.done.now (option_copied c.next_command-command.result) (option_map item_of c.args.next) r.4.scripts_are r.5.counted r.6 next found,
    )

pub returns-in-Some-clause-judged : goal.returns-in-Some-clause-judged
returns-in-Some-clause-judged g c j t before after judge stands script =
    let fits = subst (λ n. FrontFits (item_shown c.args.item).low n (item_of c.args.item)) (sym judge.most_is) (c.front_fits.ensures.0 c.if-not-front_fits.false) in
    let next = (c.is_next.ensures j before judge.lib_is judge.scripts_are stands.counted).0 c.if-not-is_next.false in
    let found = c.next_command-command.ensures.command ∙ ap (next_command c.args.by.scripts.now c.args.done.now) c.process.ensures in
    let can = can_play j before (item_of c.args.item) after c.args.by.scripts.now c.args.done.now (option_copied c.next_command-command.result) (option_map item_of c.args.next) judge.scripts_are stands.counted script next found in
    played_wrong j t (item_shown c.args.item).low before (item_of c.args.item) after c.in-Some.kind fits next
    (subst (λ a. IsPlayed j before (item_of c.args.item) after a) c.in-Some.is (c.in_ok-kind.ensures.judged j before after stands.stands can script.next_is))

pub count_item-requires-clause-few : goal.count_item-requires-clause-few
count_item-requires-clause-few g c own =
    let r = c.requires in
    let next = (c.is_next.ensures r.0 r.2 r.4.lib_is r.4.scripts_are r.5.counted).0 c.if-not-is_next.false in
    let found = c.next_command-command.ensures.command ∙ ap (next_command c.args.by.scripts.now c.args.done.now) c.process.ensures in
    let can = can_play r.0 r.2 (item_of c.args.item) r.3 c.args.by.scripts.now c.args.done.now (option_copied c.next_command-command.result) (option_map item_of c.args.next) r.4.scripts_are r.5.counted r.6 next found in
    let some = has_command r.0.lib (item_of c.args.item) (option_copied c.next_command-command.result) (can.command_is own) in
    let few = some_few c.next_command-command.result (done_of c.args.done.now c.process.result < 18446744073709551615) (λ e. let bad = sym some.1 ∙ ap option_copied e in cc (bad)) c.next_command-command.ensures.few in
    subst (λ (n : ℕ). done_of c.args.done.now n < 18446744073709551615) c.process.ensures few

pub returns-clause-judged : goal.returns-clause-judged
returns-clause-judged g c j t before after judge stands script =
    let fits = subst (λ n. FrontFits (item_shown c.args.item).low n (item_of c.args.item)) (sym judge.most_is) (c.front_fits.ensures.0 c.if-not-front_fits.false) in
    let next = (c.is_next.ensures j before judge.lib_is judge.scripts_are stands.counted).0 c.if-not-is_next.false in
    let found = c.next_command-command.ensures.command ∙ ap (next_command c.args.by.scripts.now c.args.done.now) c.process.ensures in
    let can = can_play j before (item_of c.args.item) after c.args.by.scripts.now c.args.done.now (option_copied c.next_command-command.result) (option_map item_of c.args.next) judge.scripts_are stands.counted script next found in
    played_right j t (item_shown c.args.item).low before (item_of c.args.item) after fits next
    (subst (λ a. IsPlayed j before (item_of c.args.item) after a) c.in_default.is (c.in_ok-kind.ensures.judged j before after stands.stands can script.next_is))

pub returns-clause-more : goal.returns-clause-more
returns-clause-more g c ok j t before after judge stands script =
    let next = (c.is_next.ensures j before judge.lib_is judge.scripts_are stands.counted).0 c.if-not-is_next.false in
    let found = c.next_command-command.ensures.command ∙ ap (next_command c.args.by.scripts.now c.args.done.now) c.process.ensures in
    let can = can_play j before (item_of c.args.item) after c.args.by.scripts.now c.args.done.now (option_copied c.next_command-command.result) (option_map item_of c.args.next) judge.scripts_are stands.counted script next found in
    let played = c.in_ok-kind.was ∙ ap (λ (o : Option CheckKind). Ok o) c.in_default.is in
    counted_more (g.P.Player.stands c.play.new.self) j before after (item_of c.args.item) c.args.done.now c.count_item.new.done stands.counted next c.count_item.ensures
    (c.play.ensures.done played j before after stands.stands can script.next_is)
