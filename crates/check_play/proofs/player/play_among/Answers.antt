use Rattle.std.proofs.Common.{◌-◌, get_or, ap}
use Rattle.std.specs.Prelude.{option_copied, option_map}
use Rattle.process_view.specs.ProcessViews.{ProcessView}
use Rattle.check_core.specs.ToldItems.{item_of}
use Rattle.check_play.proofs.OtherViews.{OtherLaws, all_together}
use Rattle.check_play.proofs.player.play_among.Goals as goal

pub returns : goal.returns
returns g c =
    let laws : OtherLaws = record {
      shrinks = c.histories_grow.ensures.shrinks;
      follows = c.histories_grow.ensures.follows;
      after = c.histories_grow.ensures.after;
      alike = c.others_leave_alike.ensures.alike;
      bases = c.others_leave_alike.ensures.bases;
      on = c.views_stand.ensures.on;
      others = c.mapped_pages_move.ensures.others;
    } in
    let v : ProcessView = get_or c.args.views.now (c.process.result - 1) c.index-views-place.result in
    all_together c.play_own.result laws (item_of c.args.played.item) (option_copied c.args.played.command) (option_map item_of c.args.played.next) c.args.standing.now c.play_own.new.standing c.args.views.now c.process.result
    v c.play_own.new.view c.process.ensures (ap (get_or c.args.views.now (c.process.result - 1)) c.index-views-place.is) c.play_own.ensures
