use Rattle.std.proofs.Common.{◌≡◌, ◌∙◌, ◌++◌, ◌∷◌, [], List, length, take, drop, sym, subst}
use Rattle.std.specs.Prelude.{option_copied, option_map}
use Rattle.process_view.specs.ProcessViews.{ProcessView}
use Rattle.check_core.specs.ToldItems.{item_of}
use Rattle.check_play.specs.Playing.{StandsTogether}
use Rattle.check_play.proofs.OtherViews.{done_together, refilled}
use Rattle.check_play.proofs.player.SessionPlayerPlayer.play.Goals as goal

pub returns-clause-done : goal.returns-clause-done
returns-clause-done g c done j before after stands can follows =
    let views = c.args.self.now.views in
    let ws : List ProcessView = c.play_among.new.views in
    let long : length ws ≡ views.len = c.play_among.auto.views ∙ c.as_mut_slice-views.ensures.len in
    let all : take views.len (ws ++ drop (length ws) views.items) ≡ ws = refilled views.len ws (drop (length ws) views.items) long in
    let here : StandsTogether j before (item_of c.args.item ∷ after) c.args.self.now.standing c.as_mut_slice-views.result.now =
    subst (λ (vs : List ProcessView). StandsTogether j before (item_of c.args.item ∷ after) c.args.self.now.standing vs) (sym c.as_mut_slice-views.ensures.value) stands in
    subst (λ (vs : List ProcessView). StandsTogether j (before ++ item_of c.args.item ∷ []) after c.play_among.new.standing vs) (sym all)
    (done_together c.play_among.result (item_of c.args.item) (option_copied c.args.command) (option_map item_of c.args.next) c.args.self.now.standing c.play_among.new.standing c.as_mut_slice-views.result.now ws
    c.play_among.ensures done j before after here can follows)
