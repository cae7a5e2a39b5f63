use Rattle.std.proofs.Common.{◌≡◌, ℕ, true, sym, ap, ◌∙◌}
use Rattle.page_frames.specs.Residences.{ResidenceFor}
use Rattle.load_model.specs.declared.commands.Place.{Place}
use Rattle.load_model.specs.Refusals.{residence_named}
use Rattle.load_model.specs.ViewAnswers.{view_refusal}
use Rattle.load_core.specs.BoardState.{BoardState, state_of}
use Rattle.merge_laws.specs.OwnStates.{are_fixed}
use Rattle.process_view.specs.ProcessViews.{ProcessView}
use Rattle.process_view.proofs.Words.{nowhere}
use Rattle.check_model.specs.Checks.{state_at}
use Rattle.check_play.specs.Mapping.{residence_at}
use Rattle.check_play.proofs.MappedPlaces.{page_of_place}
use Rattle.check_play.proofs.AcceptedTouches.{follows_as, touch_refused, answered_fine, not_fine, wrong_touch, wrong_reply, nothing_wrong, named_there, fixed_there, stands_then}
use Rattle.check_play.proofs.touches.play_touch.Goals as goal

pub map_place-requires : goal.map_place-requires
unfolding view_refusal
map_place-requires g c =
    page_of_place c.residences_stand.ensures.fit c.args.standing.now.board c.args.view.now c.args.at.now c.in-Ok.residence c.history.ensures.legal c.requires.stands c.in-Ok.ensures.0 c.in-Ok.ensures.1

pub returns-then-not-follows : goal.returns-then-not-follows
returns-then-not-follows g c j before after l pid accepted alone = record {
  judged = wrong_touch j before after pid l c.args.at.now accepted
      (follows_as c.touched_pages_decide_places.ensures.decide j before c.args.standing.now.board c.pid.result pid c.args.at.now c.follows.result alone.board
      (c.pid.ensures.number ∙ alone.view.number) c.follows.ensures ∙ c.if-not-follows.true);
  stands = λ none. cc;
}

pub returns-in_default : goal.returns-in_default
returns-in_default g c j before after l pid accepted alone =
    let b : BoardState = c.args.standing.now.board in
    let v : ProcessView = c.args.view.now in
    let at : Place = c.args.at.now in
    record {
      judged = wrong_reply j before after pid l at accepted
          (follows_as c.touched_pages_decide_places.ensures.decide j before b c.pid.result pid at c.follows.result alone.board (c.pid.ensures.number ∙ alone.view.number) c.follows.ensures
          ∙ c.if-not-follows.false)
          (not_fine j.lib j.contents (state_at j before) pid at c.in_default.field-0
          (touch_refused c.views_answer.ensures.refusals j before b v pid at alone.board c.requires.stands alone.view.number ∙ c.in_default.ensures));
      stands = λ none. cc;
    }

pub returns : goal.returns
returns g c j before after l pid accepted alone =
    let b : BoardState = c.args.standing.now.board in
    let v : ProcessView = c.args.view.now in
    let at : Place = c.args.at.now in
    let r : ResidenceFor = residence_at v c.in-Ok.residence nowhere in
    let there = named_there b v at.«module» c.in-Ok.residence nowhere c.requires.stands c.in-Ok.ensures.1 in
    let all : are_fixed b.library b.history at (residence_named b.library (state_of b) v.holding.pid at.«module») ≡ true =
    sym (c.follows.ensures ∙ ap (λ (n : ℕ). are_fixed b.library b.history at (residence_named b.library (state_of b) n at.«module»)) c.pid.ensures.number) ∙ c.if-not-follows.false in
    record {
      judged = nothing_wrong j before after pid l at accepted
          (follows_as c.touched_pages_decide_places.ensures.decide j before b c.pid.result pid at c.follows.result alone.board (c.pid.ensures.number ∙ alone.view.number) c.follows.ensures
          ∙ c.if-not-follows.false)
          (answered_fine j.lib j.contents (state_at j before) pid at
          (touch_refused c.views_answer.ensures.refusals j before b v pid at alone.board c.requires.stands alone.view.number ∙ c.in-Ok.ensures.0));
      stands = λ none.
          stands_then c.mapped_pages_move.ensures.touch j before after c.args.standing.now v c.map_place.new.view pid l at accepted alone r there
          (fixed_there b v at r there all) (c.in_ok-map_place.ensures nowhere);
    }
