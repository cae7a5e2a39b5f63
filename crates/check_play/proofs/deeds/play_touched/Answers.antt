use Rattle.std.proofs.Common.{◌≡◌, true, false, sym, ◌∙◌, ap, true≢false}
use Rattle.load_model.specs.declared.deeds.Entry.{Entry}
use Rattle.load_core.specs.BoardState.{BoardState, with_entry}
use Rattle.process_view.specs.ProcessViews.{ProcessView}
use Rattle.check_play.specs.Standing.{IsStanding, made_entry}
use Rattle.check_play.specs.declared.standing.Standing.{Standing}
use Rattle.check_play.proofs.PlayedEntries.{no_fault, played_wrongly, played_rightly, stood_before, next_stands}
use Rattle.check_play.proofs.deeds.play_touched.Goals as goal

pub returns-then-not-branch : goal.returns-then-not-branch
returns-then-not-branch c j before after can stands =
    let b : BoardState = c.args.standing.now.board in
    let v : ProcessView = c.args.view.now in
    let x : Entry = c.args.told.now in
    let made = c.in_ok-makes_entry.ensures in
    let no : c.in_ok-makes_entry.field-0 ≡ false = c.if-not-branch.true in
    let number = stands.view.number in
    record {
      judged =
          played_wrongly c.entries_by_refusals.ensures c.merges_are_histories.ensures.states c.views_answer_at_places.ensures c.mapped_pages_move.ensures.touched c.entries_are_the_historys.ensures j before after b
          c.makes_entry.new.board v c.makes_entry.new.view x c.args.command.now c.requires.playable c.requires.accepted c.pid.ensures.process can stands.board stands.view made.0
          (λ is. true≢false (sym (made.1.1 is) ∙ no));
      stands = λ none. cc;
    }

pub returns : goal.returns
returns c j before after can stands =
    let s : Standing = c.args.standing.now in
    let b : BoardState = s.board in
    let v : ProcessView = c.args.view.now in
    let w : ProcessView = c.makes_entry.new.view in
    let x : Entry = c.args.told.now in
    let made = c.in_ok-makes_entry.ensures in
    let is : c.in_ok-makes_entry.field-0 ≡ true = c.if-not-branch.false in
    let same : made_entry b v made.0 ≡ x = made.1.0 is in
    let adds : c.makes_entry.new.board ≡ with_entry b x = made.0.did.adds ∙ ap (with_entry b) same in
    let kept : IsStanding c.follow.new.self =
    c.in_ok-follow.ensures.standing b.history x (ap (λ (y : BoardState). y.history) adds) (stood_before s c.makes_entry.new.board x adds c.requires.kept) in
    record {
      judged =
          played_rightly c.entries_by_refusals.ensures c.merges_are_histories.ensures.states c.views_answer_at_places.ensures c.mapped_pages_move.ensures.touched c.entries_are_the_historys.ensures j before after b
          c.makes_entry.new.board v w x c.args.command.now c.requires.playable c.requires.accepted c.pid.ensures.process can stands.board stands.view made.0 same;
      stands = λ none.
          next_stands c.mapped_pages_move.ensures.touched c.mapped_pages_move.ensures.entry j before after x c.args.command.now s c.follow.new.self c.makes_entry.new.board v w stands
          (no_fault b.library c.args.command.now x.deed c.requires.playable.asks) made.0 same c.history.ensures.legal c.in_ok-follow.ensures.board kept;
    }
