use Rattle.std.proofs.Common.{true≢false, sym, ◌∙◌}
use Rattle.check_play.proofs.PlayedEntries.{untouched_other, read_rightly, read_wrongly}
use Rattle.check_play.proofs.untouched.play_untouched.Goals as goal

pub returns-in_default : goal.returns-in_default
returns-in_default g c j before after can board view =
    untouched_other c.entries_by_refusals.ensures c.merges_are_histories.ensures.states c.views_answer_at_places.ensures c.mapped_pages_move.ensures.touched c.entries_are_the_historys.ensures j before after
    c.args.board.now c.args.view.now c.args.entry.0.now c.args.entry.1.now c.requires.playable c.requires.untouched c.pid.ensures.process can board view (λ at is. c.in_default.not-Shared at is)

pub returns-then-branch : goal.returns-then-branch
returns-then-branch g c j before after can board view =
    let made = c.in_ok-makes_entry.ensures in
    read_rightly c.entries_by_refusals.ensures c.merges_are_histories.ensures.states c.views_answer_at_places.ensures c.mapped_pages_move.ensures.touched c.entries_are_the_historys.ensures j before after
    c.args.board.now c.args.view.now c.args.entry.0.now c.args.entry.1.now c.requires.playable c.requires.untouched c.pid.ensures.process can board view
    c.map_place.new.board c.makes_entry.new.board c.map_place.new.view c.makes_entry.new.view c.in_ok-map_place.ensures.same made.0 (made.1.0 c.if-branch.true)

pub returns-else-branch : goal.returns-else-branch
returns-else-branch g c j before after can board view =
    let made = c.in_ok-makes_entry.ensures in
    read_wrongly c.entries_by_refusals.ensures c.merges_are_histories.ensures.states c.views_answer_at_places.ensures c.mapped_pages_move.ensures.touched c.entries_are_the_historys.ensures j before after
    c.args.board.now c.args.view.now c.args.entry.0.now c.args.entry.1.now c.requires.playable c.requires.untouched c.pid.ensures.process can board view
    c.map_place.new.board c.makes_entry.new.board c.map_place.new.view c.makes_entry.new.view c.in_ok-map_place.ensures.same made.0 (λ is. true≢false (sym (made.1.1 is) ∙ c.if-branch.false))
