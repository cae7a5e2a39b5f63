use Rattle.std.proofs.Common.{sym, subst, Option}
use Rattle.session_model.specs.Merging.{line}
use Rattle.check_model.specs.declared.kinds.CheckKind.{CheckKind}
use Rattle.check_core.specs.PlayedItems.{IsPlayed}
use Rattle.check_play.proofs.SteadyLines.{line_played, stands_after}
use Rattle.check_play.proofs.steady.play_reply.Goals as goal

pub returns-clause-judged : goal.returns-clause-judged
returns-clause-judged c j before after b pid none board view =
    subst (λ (a : Option CheckKind). IsPlayed j before (line pid c.args.told.now) after a) (sym c.fault_unless.ensures)
    (line_played c.views_reply_at_places.ensures c.mapped_pages_move.ensures.touched j before after b c.args.view.now pid c.args.told.now c.in_ok-is_right.is_right
    c.in_ok-is_right.ensures none board view)

pub returns-clause-stands : goal.returns-clause-stands
returns-clause-stands c j before after b pid none view =
    stands_after c.mapped_pages_move.ensures.touched c.mapped_pages_move.ensures.line j before after b c.args.view.now pid c.args.told.now none view

pub returns-in_err-is_right-clause-stands : goal.returns-in_err-is_right-clause-stands
returns-in_err-is_right-clause-stands c j before after b pid none view =
    stands_after c.mapped_pages_move.ensures.touched c.mapped_pages_move.ensures.line j before after b c.args.view.now pid c.args.told.now none view
