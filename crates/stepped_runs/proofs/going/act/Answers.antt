use Rattle.std.proofs.Common.{length, sym, ◌∙◌}
use Rattle.proc_core.proofs.Turning.{none_at}
use Rattle.stepped_runs.proofs.Onward.{accepted_now, went}
use Rattle.stepped_runs.proofs.going.act.Goals as goal

pub act-requires-clause-accepted : goal.act-requires-clause-accepted
act-requires-clause-accepted c =
    accepted_now c.args.view.now c.follow.new.self (length c.args.board.now.history) c.args.command.now c.follow.ensures
    (sym c.refusal.ensures ∙ none_at c.refusal.result (λ r is. c.in_default.not-Some r is))

pub returns : goal.returns
returns c = went c.args.board.now c.act.new.board c.args.view.now c.follow.new.self c.act.new.self c.args.command.now c.act.result c.requires.stands c.follow.ensures c.act.ensures
