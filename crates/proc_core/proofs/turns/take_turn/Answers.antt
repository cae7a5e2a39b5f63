use Rattle.proc_core.proofs.Words.{proc_state}
use Rattle.proc_core.proofs.Coming.{has_come}
use Rattle.proc_core.proofs.ShownOn.{Laws}
use Rattle.proc_core.proofs.turns.take_turn.Goals as goal

pub returns-clause-come : goal.returns-clause-come
returns-clause-come g c =
    let laws : Laws = record {
      shrinks = c.histories_grow.ensures.shrinks;
      follows = c.histories_grow.ensures.follows;
      after = c.histories_grow.ensures.after;
      alike = c.others_leave_alike.ensures.alike;
      bases = c.others_leave_alike.ensures.bases;
    } in
    has_come laws c.views_stand.ensures.on (proc_state c.args.pass.now c.args.view.now) c.requires.holds c.turn-board.result.board c.history.ensures.legal c.turn-board.ensures.took.2.seen c.turn-board.ensures.took.2.mine
    c.turn-board.ensures.took.2.about c.follow.new.self c.follow.ensures
