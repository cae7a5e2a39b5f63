use Rattle.std.proofs.Common.{rules, ◌<◌, List, length}
use Rattle.process_view.specs.ProcessViews.{ProcessView}
use Rattle.proc_core.proofs.ShownOn.{Laws}
use Rattle.stepped_runs.proofs.ViewsStand.{views_on}
use Rattle.stepped_runs.proofs.alone.Alone.go_on.Goals as goal

pub invariant_of-self : goal.invariant_of-self
invariant_of-self g c =
    let laws : Laws = record {
      shrinks = c.histories_grow.ensures.shrinks;
      follows = c.histories_grow.ensures.follows;
      after = c.histories_grow.ensures.after;
      alike = c.others_leave_alike.ensures.alike;
      bases = c.others_leave_alike.ensures.bases;
    } in
    let vs : List ProcessView = c.self.inside.views.items in
    let within : c.args.k < length vs = search rules in
    views_on laws c.views_stand.ensures.on c.self.inside.board c.carry_out-reply.new.board vs c.args.k c.index_mut.result.now c.carry_out-reply.new.view c.self.invariant within c.index_mut.ensures.value c.carry_out-reply.ensures c.history.ensures.legal
