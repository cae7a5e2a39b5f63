use Rattle.load_model.specs.declared.commands.Command.TheVariants as commands
use Rattle.load_model.specs.declared.commands.Reply.TheVariants as replies
use Rattle.proc_core.proofs.Words.{proc_state}
use Rattle.proc_core.proofs.Fronts.{answered}
use Rattle.proc_core.proofs.proc.Proc.query.Goals as goal

pub returns : goal.returns
returns c =
    rw (← c.self.view_is)
    (answered (record { refusals = c.views_answer.ensures.refusals; replies = c.views_answer.ensures.replies; told = c.commands_are_told.ensures.refused }) (proc_state c.self.inside.pass c.self.inside.view)
    c.self.invariant.1 (commands.Query c.args.«module».now c.args.key.now) (λ address. replies.Address address) c.query.result c.query.ensures)
