use Rattle.proc_core.proofs.Words.{call_refusal, Command, proc_state, ProcState, sym, ◌∙◌, ◌≡◌}
use Rattle.load_model.specs.declared.commands.Command.TheVariants as commands
use Rattle.load_model.specs.ViewAnswers.{view_refusal}
use Rattle.proc_core.proofs.Fronts.{refused_call}
use Rattle.proc_core.proofs.Turning.{seen_refusal, told_here}
use Rattle.proc_core.proofs.Places.{used_in}
use Rattle.proc_core.proofs.proc.Proc.touched_in.Goals as goal

pub returns-in-Some-clause-residence : goal.returns-in-Some-clause-residence
returns-in-Some-clause-residence c =
    let p : ProcState = proc_state c.self.inside.pass c.self.inside.view in
    let command : Command = commands.Touch c.args.place.now in
    let told : c.first_refusal.result ≡ call_refusal p command =
    told_here p _ command _ _ c.self.view_is c.first_refusal.ensures
    (seen_refusal (view_refusal p.view.library p.view.holding command) c.err.result c.check_touch-used.result (λ a h. h.0) c.check_touch-used.ensures c.err.ensures.value) in
    rw (← c.self.view_is) (refused_call c.views_answer.ensures.refusals c.commands_are_told.ensures.refused p c.self.invariant.1 command c.in-Some.refusal (sym told ∙ c.in-Some.is))

pub returns-in-None-clause-residence : goal.returns-in-None-clause-residence
returns-in-None-clause-residence c =
    let p : ProcState = proc_state c.self.inside.pass c.self.inside.view in
    let command : Command = commands.Touch c.args.place.now in
    let told : c.first_refusal.result ≡ call_refusal p command =
    told_here p _ command _ _ c.self.view_is c.first_refusal.ensures
    (seen_refusal (view_refusal p.view.library p.view.holding command) c.err.result c.check_touch-used.result (λ a h. h.0) c.check_touch-used.ensures c.err.ensures.value) in
    rw (← c.self.view_is) (used_in p c.args.place.now c.first_refusal.result c.check_touch-used.result c.check_touch-used.ensures told c.in-None.is)
