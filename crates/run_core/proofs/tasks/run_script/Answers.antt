use Rattle.run_core.proofs.Words.{false, is_err, sym, ◌∙◌, ◌≡◌}
use Rattle.run_core.proofs.Carried.{same_through, on_ok, one_longer, one_more_turns, reached_ok}
use Rattle.run_core.proofs.tasks.run_script.Goals as goal

pub loop-command-preserved : goal.loop-command-preserved
loop-command-preserved g c =
    let good : is_err c.carry_out.result ≡ false = sym c.is_err.ensures.value ∙ c.if-is_err.false in (
      tt,
      tt,
      one_longer _ _ _ c.loop-command.invariant.2,
      c.carry_out.ensures.number ∙ c.loop-command.invariant.3,
      c.carry_out.ensures.loader,
      same_through _ _ _ c.loop-command.invariant.5 (on_ok c.carry_out.result c.carry_out.ensures.same good),
      one_more_turns _ _ _ _ c.loop-command.invariant.6 (on_ok c.carry_out.result c.carry_out.ensures.turns good),
      reached_ok c.carry_out.result _ _ _ _ _ c.carry_out.ensures.reached good _ _ _ c.loop-command.invariant.7,
    )
