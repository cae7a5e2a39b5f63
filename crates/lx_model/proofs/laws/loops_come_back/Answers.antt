use Rattle.lx_model.proofs.Loops.{loop_comes_back, comes_back_loops}
use Rattle.lx_model.proofs.laws.loops_come_back.Goals as goal

pub returns-clause-loops : goal.returns-clause-loops
returns-clause-loops c = loop_comes_back

pub returns-clause-returns : goal.returns-clause-returns
returns-clause-returns c = comes_back_loops
