use Rattle.std.specs.Prelude.{All}
use Rattle.lx_model.specs.Module.{IsRead}
use Rattle.lx_sample.proofs.library.modules_of.Given as goal

-- the modules so far
abbrev pub invariant-loop-file : goal.invariant-loop-file
invariant-loop-file l = All IsRead l.modules.items
