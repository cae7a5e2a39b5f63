use Rattle.std.proofs.Common.{length}
use Rattle.std.specs.List.{All}
use Rattle.lx_model.specs.Module.{IsRead}
use Rattle.session_model.specs.Kept.{modules_in}
use Rattle.session_text.specs.Writable.{IsPlainModule}
use Rattle.session_files.proofs.Lines.{Reached}
use Rattle.session_files.proofs.module_lines.modules_given.Given as goal

-- The lines so far were done, and those that are left stand after them.
abbrev pub invariant-loop-modules : goal.invariant-loop-modules
invariant-loop-modules g l = record {
  done : Reached l.lines (modules_in l.left) (g.F.Files.state l.initial.files) (g.F.Files.state l.files) l.modules.items;
  plain : All IsPlainModule (modules_in l.left);
  whole : All IsRead l.modules.items;
}

abbrev pub decreases-loop-modules : goal.decreases-loop-modules
decreases-loop-modules g l = length l.left
