use Rattle.std.proofs.Common.{map}
use Rattle.gen_core.specs.Generated.{saved_of}
use Rattle.gen_core.proofs.Saved.{HasSaved}
use Rattle.gen_core.proofs.saving.save_all.Given as goal

abbrev pub invariant-loop-output : goal.invariant-loop-output
invariant-loop-output g l = HasSaved (map saved_of l.yielded) l.fn.line (g.F.Files.state l.fn.files) (g.F.Files.state l.files)
