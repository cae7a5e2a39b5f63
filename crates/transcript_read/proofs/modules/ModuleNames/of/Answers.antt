use Rattle.std.proofs.Common.{subst, sym}
use Rattle.session_model.specs.Transcript.{module_text}
use Rattle.transcript_read.specs.Modules.{NamesFirst}
use Rattle.transcript_read.proofs.ModuleTables.{names_none}
use Rattle.transcript_read.proofs.modules.ModuleNames.of.Goals as goal

pub loop-m-init : goal.loop-m-init
loop-m-init c = subst (λ table. NamesFirst c.args.lib.now 0 table) (sym c.new-table.ensures) (names_none (module_text c.args.lib.now) _)
