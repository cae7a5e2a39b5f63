use Rattle.session_read.specs.Told.{told}
use Rattle.session_read.proofs.ReadingLaws.{said-allowed}
use Rattle.session_read.proofs.draft.Draft.with.Goals as goal

pub with_module-requires : goal.with_module-requires
with_module-requires c = said-allowed c.args.line.now (told c.args.said) c.requires

pub with_failing-requires : goal.with_failing-requires
with_failing-requires c = said-allowed c.args.line.now (told c.args.said) c.requires
