use Rattle.std.proofs.Common.{drop}
use Rattle.lx_write.proofs.RecordsAdded.{Left}
use Rattle.lx_write.proofs.records.Records.add_object.Given as goal

abbrev pub invariant-loop-page : goal.invariant-loop-page
invariant-loop-page l = Left l.initial.self l.self l.offsets (drop l.page-index l.pages) l.pages
