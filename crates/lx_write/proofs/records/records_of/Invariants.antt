use Rattle.std.proofs.Common.{◌≡◌, drop}
use Rattle.lx_write.specs.Growing.{with_records}
use Rattle.lx_write.proofs.RecordsAdded.{all_records}
use Rattle.lx_write.proofs.records.records_of.Given as goal

abbrev pub invariant-loop-pages : goal.invariant-loop-pages
invariant-loop-pages l = with_records l.records (all_records l.offsets (drop l.pages-index l.objects)) ≡ with_records l.initial.records (all_records l.offsets l.objects)
