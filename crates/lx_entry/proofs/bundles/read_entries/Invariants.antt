use Rattle.std.proofs.Common.{◌≡◌, ◌≤◌, length}
use Rattle.lx_model.specs.EntryTable.{bundle_at, entries_in}
use Rattle.lx_model.specs.Reading.{many}
use Rattle.lx_entry.specs.Bundles.{joined}
use Rattle.lx_entry.proofs.bundles.read_entries.Given as goal

-- the entries so far and those of the bundles that are left are all
abbrev pub invariant-loop-entries : goal.invariant-loop-entries
invariant-loop-entries l = record {
  low : l.last ≤ 65535;
  kept : joined l.entries (many (bundle_at l.objects l.imports) l.last l.fields) ≡ entries_in l.objects l.imports l.bytes;
}

abbrev pub decreases-loop-entries : goal.decreases-loop-entries
decreases-loop-entries l = length l.fields.left
