use Rattle.std.proofs.Common.{◌≡◌, ◌+◌, ◌-◌}
use Rattle.lx_model.specs.EntryTable.{bundle_entries}
use Rattle.lx_entry.specs.Bundles.{entry_at, onto}
use Rattle.lx_entry.proofs.bundles.add_entries.Given as goal

-- the entries so far and those that are left are all
abbrev pub invariant-loop-i : goal.invariant-loop-i
invariant-loop-i l = onto l.into (bundle_entries (l.count - l.i) (l.ordinal + l.i) (entry_at l.form l.imports) l.fields) ≡ onto l.fn.into (bundle_entries l.count l.ordinal (entry_at l.form l.imports) l.fn.fields)
