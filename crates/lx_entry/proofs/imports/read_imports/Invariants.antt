use Rattle.std.proofs.Common.{◌≡◌, ◌-◌}
use Rattle.lx_model.specs.NameTables.{import_entry}
use Rattle.lx_model.specs.Reading.{cursor, many, front}
use Rattle.lx_entry.proofs.imports.read_imports.Given as goal

-- the names so far and those that are left are all
abbrev pub invariant-loop : goal.invariant-loop
invariant-loop l = front l.names (many import_entry (l.count - l.counter) l.fields) ≡ many import_entry l.count (cursor 0 l.bytes)
