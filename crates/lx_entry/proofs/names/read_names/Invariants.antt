use Rattle.std.proofs.Common.{◌≡◌, length}
use Rattle.lx_model.specs.NameTables.{name_entry}
use Rattle.lx_model.specs.Reading.{cursor, many, front}
use Rattle.lx_entry.proofs.names.read_names.Given as goal

-- the names so far and those that are left are all
abbrev pub invariant-loop-names : goal.invariant-loop-names
invariant-loop-names l = front l.names (many name_entry tt l.fields) ≡ many name_entry tt (cursor 0 l.bytes)

abbrev pub decreases-loop-names : goal.decreases-loop-names
decreases-loop-names l = length l.fields.left
