-- Faults of tables that are read by themselves, as faults of the file.
use Rattle.std.specs.Prelude.{ℕ, ◌+◌}
use Rattle.lx_types.specs.declared.fail.Fail.{Fail}
use Rattle.lx_types.specs.declared.fail.Fail.TheVariants.{Said, NoMemory}
use Rattle.lx_types.specs.declared.refusal.LxRefusal.{LxRefusal}
use Rattle.lx_types.specs.declared.refusal.LxKind.{LxKind}
use Rattle.lx_model.specs.Reading.{fault}
use Rattle.lx_entry.specs.Refusals.{refusal}
use Rattle.lx_entry.specs.declared.refusal.TableRefusal.{TableRefusal}

-- what is wrong with a table of a kind that stands at a place
abbrev pub in_file : LxKind → ℕ → Fail TableRefusal → Fail LxRefusal
in_file kind at (Said r) = Said (fault (refusal kind r).kind (at + (refusal kind r).at))
in_file kind at NoMemory = NoMemory
