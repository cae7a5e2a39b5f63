-- What the refusal of a table says is wrong with it.
use Rattle.std.specs.Prelude.{if◌then◌else◌}
use Rattle.lx_types.specs.declared.refusal.LxRefusal.{LxRefusal}
use Rattle.lx_types.specs.declared.refusal.LxKind.{LxKind}
use Rattle.lx_types.specs.declared.refusal.LxKind.TheVariants as kinds
use Rattle.lx_model.specs.Reading.{fault}
use Rattle.lx_entry.specs.declared.refusal.TableRefusal.{TableRefusal}

-- A field that passes the table's end, or else what is of the table's own kind.
abbrev pub refusal : LxKind → TableRefusal → LxRefusal
refusal kind r = fault (if r.short then kinds.Short else kind) r.at
