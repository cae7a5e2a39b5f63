-- The rows of the header's table, as the model has them.
use Rattle.std.specs.Prelude.{ℕ, ◌==◌, ◌&&◌, Bool, true, nat_le, List, Option, map}
use Rattle.lx_types.specs.declared.refusal.LxRefusal.{LxRefusal}
use Rattle.lx_model.specs.Reading.{first}
use Rattle.lx_model.specs.Header.{Row, row, is_module_flags, row_fault, rows}
use Rattle.lx_fields.specs.Places.{bytes_in}
use Rattle.lx_head.specs.declared.rows.Allowed.{Allowed}
use Rattle.lx_head.specs.declared.rows.Allowed.TheVariants.{Any, Only, Between, AtMost, ModuleFlags}
use Rattle.lx_head.specs.declared.rows.Field.{Field}

-- what a field may be
abbrev pub allows : Allowed → ℕ → Bool
allows Any = λ _. true
allows (Only n) = λ v. v == n
allows (Between low high) = λ v. nat_le low v && nat_le v high
allows (AtMost most) = λ v. nat_le v most
allows ModuleFlags = is_module_flags

abbrev pub row_of : Field → Row
row_of f = row f.offset (bytes_in f.width) (allows f.allowed) f.kind

-- the first fault of some fields of a header at a place, and of all of them
unfoldable pub fault_among : List Field → List ℕ → ℕ → Option LxRefusal
fault_among fs file place = first (map (row_fault file place) (map row_of fs))

unfoldable pub fields_fault : List ℕ → ℕ → Option LxRefusal
fields_fault file place = first (map (row_fault file place) rows)
