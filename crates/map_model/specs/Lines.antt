-- The lines of a map, by their words: bases, addresses, values and flags as eight hexadecimal digits, all other numbers in
-- decimal.
use Rattle.std.specs.Prelude.{ℕ, List, [], ◌∷◌, ◌++◌, codes, decimal}
use Rattle.lx_types.specs.declared.entry.EntryKey.{EntryKey}
use Rattle.lx_types.specs.declared.entry.EntryKey.TheVariants.{Ordinal, Named}
use Rattle.obj_types.specs.declared.symbol.Common.{Common}
use Rattle.obj_types.specs.declared.symbol.Imp.{Imp}
use Rattle.lx_types.specs.Escaped.{hex_address}
use Rattle.session_model.specs.Text.{line_of}
use Rattle.dump_model.specs.Lines.{name_word}
use Rattle.link_model.specs.declared.symbols.LaidObject.{LaidObject}
use Rattle.map_model.specs.Listed.{Contribution, Listed}

unfoldable pub map_line : List ℕ → ℕ → List ℕ
map_line name count = line_of (codes "map" ∷ name_word name ∷ codes "objects" ∷ decimal count ∷ [])

-- object k, from 1
unfoldable pub object_line : ℕ × LaidObject → List ℕ
object_line q =
    line_of
    (codes "object" ∷ decimal q.0 ∷ hex_address q.1.base ∷ codes "size" ∷ decimal q.1.size ∷ codes "flags" ∷ hex_address q.1.flags ∷ [])

-- A contribution at an address, with its number in its module and with the number of that module.
unfoldable pub segment_line : Contribution → ℕ → List ℕ
segment_line c at =
    line_of
    (codes "segment" ∷ decimal c.index ∷ hex_address at ∷ decimal c.seg.len ∷ name_word c.seg.name ∷ name_word c.seg.class ∷ decimal c.by ∷ [])

unfoldable pub common_line : List ℕ × Common → ℕ → List ℕ
common_line c at = line_of (codes "common" ∷ hex_address at ∷ decimal c.1.len ∷ name_word c.0 ∷ [])

unfoldable pub public_line : Listed → List ℕ
public_line p = line_of (codes "public" ∷ hex_address p.number ∷ name_word p.name ∷ [])

unfoldable pub constant_line : Listed → List ℕ
constant_line p = line_of (codes "constant" ∷ hex_address p.number ∷ name_word p.name ∷ [])

abbrev pub entry_word : EntryKey → List ℕ
entry_word (Ordinal n) = codes "@" ++ decimal n
entry_word (Named name) = name_word name

-- The module's name as the pair has it.
unfoldable pub import_line : Imp → List ℕ
import_line i = line_of (codes "import" ∷ name_word i.name ∷ name_word i.module ∷ entry_word i.entry ∷ [])
