-- Whether the names and texts of a definition file fit between single quotes on one line.
use Rattle.std.specs.Prelude.{ℕ, Bool, true, ◌&&◌, ◌==◌, not, List}
use Rattle.std.specs.List.{list_all}
use Rattle.std.specs.Option.{option_map_or}
use Rattle.lx_types.specs.declared.entry.EntryKey.{EntryKey}
use Rattle.lx_types.specs.declared.entry.EntryKey.TheVariants.{Ordinal, Named}
use Rattle.obj_types.specs.declared.definition.DefFile.{DefFile}
use Rattle.obj_types.specs.declared.definition.SegAttrs.{SegAttrs}
use Rattle.obj_types.specs.declared.symbol.Exp.{Exp}
use Rattle.obj_types.specs.declared.symbol.Imp.{Imp}

-- No single quote, no CR and no LF.
abbrev pub text_fits : List ℕ → Bool
text_fits bytes = list_all (λ b. not (b == 39) && not (b == 13) && not (b == 10)) bytes

abbrev pub segment_fits : SegAttrs → Bool
segment_fits s = text_fits s.name && option_map_or text_fits s.class true

abbrev pub export_fits : Exp → Bool
export_fits e = text_fits e.name && text_fits e.internal

abbrev pub entry_fits : EntryKey → Bool
entry_fits (Ordinal n) = true
entry_fits (Named name) = text_fits name

abbrev pub import_fits : Imp → Bool
import_fits i = text_fits i.name && text_fits i.module && entry_fits i.entry

unfoldable pub file_fits : DefFile → Bool
file_fits d =
    option_map_or text_fits d.name true && text_fits d.about
    && list_all segment_fits d.segs && list_all export_fits d.exports && list_all import_fits d.imports
