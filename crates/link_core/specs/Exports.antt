-- The exports of a link as the tables of its module tell them, from its places, its symbols and its import tables.
-- "32-bit Linear eXecutable Module Format": "Entry Table".
use Rattle.std.specs.Prelude.{ℕ, Bool, false, not, ◌||◌, List, ◌++◌, Option, Some, None, map, nat_lt, slice_get, length}
use Rattle.std.specs.List.{filter_map, flat_map, range_with_len}
use Rattle.std.specs.Option.{option_map, option_and_then, option_map_or}
use Rattle.lx_types.specs.Addresses.{is_big}
use Rattle.lx_types.specs.declared.limits.TheConstants.{BASE_UNIT}
use Rattle.lx_types.specs.declared.entry.EntryHead.{EntryHead}
use Rattle.lx_types.specs.declared.entry.EntryHead.TheVariants as heads
use Rattle.obj_types.specs.Items.{item}
use Rattle.obj_types.specs.declared.symbol.Exp.{Exp}
use Rattle.obj_types.specs.declared.symbol.Imp.{Imp}
use Rattle.obj_types.specs.declared.object.ObjModule.{ObjModule}
use Rattle.obj_types.specs.declared.definition.DefFile.{DefFile}
use Rattle.link_model.specs.declared.symbols.LaidObject.{LaidObject}
use Rattle.link_model.specs.Goals.{Target, Internal, Constant, Entry}
use Rattle.link_model.specs.ImportTables.{import_target, procs_in, name_offset, with_offset}
use Rattle.image_model.specs.Exported.{forwarder_to}
use Rattle.lx_exports.specs.declared.exports.OutEntry.{OutEntry}
use Rattle.link_types.specs.Symbols.{SymbolTable}
use Rattle.link_types.specs.Globals.{global_in}
use Rattle.link_types.specs.declared.places.Places.{Places}
use Rattle.link_place.specs.Fixed.{symbol_at}
use Rattle.link_fix.specs.Tables.{pair_among}

-- The exports: EXPDEF records of these modules in order, then EXPORTS.
abbrev pub exports_of : List ObjModule → DefFile → List Exp
exports_of ms def = flat_map (λ m. m.exports) ms ++ def.exports

-- What an export's internal name leads to.
abbrev pub lead_in : Places → SymbolTable → Exp → Option Target
lead_in p s x = option_and_then (symbol_at p) (global_in s.globals x.internal)

-- The import pair of an export that leads to another module.
abbrev pub pair_in : Places → SymbolTable → Exp → Option Imp
pair_in p s x = option_and_then (pair_among s.imports) (lead_in p s x)

-- The offsets of these names in the table of procedure names.
abbrev pub offsets_of : List (List ℕ) → List ℕ
offsets_of names = map (name_offset names) (range_with_len 0 (length names))

-- A forwarder's entry, where these pairs are in the import tables.
abbrev pub forward_among : List Imp → Imp → Option EntryHead
forward_among pairs pair =
    option_and_then (λ target. forwarder_to (with_offset (procs_in pairs) target)) (import_target pairs pair)

abbrev pub head_among : List Imp → List Imp → Target → Option EntryHead
head_among imports pairs (Internal o offset) = Some (heads.At o offset)
head_among imports pairs (Constant value) = None
head_among imports pairs (Entry slot) = option_and_then (forward_among pairs) (slice_get imports slot)

-- An entry of a big object, and one at 64 KiB or past it, has an offset of 32 bits.
abbrev pub wide_among : List LaidObject → Target → Bool
wide_among objects (Internal o offset) =
    is_big (option_map_or (λ x. x.flags) (item objects o) 0) || not (nat_lt offset BASE_UNIT)
wide_among objects (Constant value) = false
wide_among objects (Entry slot) = false

abbrev pub entry_with : List LaidObject → Exp → Target → EntryHead → OutEntry
entry_with objects x target head = record {
  name = x.name;
  ordinal = x.ordinal;
  resident = x.resident;
  words = x.words;
  head = head;
  wide = wide_among objects target;
}

abbrev pub entry_to : List Imp → List Imp → List LaidObject → Exp → Target → Option OutEntry
entry_to imports pairs objects x target = option_map (entry_with objects x target) (head_among imports pairs target)

abbrev pub entry_in : Places → SymbolTable → List Imp → List LaidObject → Exp → Option OutEntry
entry_in p s pairs objects x = option_and_then (entry_to s.imports pairs objects x) (lead_in p s x)

-- The entries of these exports.
abbrev pub entries_in : Places → SymbolTable → List Imp → List LaidObject → List Exp → List OutEntry
entries_in p s pairs objects xs = filter_map (entry_in p s pairs objects) xs
