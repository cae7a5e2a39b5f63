-- The parts of a link's image, from its layout and what is placed in its pages.
use Rattle.std.specs.Prelude.{◌≡◌, ◌+◌, ◌++◌, List, None, unwrap_or}
use Rattle.std.specs.List.{All, filter_map}
use Rattle.lx_types.specs.declared.parts.TheConstants.{MODULE_INIT_EACH, MODULE_TERM_EACH}
use Rattle.obj_types.specs.declared.input.LinkInput.{LinkInput}
use Rattle.obj_types.specs.declared.symbol.Exp.{Exp}
use Rattle.obj_types.specs.declared.symbol.Imp.{Imp}
use Rattle.link_model.specs.declared.symbols.LaidObject.{LaidObject}
use Rattle.link_model.specs.Flags.{flag}
use Rattle.link_model.specs.Header.{auto_data}
use Rattle.link_model.specs.ImportTables.{used_pairs, modules_in, procs_in}
use Rattle.link_model.specs.Layout.{stack_top}
use Rattle.link_model.specs.Link.{Link, exports}
use Rattle.link_model.specs.Refusal.{place_refusal}
use Rattle.lx_write.specs.declared.image.Image.{Image}
use Rattle.link_types.specs.Symbols.{SymbolTable}
use Rattle.link_types.specs.declared.places.Places.{Places}
use Rattle.link_types.specs.declared.layout.Layout.{Layout}
use Rattle.link_place.specs.Placing.{ArePlaced}
use Rattle.link_core.specs.Exports.{pair_in, entries_in}
use Rattle.link_core.specs.Ranges.{HasRange}
use Rattle.link_core.specs.declared.image.LinkTables.{LinkTables}
use Rattle.link_core.specs.declared.image.LinkParts.{LinkParts}

-- The pairs that are imported: those of fixups, and after them those of forwarders.
abbrev pub all_pairs : Places → SymbolTable → List Imp → List Exp → List Imp
all_pairs p s pairs xs = pairs ++ filter_map (pair_in p s) xs

-- These are the tables of the exports xs, where fixups import these pairs.
pub record AreTables (p : Places) (s : SymbolTable) (os : List LaidObject) (xs : List Exp) (pairs : List Imp) (t : LinkTables) : Type 0 where
  pub imports : t.imports ≡ modules_in (all_pairs p s pairs xs)
  pub procs : t.procs ≡ procs_in (all_pairs p s pairs xs)
  pub exports : t.exports ≡ entries_in p s (all_pairs p s pairs xs) os xs

-- The fixups of the link l are not refused; this is in its pages, and these are its tables and its automatic data object.
pub record AreParts (l : Link) (s : SymbolTable) (layout : Layout) (parts : LinkParts) : Type 0 where
  pub place : place_refusal l ≡ None
  pub placed : ArePlaced l (stack_top l) parts.placed
  pub tables : AreTables layout.places s layout.objects (exports l) (used_pairs l) parts.tables
  pub auto : parts.tables.auto ≡ auto_data l

-- The image has these objects and parts.
pub record HasParts (input : LinkInput) (os : List LaidObject) (parts : LinkParts) (m : Image) : Type 0 where
  pub kind : m.kind ≡ input.def.kind
  pub name : m.name ≡ unwrap_or input.def.name input.stem
  pub about : m.about ≡ input.def.about
  pub flags : m.flags ≡ flag input.def.init_each MODULE_INIT_EACH + flag input.def.term_each MODULE_TERM_EACH
  pub start : m.start ≡ parts.placed.start
  pub stack : m.stack ≡ parts.placed.stack
  pub heap : m.heap ≡ input.def.heap
  pub auto : m.auto ≡ parts.tables.auto
  pub objects : m.objects ≡ os
  pub bytes : m.bytes ≡ parts.placed.bytes
  pub fixes : m.fixes ≡ parts.placed.fixes
  pub imports : m.imports ≡ parts.tables.imports
  pub procs : m.procs ≡ parts.tables.procs
  pub exports : m.exports ≡ parts.tables.exports
  pub ranges : All (All (All HasRange)) m.fixes
