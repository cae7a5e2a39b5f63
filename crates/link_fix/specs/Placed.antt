-- A link's pages before the loader, from its layout.
use Rattle.std.specs.Prelude.{◌≡◌, ℕ, List, map}
use Rattle.obj_types.specs.declared.symbol.Imp.{Imp}
use Rattle.link_model.specs.declared.symbols.LaidObject.{LaidObject}
use Rattle.link_model.specs.Link.{Link}
use Rattle.link_model.specs.Symbols as symbols
use Rattle.link_model.specs.Layout as layout
use Rattle.link_model.specs.Fixups as rules
use Rattle.link_model.specs.Mean as mean
use Rattle.link_model.specs.Patches.{object_bytes}
use Rattle.link_model.specs.Records.{object_records}
use Rattle.link_model.specs.ImportTables.{used_pairs, modules_in, procs_in}
use Rattle.link_fix.specs.declared.fixup.Fixup.{Fixup}
use Rattle.link_fix.specs.declared.painting.PlacedPiece.{PlacedPiece}
use Rattle.link_fix.specs.declared.pages.Pages.{Pages}
use Rattle.std.specs.List.{range_with_len, enumerate_from}
use Rattle.link_fix.specs.Bare.{bare}
use Rattle.link_fix.specs.Shown.{shown, piece_shown}
use Rattle.link_fix.specs.Pieces.{of_placed}
use Rattle.link_fix.specs.Values.{with_fields}

-- The bytes of objects: of the fields of these fixups, else of these pieces.
abbrev pub bytes_with : Link → List rules.Fixup → List mean.PlacedPiece → List LaidObject → List (List ℕ)
bytes_with l live pieces objects =
    map (λ q. map (with_fields l live (of_placed pieces) q.0) (range_with_len 0 q.1.size)) (enumerate_from 1 objects)

-- These are the pieces, what is left of the fixups, the objects and the import pairs of a link.
pub record AreOfLink (l : Link) (pieces : List PlacedPiece) (fixups : List Fixup) (objects : List LaidObject) (imports : List Imp) : Type 0 where
  pub all_pieces : map piece_shown pieces ≡ mean.pieces l
  pub all_fixups : map shown fixups ≡ map bare (rules.fixups l)
  pub all_objects : objects ≡ layout.objects l
  pub all_imports : imports ≡ symbols.imports l

-- These are a link's bytes before the loader, the records that are left to it, and its import tables.
pub record ArePages (l : Link) (p : Pages) : Type 0 where
  pub bytes : p.bytes ≡ object_bytes l
  pub fixes : p.fixes ≡ object_records l
  pub imports : p.imports ≡ modules_in (used_pairs l)
  pub procs : p.procs ≡ procs_in (used_pairs l)
