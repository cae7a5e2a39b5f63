-- The modules that the generator makes, G1 to GN. Each has one code segment of two pages in which each doubleword is a
-- reference: to its own place, or, at the front of each module but the first, to the module before it.
use Rattle.std.specs.Prelude.{ℕ, ◌-◌, ◌*◌, ◌==◌, ◌&&◌, nat_lt, Bool, true, false, List, [], ◌∷◌, ◌++◌, codes, decimal, map, replicate, Some, None, if◌then◌else◌}
use Rattle.std.specs.List.{range_with_len}
use Rattle.lx_types.specs.declared.entry.EntryKey.TheVariants.{Ordinal}
use Rattle.obj_types.specs.Defaults.{default_def}
use Rattle.obj_types.specs.Fresh.{empty_module}
use Rattle.obj_types.specs.declared.definition.DefFile.{DefFile}
use Rattle.obj_types.specs.declared.definition.ModKind.TheVariants.{Library}
use Rattle.obj_types.specs.declared.input.LinkInput.{LinkInput}
use Rattle.obj_types.specs.declared.object.FixAt.{FixAt}
use Rattle.obj_types.specs.declared.object.Frame.TheVariants as frames
use Rattle.obj_types.specs.declared.object.Goal.{Goal}
use Rattle.obj_types.specs.declared.object.Goal.TheVariants as goals
use Rattle.obj_types.specs.declared.object.Group.{Group}
use Rattle.obj_types.specs.declared.object.ObjModule.{ObjModule}
use Rattle.obj_types.specs.declared.object.Piece.{Piece}
use Rattle.obj_types.specs.declared.object.Seg.{Seg}
use Rattle.obj_types.specs.declared.location.TheConstants.{LOCATION_OFFSET_32}
use Rattle.obj_types.specs.declared.object.TheConstants.{ALIGN_DOUBLEWORD, COMBINE_PUBLIC}
use Rattle.obj_types.specs.declared.symbol.Exp.{Exp}
use Rattle.obj_types.specs.declared.symbol.Ext.{Ext}
use Rattle.obj_types.specs.declared.symbol.Imp.{Imp}
use Rattle.obj_types.specs.declared.symbol.Pub.{Pub}
use Rattle.obj_types.specs.declared.symbol.PubPlace.TheVariants.{In}
use Rattle.gen_model.specs.declared.numbers.TheConstants.{SEGMENT_LEN, PIECE_LEN, PIECES, REFERENCES}

-- ---- names

-- the public name of module k, which is the name of its object module too
abbrev pub public_name : ℕ → List ℕ
public_name k = codes "g" ++ decimal k

-- the name of module k, once it is linked
abbrev pub module_name : ℕ → List ℕ
module_name k = codes "G" ++ decimal k

-- module k refers to the one before it
abbrev pub refers : ℕ → Bool
refers k = nat_lt 1 k

-- ---- the object module

-- 32-bit public code on doublewords
abbrev pub code_segment : Seg
code_segment =
    record {
      name = codes "CODE32";
      class = codes "CODE";
      align = ALIGN_DOUBLEWORD;
      combine = COMBINE_PUBLIC;
      wide = true;
      len = SEGMENT_LEN;
      debug = false;
    }

abbrev pub flat_group : Group
flat_group = record { name = codes "FLAT"; members = [] }

abbrev pub own_public : ℕ → Pub
own_public k = record { name = public_name k; local = false; place = In 1 0 }

abbrev pub external_before : ℕ → Ext
external_before k = record { name = public_name (k - 1); local = false; common = None }

abbrev pub import_before : ℕ → Imp
import_before k = record { name = public_name (k - 1); «module» = module_name (k - 1); entry = Ordinal 1 }

-- Its name is not resident, it has data, and no parameter words.
abbrev pub own_export : ℕ → Exp
own_export k = record { name = public_name k; internal = public_name k; ordinal = Some 1; resident = false; nodata = false; words = 0 }

abbrev pub zero_piece : ℕ → Piece
zero_piece j = record { seg = 1; offset = PIECE_LEN * j; bytes = replicate PIECE_LEN 0 }

-- The external is the first of its kind, and the segment too.
abbrev pub goal_of : ℕ → ℕ → Goal
goal_of k i = if refers k && i == 0 then goals.Ext 1 else goals.Seg 1

-- Doubleword i, in the frame FLAT: the 32-bit offset of its own place, or of the place 0 bytes after the external.
abbrev pub reference : ℕ → ℕ → FixAt
reference k i =
    record {
      seg = 1;
      offset = 4 * i;
      loc = LOCATION_OFFSET_32;
      selfrel = false;
      frame = frames.Group 1;
      goal = goal_of k i;
      disp = 4 * i;
    }

abbrev pub externals_of : ℕ → List Ext
externals_of k = if refers k then external_before k ∷ [] else []

abbrev pub imports_of : ℕ → List Imp
imports_of k = if refers k then import_before k ∷ [] else []

abbrev pub gen_pieces : List Piece
gen_pieces = map zero_piece (range_with_len 0 PIECES)

abbrev pub gen_fixes : ℕ → List FixAt
gen_fixes k = map (reference k) (range_with_len 0 REFERENCES)

unfoldable pub gen_object : ℕ → ObjModule
gen_object k = record empty_module {
  name = public_name k;
  segs = code_segment ∷ [];
  groups = flat_group ∷ [];
  pubs = own_public k ∷ [];
  exts = externals_of k;
  pieces = gen_pieces;
  fixes = gen_fixes k;
  imports = imports_of k;
  exports = own_export k ∷ [];
}

-- ---- the definition file, and what is linked

-- `LIBRARY Gk`
abbrev pub definition_text : ℕ → List ℕ
definition_text k = codes "LIBRARY " ++ (module_name k ++ 10 ∷ [])

-- It says nothing else.
abbrev pub gen_definition : ℕ → DefFile
gen_definition k = record (default_def Library None) { name = Some (module_name k) }

-- The stem says nothing, since the definition file gives the name.
abbrev pub gen_input : ℕ → LinkInput
gen_input k = record { objects = gen_object k ∷ []; libs = []; def = gen_definition k; stem = module_name k }
