-- Worked places: each worked out by hand from the rule.
use Rattle.std.specs.Prelude.{◌≡◌, ℕ, List, [], ◌∷◌, None, Ok, Err}
use Rattle.lx_types.specs.declared.object.ObjHead.{ObjHead}
use Rattle.lx_types.specs.declared.parts.Parts.{Parts}
use Rattle.base_pick.specs.Places.{range_at, places_of}

-- a module with these flags and objects, of which the other parts say nothing here
abbrev module_with : ℕ → List ObjHead → Parts
module_with flags objects = record {
  file = [];
  name = [];
  flags = flags;
  start = None;
  objects = objects;
  pages = [];
  fix_spans = [];
  imports = [];
  procs_at = 0;
  entries = [];
  names = [];
  refs = [];
}

abbrev object_at : ℕ → ℕ → ObjHead
object_at base size = record { size = size; base = base; flags = 0; first = 0; count = 0 }

abbrev library : List ObjHead → Parts
library objects = module_with 0x8000 objects

abbrev program : List ObjHead → Parts
program objects = module_with 0 objects

-- two libraries with the linked base 10000000h: the second stands after the first
pub record WorkedPlaces : Type 0 where
  pub linked : places_of [] (library (object_at 0x1000_0000 8 ∷ [])) ≡ Ok (0x1000_0000 ∷ [])
  pub after : places_of (range_at 0x1000_0000 8 ∷ []) (library (object_at 0x1000_0000 8 ∷ [])) ≡ Ok (0x1001_0000 ∷ [])
  -- the least place, and not the one after all that is taken
  pub gap : places_of (range_at 0x1000_0000 8 ∷ range_at 0x1003_0000 0x2_0000 ∷ []) (library (object_at 0x1000_0000 0x1_0001 ∷ object_at 0 0 ∷ []))
      ≡ Ok (0x1001_0000 ∷ 0x1005_0000 ∷ [])
  -- a linked base that is no multiple of 65,536 is not taken, nor one outside the arena
  pub odd : places_of [] (library (object_at 0x1000_1000 8 ∷ object_at 0x0FFF_0000 8 ∷ [])) ≡ Ok (0x1000_0000 ∷ 0x1001_0000 ∷ [])
  -- a program's arena is empty, whatever libraries take
  pub own : places_of (range_at 0x1000_0000 8 ∷ []) (program (object_at 0x1_0000 8 ∷ object_at 0x1_0000 8 ∷ [])) ≡ Ok (0x1_0000 ∷ 0x2_0000 ∷ [])
  -- the whole arena, and one byte more
  pub whole : places_of [] (library (object_at 0x1000_0000 0x1000_0000 ∷ [])) ≡ Ok (0x1000_0000 ∷ [])
  pub full : places_of [] (library (object_at 0x1000_0000 8 ∷ object_at 0x1001_0000 0x0FFF_0001 ∷ [])) ≡ Err (record { object = 2; size = 0x0FFF_0001 })
