-- The smallest link: one object module with one 32-bit code segment whose fixups refer to the segment itself.
-- What all rules say of it is one plain equation.
use Rattle.std.specs.Prelude.{◌≡◌, ℕ, ◌+◌, ◌-◌, ◌%◌, ◌^◌, ◌≤◌, ◌⊎◌, Bool, true, false, ◌&&◌, List, [], ◌∷◌, Option, Some, None, map, take, drop, length, nat_lt, nat_le, slice_index, find, codes}
use Rattle.std.specs.List.{AllByRecursion, AllPairs}
use Rattle.std.specs.Int.{w32, from_le_bytes, to_le_bytes}
use Rattle.lx_types.specs.declared.object.TheConstants.{PAGE_SIZE, OBJECT_READABLE, OBJECT_EXECUTABLE, OBJECT_BIG}
use Rattle.obj_types.specs.declared.location.TheConstants.{LOCATION_OFFSET_32}
use Rattle.obj_types.specs.declared.object.TheConstants.{ALIGN_DOUBLEWORD, COMBINE_PUBLIC}
use Rattle.obj_types.specs.declared.object.Seg.{Seg}
use Rattle.obj_types.specs.declared.object.Piece.{Piece}
use Rattle.obj_types.specs.declared.object.FixAt.{FixAt}
use Rattle.obj_types.specs.declared.object.Frame.TheVariants as frames
use Rattle.obj_types.specs.declared.object.Goal.TheVariants as goals
use Rattle.obj_types.specs.declared.object.ObjModule.{ObjModule}
use Rattle.obj_types.specs.declared.definition.ModKind.TheVariants.{Library}
use Rattle.obj_types.specs.declared.input.LinkInput.{LinkInput}
use Rattle.obj_types.specs.Fresh.{empty_module}
use Rattle.link_model.specs.declared.symbols.Pick.{Pick}
use Rattle.link_model.specs.Choosing.{Chosen}
use Rattle.link_model.specs.Link.{link_of}
use Rattle.link_model.specs.SymbolRefusals.{sym_refusal}
use Rattle.link_model.specs.Layout.{objects}
use Rattle.link_model.specs.LayoutRefusals.{lay_refusal}
use Rattle.link_model.specs.Value.{EntryPoints}
use Rattle.link_model.specs.Mean.{Mean}
use Rattle.link_model.specs.Refusal.{place_refusal}
use Rattle.obj_types.specs.Defaults.{default_def}

-- ---- the plain equation, for data and the places of its fixups

-- The four bytes at a place cover x.
abbrev pub covers : ℕ → ℕ → Bool
covers x place = nat_le place x && nat_lt x (place + 4)

-- The number that stands at a place.
abbrev pub standing : List ℕ → ℕ → ℕ
standing bytes place = from_le_bytes w32 (take 4 (drop place bytes))

-- A fixup puts the base and the number that stands there.
abbrev pub value : ℕ → List ℕ → ℕ → List ℕ
value base bytes place = to_le_bytes w32 ((base + standing bytes place) % 2 ^ 32)

-- The byte at x: of the fixup that covers it, else of the data.
abbrev pub mean_by : ℕ → List ℕ → ℕ → Option ℕ → ℕ
mean_by base bytes x None = slice_index bytes x
mean_by base bytes x (Some place) = slice_index (value base bytes place) (x - place)

abbrev pub one_segment_mean : ℕ → List ℕ → List ℕ → ℕ → ℕ
one_segment_mean base bytes places x = mean_by base bytes x (find (covers x) places)

-- ---- the link

abbrev pub Apart : ℕ → ℕ → Type 0
Apart a b = (a + 4 ≤ b) ⊎ (b + 4 ≤ a)

-- At most a page of data, and fixups that lie in it apart from each other.
pub record IsOneSegment (bytes places : List ℕ) : Type 0 where
  pub one_page : length bytes ≤ PAGE_SIZE
  pub within : AllByRecursion (λ place. place + 4 ≤ length bytes) places
  pub apart : AllPairs Apart places

abbrev pub pieces_of : List ℕ → List Piece
pieces_of [] = []
pieces_of (b ∷ bytes) = record { seg = 1; offset = 0; bytes = b ∷ bytes } ∷ []

-- A 32-bit offset of the segment itself, in the frame FLAT.
abbrev pub fix_of : ℕ → FixAt
fix_of place =
    record {
      seg = 1;
      offset = place;
      loc = LOCATION_OFFSET_32;
      selfrel = false;
      frame = frames.Group 1;
      goal = goals.Seg 1;
      disp = 0;
    }

-- A public 32-bit code segment, doubleword-aligned.
abbrev pub code_segment : ℕ → Seg
code_segment len =
    record {
      name = codes "CODE32";
      class = codes "CODE";
      align = ALIGN_DOUBLEWORD;
      combine = COMBINE_PUBLIC;
      wide = true;
      len = len;
      debug = false;
    }

abbrev pub one_segment : List ℕ → List ℕ → List ℕ → ObjModule
one_segment name bytes places =
    record empty_module {
      name = name;
      segs = code_segment (length bytes) ∷ [];
      groups = record { name = codes "FLAT"; members = [] } ∷ [];
      pieces = pieces_of bytes;
      fixes = map fix_of places;
    }

-- It is linked alone as a library from a base.
abbrev pub alone : ObjModule → List ℕ → ℕ → LinkInput
alone m stem base = record { objects = m ∷ []; libs = []; def = default_def Library (Some base); stem = stem }

abbrev pub only_pick : List Pick
only_pick = record { lib = false; index = 0 } ∷ []

-- ---- the law

-- The module is chosen, nothing is refused, there is one object, read and executed and big, and its bytes at any
-- base are those of the plain equation.
pub record LinksOneSegment (input : LinkInput) (bytes places : List ℕ) (base : ℕ) : Type 0 where
  pub chosen : Chosen input only_pick
  pub names : sym_refusal (link_of input only_pick) ≡ None
  pub layout : lay_refusal (link_of input only_pick) ≡ None
  pub fixups : place_refusal (link_of input only_pick) ≡ None
  pub object : objects (link_of input only_pick) ≡ record { size = length bytes; base = base; flags = OBJECT_READABLE + OBJECT_EXECUTABLE + OBJECT_BIG } ∷ []
  pub mean : (at : ℕ) (imp : EntryPoints) (x : ℕ)
      → Mean (link_of input only_pick) (record { bases = at ∷ []; imp = imp }) 1 x ≡ one_segment_mean at bytes places x

abbrev pub OneSegmentLaw : Type 0
OneSegmentLaw =
    (name bytes places stem : List ℕ) (base : ℕ) → IsOneSegment bytes places
    → LinksOneSegment (alone (one_segment name bytes places) stem base) bytes places base
