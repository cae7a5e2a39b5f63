-- The record of a COMDAT as a value, what its bytes say, and what it gives to its module. "C2h COMDAT".
use Rattle.std.specs.Prelude.{ℕ, ◌+◌, ◌/◌, ◌%◌, Bool, true, false, ◌&&◌, not, List, [], ◌∷◌, length, Option, Some, None, nat_lt, nat_le, ◌==◌, if◌then◌else◌, unwrap_or, bytes_eq, codes}
use Rattle.std.specs.List.{list_any, position_or_len}
use Rattle.obj_types.specs.declared.object.Seg.{Seg}
use Rattle.obj_types.specs.declared.object.Piece.{Piece}
use Rattle.obj_types.specs.declared.object.Selection.{Selection}
use Rattle.obj_types.specs.declared.object.Selection.TheVariants.{NoMatch, Any, SameSize, Exact}
use Rattle.obj_types.specs.declared.object.TheConstants.{ALIGN_DOUBLEWORD, COMBINE_PUBLIC}
use Rattle.obj_types.specs.declared.symbol.Pub.{Pub}
use Rattle.obj_types.specs.declared.symbol.PubPlace.TheVariants.{In}
use Rattle.obj_types.specs.declared.parts.LastData.{LastData}
use Rattle.obj_types.specs.declared.parts.LastData.TheVariants as datas
use Rattle.obj_types.specs.declared.parts.BegunComdat.{BegunComdat}
use Rattle.obj_types.specs.declared.parts.TheConstants.{COMDAT_BASE}
use Rattle.obj_types.specs.Items.{item}

-- The group and the segment of an explicit allocation. Group 0 is none.
pub record Base : Type 0 where
  pub group : ℕ
  pub segment : ℕ

-- The name is one of LNAMES.
pub record ComDat : Type 0 where
  pub flags : ℕ
  pub attributes : ℕ
  pub align : ℕ
  pub offset : ℕ
  pub type : ℕ
  pub base : Option Base
  pub name : ℕ
  pub content : List ℕ

-- ---- what the bytes say

-- The flags byte: 01h continuation, 02h iterated data, 04h local, 08h data in a code segment, which says nothing here.
abbrev pub is_continued : ℕ → Bool
is_continued flags = flags % 2 == 1

abbrev pub is_iterated : ℕ → Bool
is_iterated flags = flags / 2 % 2 == 1

abbrev pub is_local : ℕ → Bool
is_local flags = flags / 4 % 2 == 1

-- Iterated data is left out.
abbrev pub are_flags : ℕ → Bool
are_flags flags = nat_lt flags 16 && not (is_iterated flags)

-- The attribute byte: the high half is the selection criterion, the low half the allocation type.
abbrev pub selection_bits : ℕ → ℕ
selection_bits attributes = attributes / 16

abbrev pub allocation : ℕ → ℕ
allocation attributes = attributes % 16

-- Selections: 0 no match, 1 any, 2 same size, 3 exact. Allocations: 0 explicit, 1 far code, 2 far data, 3 code32, 4 data32.
abbrev pub is_selected : ℕ → Bool
is_selected attributes = nat_le (selection_bits attributes) 3 && nat_le (allocation attributes) 4

abbrev pub has_base : ℕ → Bool
has_base attributes = allocation attributes == 0

abbrev pub selection_by : ℕ → Selection
selection_by n = if n == 0 then NoMatch else if n == 1 then Any else if n == 2 then SameSize else Exact

-- ---- the segment

-- That of an allocation which is not explicit. It has no bytes yet.
abbrev pub segment_with : List ℕ → List ℕ → Bool → Seg
segment_with name class wide =
    record { name = name; class = class; align = ALIGN_DOUBLEWORD; combine = COMBINE_PUBLIC; wide = wide; len = 0; debug = false }

abbrev pub segment_by : ℕ → Seg
segment_by n =
    if n == 1 then segment_with (codes "CODE16") (codes "CODE") false
    else if n == 2 then segment_with (codes "DATA16") (codes "FAR_DATA") false
    else if n == 3 then segment_with (codes "CODE32") (codes "CODE") true
    else segment_with (codes "DATA32") (codes "DATA") true

-- An explicit one takes the name, the class, the width and the alignment of the segment that it names.
abbrev pub allocated : List Seg → ℕ → Option Base → Seg
allocated segs n None = segment_by n
allocated segs n (Some base) = record (unwrap_or (item segs base.segment) (segment_by n)) { combine = COMBINE_PUBLIC; len = 0; debug = false }

-- The record's own alignment stands before that one, 0 aside.
abbrev pub aligned : ℕ → Seg → Seg
aligned align s = if align == 0 then s else record s { align = align }

abbrev pub group_named : Option Base → ℕ
group_named None = 0
group_named (Some base) = base.group

-- ---- what it gives to the lists of its module, by its name

abbrev pub end_of : ComDat → ℕ
end_of d = d.offset + length d.content

-- A COMDAT without its data.
abbrev pub begun_with : List Seg → List ℕ → ComDat → BegunComdat
begun_with segs name d = record {
  name = name;
  selection = selection_by (selection_bits d.attributes);
  seg = aligned d.align (allocated segs (allocation d.attributes) d.base);
  group = group_named d.base;
}

abbrev pub is_begun : List (List ℕ) → List ℕ → Bool
is_begun begun name = list_any (bytes_eq name) begun

-- The number of the segment of a name, where these names have begun: that of an earlier record of the name, or the next.
abbrev pub number_of : List (List ℕ) → List ℕ → ℕ
number_of begun name = COMDAT_BASE + 1 + position_or_len (bytes_eq name) begun

-- The public of a number, which is at its segment's begin.
abbrev pub public_with : ℕ → List ℕ → ComDat → Pub
public_with number name d = record { name = name; local = is_local d.flags; place = In number 0 }

abbrev pub piece_with : ℕ → ComDat → Piece
piece_with number d = record { seg = number; offset = d.offset; bytes = d.content }

abbrev pub data_with : ℕ → ComDat → LastData
data_with number d = datas.Straight number d.offset (length d.content)

-- Of a record that is no continuation.
abbrev pub if_first : {A : Type 0} → ComDat → A → List A
if_first d x = if is_continued d.flags then [] else x ∷ []
