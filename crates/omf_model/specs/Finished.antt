-- The module that an unfinished one is at its end: the segments of its COMDATs stand after all others, and what named
-- them by the numbers of an unfinished module names them by their indices.
use Rattle.std.specs.Prelude.{ℕ, ◌+◌, ◌-◌, List, ◌++◌, length, map, max, filter, nat_le, ◌==◌, if◌then◌else◌, bytes_eq, codes}
use Rattle.std.specs.List.{fold, enumerate_from}
use Rattle.obj_types.specs.declared.object.Seg.{Seg}
use Rattle.obj_types.specs.declared.object.Group.{Group}
use Rattle.obj_types.specs.declared.object.Piece.{Piece}
use Rattle.obj_types.specs.declared.object.FixAt.{FixAt}
use Rattle.obj_types.specs.declared.object.Comdat.{Comdat}
use Rattle.obj_types.specs.declared.object.ObjModule.{ObjModule}
use Rattle.obj_types.specs.declared.symbol.Pub.{Pub}
use Rattle.obj_types.specs.declared.symbol.PubPlace.{PubPlace}
use Rattle.obj_types.specs.declared.symbol.PubPlace.TheVariants.{In, Const}
use Rattle.obj_types.specs.declared.parts.BegunComdat.{BegunComdat}
use Rattle.obj_types.specs.declared.parts.ObjParts.{ObjParts}
use Rattle.obj_types.specs.declared.parts.TheConstants.{COMDAT_BASE}

-- The index after so many segments for the number of a segment.
abbrev pub index_for : ℕ → ℕ → ℕ
index_for segs number = if nat_le number COMDAT_BASE then number else segs + (number - COMDAT_BASE)

abbrev pub place_for : ℕ → PubPlace → PubPlace
place_for segs (In number offset) = In (index_for segs number) offset
place_for segs (Const value) = Const value

abbrev pub public_for : ℕ → Pub → Pub
public_for segs p = record p { place = place_for segs p.place }

abbrev pub piece_for : ℕ → Piece → Piece
piece_for segs p = record p { seg = index_for segs p.seg }

abbrev pub fix_for : ℕ → FixAt → FixAt
fix_for segs f = record f { seg = index_for segs f.seg }

-- The greatest end of the data of a segment.
abbrev pub greatest_end : List Piece → ℕ → ℕ
greatest_end pieces number = fold (λ len p. max len (p.offset + length p.bytes)) 0 (filter (λ p. p.seg == number) pieces)

-- The segments of the COMDATs, which are as long as their data.
abbrev pub seg_for : List Piece → ℕ × BegunComdat → Seg
seg_for pieces q = record q.1.seg { len = greatest_end pieces q.0 }

abbrev pub segs_for : List Piece → List BegunComdat → List Seg
segs_for pieces begun = map (seg_for pieces) (enumerate_from (COMDAT_BASE + 1) begun)

-- The COMDATs, each with its segment's index.
abbrev pub numbered : ℕ → List BegunComdat → List (ℕ × BegunComdat)
numbered segs begun = enumerate_from (segs + 1) begun

abbrev pub comdat_for : ℕ × BegunComdat → Comdat
comdat_for q = record { name = q.1.name; seg = q.0; selection = q.1.selection }

-- The segments of the COMDATs that name a group are its last members. FLAT has none.
abbrev pub group_for : ℕ → List BegunComdat → ℕ × Group → Group
group_for segs begun q =
    if bytes_eq q.1.name (codes "FLAT") then q.1
    else record q.1 { members = q.1.members ++ map (λ b. b.0) (filter (λ b. b.1.group == q.0) (numbered segs begun)) }

unfoldable pub finished : ObjParts → ObjModule
finished p = record p.module {
  segs = p.module.segs ++ segs_for p.module.pieces p.comdats;
  groups = map (group_for (length p.module.segs) p.comdats) (enumerate_from 1 p.module.groups);
  pubs = map (public_for (length p.module.segs)) p.module.pubs;
  pieces = map (piece_for (length p.module.segs)) p.module.pieces;
  fixes = map (fix_for (length p.module.segs)) p.module.fixes;
  comdats = map comdat_for (numbered (length p.module.segs) p.comdats);
}
