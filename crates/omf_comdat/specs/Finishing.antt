-- What the steps of a module's end ask and give.
use Rattle.std.specs.Prelude.{◌≡◌, ℕ, ◌+◌, ◌-◌, ◌<◌, ◌^◌, not, ◌&&◌, List, [], ◌∷◌, ◌++◌, length, map, get_or, ◌==◌, if◌then◌else◌, bytes_eq, codes}
use Rattle.std.specs.List.{enumerate_from, range_with_len}
use Rattle.obj_types.specs.declared.object.Seg.{Seg}
use Rattle.obj_types.specs.declared.object.Group.{Group}
use Rattle.obj_types.specs.declared.object.Piece.{Piece}
use Rattle.obj_types.specs.declared.symbol.PubPlace.{PubPlace}
use Rattle.obj_types.specs.declared.symbol.PubPlace.TheVariants.{In, Const}
use Rattle.obj_types.specs.declared.parts.BegunComdat.{BegunComdat}
use Rattle.obj_types.specs.declared.parts.TheConstants.{COMDAT_BASE}
use Rattle.omf_model.specs.Finished.{greatest_end, numbered, comdat_for, group_for}
use Rattle.omf_comdat.specs.declared.finish.Placed.{Placed}

-- After so many segments the number has an index of 32 bits.
abbrev pub HasIndex : ℕ → ℕ → Type 0
HasIndex segs number = segs + (number - COMDAT_BASE) < 2 ^ 32

abbrev pub PlaceHasIndex : ℕ → PubPlace → Type 0
PlaceHasIndex segs (In number offset) = HasIndex segs number
PlaceHasIndex segs (Const value) = Unit {0}

-- A group with its index, and one more member where it is the group meant. FLAT has none.
abbrev pub with_member : ℕ → ℕ → ℕ × Group → Group
with_member meant seg q =
    if meant == q.0 && not (bytes_eq q.1.name (codes "FLAT")) then record q.1 { members = q.1.members ++ seg ∷ [] } else q.1

-- The greatest ends of the data of so many COMDATs.
abbrev pub ends_for : List Piece → ℕ → List ℕ
ends_for pieces count = map (greatest_end pieces) (range_with_len (COMDAT_BASE + 1) count)

-- A COMDAT's segment with the length of its place.
abbrev pub long_seg : List ℕ → ℕ × BegunComdat → Seg
long_seg lens q = record q.1.seg { len = get_or lens q.0 q.1.seg.len }

-- The segments of COMDATs, with their lengths, are after the old ones and in their groups.
pub record ArePlaced (old : List Seg) (old_groups : List Group) (lens : List ℕ) (begun : List BegunComdat) (p : Placed) : Type 0 where
  pub segs : p.segs ≡ old ++ map (long_seg lens) (enumerate_from 0 begun)
  pub groups : p.groups ≡ map (group_for (length old) begun) (enumerate_from 1 old_groups)
  pub comdats : p.comdats ≡ map comdat_for (numbered (length old) begun)
