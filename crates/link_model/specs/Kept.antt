-- What a link sees of COMDATs: of each name that COMDATs share, the first one of the input stays a segment with a public,
-- and all others are taken out. "C2h COMDAT".
--
-- Only an input's order decides which one is the first, before any module is chosen.
use Rattle.std.specs.Prelude.{ℕ, Bool, false, not, ◌||◌, ◌&&◌, List, [], ◌∷◌, ◌++◌, map, filter, if◌then◌else◌, ◌==◌, bytes_eq}
use Rattle.std.specs.List.{list_any, flat_map, enumerate_from}
use Rattle.obj_types.specs.declared.object.Seg.{Seg}
use Rattle.obj_types.specs.declared.object.Group.{Group}
use Rattle.obj_types.specs.declared.object.Comdat.{Comdat}
use Rattle.obj_types.specs.declared.object.ObjModule.{ObjModule}
use Rattle.obj_types.specs.declared.symbol.PubPlace.{PubPlace}
use Rattle.obj_types.specs.declared.symbol.PubPlace.TheVariants.{In, Const}
use Rattle.obj_types.specs.declared.input.LinkInput.{LinkInput}
use Rattle.obj_types.specs.Whole.{is_in_seg}

-- ---- names that COMDATs share

-- A COMDAT is local where its public is.
abbrev pub is_local : ObjModule → Comdat → Bool
is_local m c = list_any (λ p. p.local && is_in_seg c.seg p.place) m.pubs

abbrev pub shared : ObjModule → List Comdat
shared m = filter (λ c. not (is_local m c)) m.comdats

-- A COMDAT has this name.
abbrev pub is_called : List ℕ → Comdat → Bool
is_called name c = bytes_eq name c.name

-- The COMDATs whose names earlier ones have; `earlier` are those before the list.
abbrev pub repeated : List Comdat → List Comdat → List Comdat
repeated earlier [] = []
repeated earlier (c ∷ cs) =
    if list_any (is_called c.name) earlier then c ∷ repeated (earlier ++ c ∷ []) cs else repeated (earlier ++ c ∷ []) cs

-- The COMDATs of a module whose names a COMDAT of an earlier module, or an earlier one of its own, has.
abbrev pub taken : List ObjModule → ObjModule → List Comdat
taken before m = repeated (flat_map shared before) (shared m)

abbrev pub is_seg_of : List Comdat → ℕ → Bool
is_seg_of cs i = list_any (λ c. c.seg == i) cs

-- ---- a module without some of its segments: those with these indices

-- A segment that is taken out is as one of debug data.
abbrev pub seg_without : (ℕ → Bool) → ℕ → Seg → Seg
seg_without gone i s = record s { debug = s.debug || gone i }

abbrev pub group_without : (ℕ → Bool) → Group → Group
group_without gone g = record g { members = filter (λ i. not (gone i)) g.members }

abbrev pub is_place_in : (ℕ → Bool) → PubPlace → Bool
is_place_in gone (In seg offset) = gone seg
is_place_in gone (Const value) = false

-- Without their publics, their data and the fixups on it. The COMDATs that stay are segments like all, so no list of
-- COMDATs is left.
abbrev pub without : (ℕ → Bool) → ObjModule → ObjModule
without gone m = record m {
  segs = map (λ q. seg_without gone q.0 q.1) (enumerate_from 1 m.segs);
  groups = map (group_without gone) m.groups;
  pubs = filter (λ p. not (is_place_in gone p.place)) m.pubs;
  pieces = filter (λ p. not (gone p.seg)) m.pieces;
  fixes = filter (λ f. not (gone f.seg)) m.fixes;
  comdats = [];
}

-- ---- an input

abbrev pub kept_module : List ObjModule → ObjModule → ObjModule
kept_module before m = without (is_seg_of (taken before m)) m

-- Modules after others.
abbrev pub kept_after : List ObjModule → List ObjModule → List ObjModule
kept_after before [] = []
kept_after before (m ∷ ms) = kept_module before m ∷ kept_after (before ++ m ∷ []) ms

unfoldable pub Kept : LinkInput → LinkInput
Kept input = record input {
  objects = kept_after [] input.objects;
  libs = kept_after input.objects input.libs;
}
