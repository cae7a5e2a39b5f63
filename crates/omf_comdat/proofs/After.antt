-- The segments of COMDATs put after the others, one at a time, and what a module is with them.
use Rattle.std.proofs.Common.{◌≡◌, ℕ, ◌+◌, ◌<◌, List, [], ◌∷◌, ◌++◌, length, map, get_or, refl, sym, ap, ◌∙◌, arith, append_assoc, length-append}
use Rattle.std.specs.List.{enumerate_from}
use Rattle.std.proofs.lemmas.List.{append-nil, length-map, map-append}
use Rattle.std.proofs.lemmas.List.FromFn.{length-enumerate_from, get_or-map-range_with_len}
use Rattle.obj_types.specs.declared.object.Seg.{Seg}
use Rattle.obj_types.specs.declared.object.Group.{Group}
use Rattle.obj_types.specs.declared.object.Piece.{Piece}
use Rattle.obj_types.specs.declared.object.Comdat.{Comdat}
use Rattle.obj_types.specs.declared.object.ObjModule.{ObjModule}
use Rattle.obj_types.specs.declared.parts.BegunComdat.{BegunComdat}
use Rattle.obj_types.specs.declared.parts.ObjParts.{ObjParts}
use Rattle.obj_types.specs.declared.parts.TheConstants.{COMDAT_BASE}
use Rattle.omf_model.specs.Finished.{public_for, piece_for, fix_for, greatest_end, seg_for, numbered, comdat_for, finished}
use Rattle.omf_model.proofs.NumberLaws.{enumerate-snoc}
use Rattle.omf_comdat.specs.declared.finish.Placed.{Placed}
use Rattle.omf_comdat.specs.Finishing.{with_member, ends_for, long_seg, ArePlaced}
use Rattle.omf_comdat.proofs.Members.{groups-more, groups-none}

pub none-placed : (old : List Seg) (groups : List Group) (lens : List ℕ) → ArePlaced old groups lens [] (record { segs = old; groups = groups; comdats = [] })
none-placed old groups lens = record { segs = sym (append-nil old); groups = groups-none (length old) 1 groups; comdats = refl }

pub one-placed : (old : List Seg) (groups : List Group) (lens : List ℕ) (before : List BegunComdat) (p : Placed) (x : BegunComdat) (place seg : ℕ) (segs : List Seg) → ArePlaced old groups lens before p
    → place ≡ length p.comdats → segs ≡ p.segs ++ long_seg lens (place, x) ∷ [] → seg ≡ length segs
    → ArePlaced old groups lens (before ++ x ∷ []) (record { segs = segs; groups = map (with_member x.group seg) (enumerate_from 1 p.groups); comdats = p.comdats ++ (record { name = x.name; seg = seg; selection = x.selection }) ∷ [] })
one-placed old groups lens before p x place seg segs h at more is =
    let here : place ≡ 0 + length before = omega (
      arith,
      at,
      ap (λ (cs : List Comdat). length cs) h.comdats,
      length-map (numbered (length old) before) comdat_for,
      length-enumerate_from (length old + 1) before,
    ) in
    let last : map (long_seg lens) (enumerate_from 0 (before ++ x ∷ [])) ≡ map (long_seg lens) (enumerate_from 0 before) ++ long_seg lens (place, x) ∷ [] =
    ap (map (long_seg lens)) (enumerate-snoc 0 place before x here) ∙ map-append (long_seg lens) (enumerate_from 0 before) ((place, x) ∷ []) in
    let after : segs ≡ old ++ map (long_seg lens) (enumerate_from 0 (before ++ x ∷ [])) =
    more ∙ ap (λ (ss : List Seg). ss ++ long_seg lens (place, x) ∷ []) h.segs ∙ append_assoc old (map (long_seg lens) (enumerate_from 0 before)) (long_seg lens (place, x) ∷ []) ∙ ap (λ (ss : List Seg). old ++ ss) (sym last) in
    let number : seg ≡ length old + 1 + length before = omega (
      arith,
      is,
      ap (λ (ss : List Seg). length ss) after,
      length-append old (map (long_seg lens) (enumerate_from 0 (before ++ x ∷ []))),
      length-map (enumerate_from 0 (before ++ x ∷ [])) (long_seg lens),
      length-enumerate_from 0 (before ++ x ∷ []),
      length-append before (x ∷ []),
    ) in
    record {
      segs = after;
      groups = ap (λ (gs : List Group). map (with_member x.group seg) (enumerate_from 1 gs)) h.groups ∙ groups-more (length old) seg 1 before x groups number;
      comdats =
          ap (λ (cs : List Comdat). cs ++ (record { name = x.name; seg = seg; selection = x.selection }) ∷ []) h.comdats
          ∙ sym (ap (map comdat_for) (enumerate-snoc (length old + 1) seg before x number) ∙ map-append comdat_for (numbered (length old) before) ((seg, x) ∷ []));
    }

-- ---- the module

-- the lengths from place m on are those of the numbers from a on
long-segs : (pieces : List Piece) (lens : List ℕ) (a m : ℕ) (bs : List BegunComdat) → ((k i j d : ℕ) → k < length bs → i ≡ m + k → j ≡ a + k → get_or lens i d ≡ greatest_end pieces j) → map (long_seg lens) (enumerate_from m bs) ≡ map (seg_for pieces) (enumerate_from a bs)
long-segs pieces lens a m [] h = refl
long-segs pieces lens a m (b ∷ bs) h =
    let first : long_seg lens (m, b) ≡ seg_for pieces (a, b) = λ i. record b.seg { len = h 0 m a b.seg.len (omega arith) (omega arith) (omega arith) i } in
    let rest = long-segs pieces lens (a + 1) (m + 1) bs (λ k i j d lt at is. h (k + 1) i j d (omega (arith, lt)) (omega (arith, at)) (omega (arith, is))) in
    λ i. first i ∷ rest i

abbrev with_own : ObjParts → Placed → ObjModule
with_own p own = record p.module {
  segs = own.segs;
  groups = own.groups;
  pubs = map (public_for (length p.module.segs)) p.module.pubs;
  pieces = map (piece_for (length p.module.segs)) p.module.pieces;
  fixes = map (fix_for (length p.module.segs)) p.module.fixes;
  comdats = own.comdats;
}

pub finished-is : (p : ObjParts) (lens : List ℕ) (own : Placed) → lens ≡ ends_for p.module.pieces (length p.comdats) → ArePlaced p.module.segs p.module.groups lens p.comdats own → with_own p own ≡ finished p
unfolding finished
finished-is p lens own are h =
    let ends : ℕ → ℕ = greatest_end p.module.pieces in
    let long = long-segs p.module.pieces lens (COMDAT_BASE + 1) 0 p.comdats λ k i j d lt at is.
    ap (λ (ns : List ℕ). get_or ns i d) are ∙ get_or-map-range_with_len ends (COMDAT_BASE + 1) (length p.comdats) i j d (omega (arith, lt, at)) (omega (arith, at, is)) in
    let segs = h.segs ∙ ap (λ (ss : List Seg). p.module.segs ++ ss) long in
    λ i. record (with_own p own) { segs = segs i; groups = h.groups i; comdats = h.comdats i }
