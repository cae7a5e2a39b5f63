-- What good records keep: the module so far is whole, and so are the threads and the last data.
use Rattle.std.proofs.Common.{◌≡◌, ◌≢◌, ℕ, ◌+◌, ◌≤◌, Bool, true, false, cond, eqb, List, [], ◌∷◌, length, map, refl, sym, ap, subst, arith, inl, inr}
use Rattle.std.specs.Prelude.{codes, bytes_eq}
use Rattle.std.specs.List.{AllByRecursion, sum_by}
use Rattle.std.proofs.lemmas.Bool.{leb-true, eqb-false, not-true}
use Rattle.lx_types.proofs.Lists.{all_weaker}
use Rattle.obj_types.specs.declared.limits.TheConstants.{MAX_DATA}
use Rattle.obj_types.specs.declared.object.Piece.{Piece}
use Rattle.obj_types.specs.declared.symbol.Pub.{Pub}
use Rattle.obj_types.specs.declared.symbol.PubPlace.{PubPlace}
use Rattle.obj_types.specs.declared.symbol.PubPlace.TheVariants.{In, Const}
use Rattle.obj_types.specs.declared.symbol.Imp.{Imp}
use Rattle.obj_types.specs.declared.parts.LastData.{LastData}
use Rattle.obj_types.specs.declared.parts.ObjParts.{ObjParts}
use Rattle.obj_types.specs.declared.parts.TheConstants.{COMDAT_BASE}
use Rattle.obj_types.specs.Whole.{WholeSeg, IsPlainSeg, LiesIn, WholeGroup, WholeExp}
use Rattle.omf_model.specs.Blocks.{Blocks, block_bytes, expanded, expanded_len}
use Rattle.omf_model.specs.ReadBlocks.{blocks_in}
use Rattle.omf_model.specs.Record.{Record, impdef, expdef, segdef, grpdef, pubdef, ledata, lidata, comdat, align_of, combine_of, PubDef, are_attributes}
use Rattle.omf_model.specs.Items.{name_with, segs_in, groups_in, pub_of, pubs_in, imports_in, exports_in, is_debug_seg, pieces_in, datas_in, data_so_far}
use Rattle.omf_model.specs.AddLists.{begun_so_far}
use Rattle.omf_model.specs.Begun.{LiesAt, LastFits}
use Rattle.omf_model.specs.Good.{GoodMember, GoodData, GoodAfter}
use Rattle.omf_model.proofs.DataLaws.{bool_cases}
use Rattle.omf_model.proofs.FixLaws.{and_true}
use Rattle.omf_model.proofs.PairLaws.{all-at}
use Rattle.omf_model.proofs.CopyLaws.{length-expanded}
use Rattle.omf_model.proofs.BlockLaws.{blocks_in-bytes}

-- ---- what a good record gives is whole

from_attributes : (a : ℕ) → are_attributes a ≡ true → (align_of a ≤ 5) × (combine_of a ≢ 1) × (combine_of a ≢ 3)
from_attributes a e =
    let x = and_true _ _ e in
    let y = and_true _ _ x.0 in
    (leb-true _ _ y.0, eqb-false _ _ (not-true _ y.1), eqb-false _ _ (not-true _ x.1))

pub segs-whole : (p : ObjParts) (r : Record) → GoodAfter p r → AllByRecursion WholeSeg (segs_in p.names r)
segs-whole p (segdef d) g =
    let a = from_attributes d.attributes g.attributes in
    (record { align = a.0; combine = omega arith; not_reserved = (a.1, a.2) }, tt)
segs-whole p r g = tt

flat_or_not : (b : Bool) (members : List ℕ) (P : ℕ → Type 0) → AllByRecursion (λ i. b ≡ false → P i) members → AllByRecursion P (cond b [] members)
flat_or_not true members P h = tt
flat_or_not false members P h = all_weaker (λ i. false ≡ false → P i) P (λ i k. k refl) members h

is_flat : (b : Bool) (members : List ℕ) → b ≡ true → cond b [] members ≡ []
is_flat true members e = refl
is_flat false members e = absurd cc

member_plain : (p : ObjParts) (n : ℕ) (members : List ℕ) → AllByRecursion (GoodMember p n) members → AllByRecursion (λ i. bytes_eq (name_with p.names n) (codes "FLAT") ≡ false → IsPlainSeg p.module i) members
member_plain p n members h = all_weaker (GoodMember p n) _ (λ i k. k.1) members h

pub groups-whole : (p : ObjParts) (r : Record) → GoodAfter p r → AllByRecursion (WholeGroup p.module) (groups_in p.names r)
groups-whole p (grpdef n members) g =
    let text : List ℕ = name_with p.names n in (
      record {
        members = all-at (IsPlainSeg p.module) _ (flat_or_not (bytes_eq text (codes "FLAT")) members (IsPlainSeg p.module) (member_plain p n members g.1));
        flat = λ is. is_flat (bytes_eq text (codes "FLAT")) members (ap (λ (xs : List ℕ). bytes_eq xs (codes "FLAT")) is);
      },
      tt,
    )
groups-whole p r g = tt

-- no COMDAT
abbrev pub IsOther : Record → Type 0
IsOther (comdat d) = ⊥
IsOther r = Unit {0}

-- a public in a segment of an index
abbrev pub IsIndexed : ObjParts → PubPlace → Type 0
IsIndexed p (In seg offset) = (seg ≤ COMDAT_BASE) × IsPlainSeg p.module seg
IsIndexed p (Const value) = Unit {0}

abbrev pub PubIndexed : ObjParts → Pub → Type 0
PubIndexed p q = IsIndexed p q.place

pub_whole : (p : ObjParts) (local : Bool) (segment : ℕ) (defs : List PubDef) → (segment ≢ 0 → IsPlainSeg p.module segment) → segment ≤ COMDAT_BASE → AllByRecursion (PubIndexed p) (map (pub_of local segment) defs)
pub_whole p local segment [] h small = tt
pub_whole p local segment (d ∷ defs) h small = (
  elim (bool_cases (eqb segment 0)) [
    | inl z ↦ rw z tt
    | inr n ↦ rw n (small, h (λ e. eqb-false _ _ n e))
  ],
  pub_whole p local segment defs h small,
)

pub pubs-whole : (p : ObjParts) (r : Record) → GoodAfter p r → IsOther r → AllByRecursion (PubIndexed p) (pubs_in p.names (begun_so_far p) r)
pubs-whole p (pubdef local group segment frame defs) g other = pub_whole p local segment defs g.in_segment g.index
pubs-whole p (comdat d) g other = absurd other
pubs-whole p r g other = tt

abbrev pub HasModule : Imp → Type 0
HasModule i = i.module ≢ []

pub imports-whole : (p : ObjParts) (r : Record) → GoodAfter p r → AllByRecursion HasModule (imports_in r)
imports-whole p (impdef d) g = (g, tt)
imports-whole p r g = tt

pub exports-whole : (p : ObjParts) (r : Record) → GoodAfter p r → AllByRecursion WholeExp (exports_in r)
exports-whole p (expdef d) g = ((g, omega arith), tt)
exports-whole p r g = tt

-- ---- data

abbrev pub PieceIn : ObjParts → Piece → Type 0
PieceIn p q = LiesAt p q.seg q.offset (length q.bytes)

abbrev pub pieces_by : ObjParts → Record → List Piece
pieces_by p r = pieces_in p.names p.module.segs (begun_so_far p) r

abbrev pub datas_by : ObjParts → Record → List LastData
datas_by p r = datas_in p.names p.module.segs (begun_so_far p) r

-- what data records give: their pieces lie in their segments, keep the limit, and are what comes last
pub record DataWhole (p : ObjParts) (r : Record) : Type 0 where
  pub pieces : AllByRecursion (PieceIn p) (pieces_by p r)
  pub limit : data_so_far p ≤ MAX_DATA → data_so_far p + sum_by (λ (q : Piece). length q.bytes) (pieces_by p r) ≤ MAX_DATA
  pub last : AllByRecursion (LastFits p) (datas_by p r)

no_data : (p : ObjParts) (r : Record) → pieces_by p r ≡ [] → datas_by p r ≡ [] → DataWhole p r
no_data p r e d = record {
  pieces = subst (AllByRecursion (PieceIn p)) (sym e) tt;
  limit = λ h. subst (λ (qs : List Piece). data_so_far p + sum_by (λ (q : Piece). length q.bytes) qs ≤ MAX_DATA) (sym e) (omega (arith, h));
  last = subst (AllByRecursion (LastFits p)) (sym d) tt;
}

ledata-whole : (p : ObjParts) (segment offset : ℕ) (content : List ℕ) → GoodData p segment offset (length content) → DataWhole p (ledata segment offset content)
ledata-whole p segment offset content g =
    elim (bool_cases (is_debug_seg p.module.segs segment)) [
      | inl h ↦ record { pieces = rw h tt; limit = λ k. rw h (omega (arith, k)); last = rw h (tt, tt) }
      | inr h ↦
          let w = g.place h in
          let lies : LiesAt p segment offset (length content) = inl (g.index, w.range) in
          record { pieces = rw h (lies, tt); limit = λ k. rw h (omega (arith, w.limit)); last = rw h (lies, tt) }
    ]

lidata-whole : (p : ObjParts) (wide : Bool) (segment offset : ℕ) (blocks : Blocks) → GoodAfter p (lidata wide segment offset blocks) → DataWhole p (lidata wide segment offset blocks)
lidata-whole p wide segment offset blocks g =
    elim (bool_cases (is_debug_seg p.module.segs segment)) [
      | inl h ↦ record { pieces = rw h tt; limit = λ k. rw h (omega (arith, k)); last = rw h (tt, tt) }
      | inr h ↦
          let w = g.1.place h in
          let long = length-expanded blocks in
          let range : LiesIn p.module segment offset (length (expanded blocks)) = subst (λ (n : ℕ). LiesIn p.module segment offset n) (sym long) w.range in
          let lies : LiesAt p segment offset (length (expanded blocks)) = inl (g.1.index, range) in
          let last : LiesIn p.module segment offset (expanded_len (blocks_in wide (block_bytes wide blocks))) =
          subst (λ (b : Blocks). LiesIn p.module segment offset (expanded_len b)) (sym (blocks_in-bytes wide blocks g.0)) w.range in
          record { pieces = rw h (lies, tt); limit = λ k. rw h (omega (arith, w.limit, long)); last = rw h ((g.1.index, last), tt) }
    ]

pub data-whole : (p : ObjParts) (r : Record) → GoodAfter p r → IsOther r → DataWhole p r
data-whole p (ledata segment offset content) g other = ledata-whole p segment offset content g
data-whole p (lidata wide segment offset blocks) g other = lidata-whole p wide segment offset blocks g
data-whole p (comdat d) g other = absurd other
data-whole p r g other = no_data p r refl refl
