-- The module that an unfinished one without COMDATs is at its end: it is that very module.
use Rattle.std.proofs.Common.{◌≡◌, ℕ, zero, suc, ◌+◌, ◌<◌, ◌≤◌, Bool, true, false, cond, List, [], ◌∷◌, ◌++◌, length, map, refl, sym, ap, arith}
use Rattle.std.specs.Prelude.{IsSomeAnd, bytes_eq, codes, slice_get}
use Rattle.std.specs.List.{All, AllByRecursion, enumerate_from}
use Rattle.std.proofs.lemmas.List.{append-nil}
use Rattle.std.proofs.lemmas.Bool.{le-leb}
use Rattle.std.proofs.lemmas.List.Elements.{recursion_from_All, All-weaker}
use Rattle.obj_types.specs.declared.object.Seg.{Seg}
use Rattle.obj_types.specs.declared.object.Group.{Group}
use Rattle.obj_types.specs.declared.object.Piece.{Piece}
use Rattle.obj_types.specs.declared.object.FixAt.{FixAt}
use Rattle.obj_types.specs.declared.object.ObjModule.{ObjModule}
use Rattle.obj_types.specs.declared.symbol.Pub.{Pub}
use Rattle.obj_types.specs.declared.symbol.PubPlace.{PubPlace}
use Rattle.obj_types.specs.declared.symbol.PubPlace.TheVariants.{In, Const}
use Rattle.obj_types.specs.declared.parts.ObjParts.{ObjParts}
use Rattle.obj_types.specs.declared.parts.TheConstants.{COMDAT_BASE}
use Rattle.obj_types.specs.Items.{item}
use Rattle.obj_types.specs.Whole.{WholePlace, WholeFix, LiesIn, WholeModule}
use Rattle.omf_model.specs.Finished.{index_for, place_for, public_for, piece_for, fix_for, group_for, finished}

-- ---- numbers that are indices

pub index-same : (segs i : ℕ) → i ≤ COMDAT_BASE → index_for segs i ≡ i
index-same segs i low = rw (le-leb i COMDAT_BASE low) refl

abbrev IsLow : PubPlace → Type 0
IsLow (In seg offset) = seg ≤ COMDAT_BASE
IsLow (Const value) = Unit {0}

place-same : (segs : ℕ) (p : PubPlace) → IsLow p → place_for segs p ≡ p
place-same segs (In seg offset) low = ap (λ (i : ℕ). In i offset) (index-same segs seg low)
place-same segs (Const value) low = refl

public-same : (segs : ℕ) (p : Pub) → IsLow p.place → public_for segs p ≡ p
public-same segs p low = λ i. record p { place = place-same segs p.place low i }

piece-same : (segs : ℕ) (p : Piece) → p.seg ≤ COMDAT_BASE → piece_for segs p ≡ p
piece-same segs p low = λ i. record p { seg = index-same segs p.seg low i }

fix-same : (segs : ℕ) (f : FixAt) → f.seg ≤ COMDAT_BASE → fix_for segs f ≡ f
fix-same segs f low = λ i. record f { seg = index-same segs f.seg low i }

map-same : {A : Type 0} (f : A → A) (P : A → Type 0) → ((x : A) → P x → f x ≡ x) → (xs : List A) → AllByRecursion P xs → map f xs ≡ xs
map-same f P same [] h = refl
map-same f P same (x ∷ xs) h = λ i. same x h.0 i ∷ map-same f P same xs h.1 i

-- ---- groups that nothing is put into

group-same : (segs n : ℕ) (g : Group) → group_for segs [] (n, g) ≡ g
group-same segs n g = by (bytes_eq g.name (codes "FLAT"))
  where
    by : (flat : Bool) → cond flat g (record g { members = g.members ++ [] }) ≡ g
    by true = refl
    by false = λ i. record g { members = append-nil g.members i }

groups-same : (segs n : ℕ) (gs : List Group) → map (group_for segs []) (enumerate_from n gs) ≡ gs
groups-same segs n [] = refl
groups-same segs n (g ∷ gs) = λ i. group-same segs n g i ∷ groups-same segs (n + 1) gs i

-- ---- the module

-- Whatever is named by number is named by index.
pub record NamesByIndex (m : ObjModule) : Type 0 where
  pub pubs : AllByRecursion (λ (p : Pub). IsLow p.place) m.pubs
  pub pieces : AllByRecursion (λ (p : Piece). p.seg ≤ COMDAT_BASE) m.pieces
  pub fixes : AllByRecursion (λ (f : FixAt). f.seg ≤ COMDAT_BASE) m.fixes

pub finished-same : (p : ObjParts) → p.comdats ≡ [] → p.module.comdats ≡ [] → NamesByIndex p.module → finished p ≡ p.module
unfolding finished
finished-same p none no_comdats by_index = rw none (λ i. record p.module {
  segs = append-nil p.module.segs i;
  groups = groups-same (length p.module.segs) 1 p.module.groups i;
  pubs = map-same (public_for (length p.module.segs)) _ (public-same (length p.module.segs)) p.module.pubs by_index.pubs i;
  pieces = map-same (piece_for (length p.module.segs)) _ (piece-same (length p.module.segs)) p.module.pieces by_index.pieces i;
  fixes = map-same (fix_for (length p.module.segs)) _ (fix-same (length p.module.segs)) p.module.fixes by_index.fixes i;
  comdats = sym no_comdats i;
})

-- ---- a whole module has indices alone

pub after : {A : Type 0} (P : A → Type 0) (xs : List A) (i : ℕ) → IsSomeAnd (slice_get xs i) P → i < length xs
after P [] i h = absurd h
after P (x ∷ xs) zero h = omega arith
after P (x ∷ xs) (suc i) h = omega (arith, after P xs i h)

pub in-bounds : {A : Type 0} (P : A → Type 0) (xs : List A) (i : ℕ) → IsSomeAnd (item xs i) P → i ≤ length xs
in-bounds P xs zero h = omega arith
in-bounds P xs (suc i) h = omega (arith, after P xs i h)

index-there : (m : ObjModule) → length m.segs ≤ COMDAT_BASE → (i : ℕ) (P : Seg → Type 0) → IsSomeAnd (item m.segs i) P → i ≤ COMDAT_BASE
index-there m few i P h = omega (arith, few, in-bounds P m.segs i h)

place-low : (m : ObjModule) → length m.segs ≤ COMDAT_BASE → (q : PubPlace) → WholePlace m q → IsLow q
place-low m few (In seg offset) h = index-there m few seg _ h
place-low m few (Const value) h = tt

all-of : {A : Type 0} (P Q : A → Type 0) → ((x : A) → P x → Q x) → (xs : List A) → All P xs → AllByRecursion Q xs
all-of P Q weaker xs h = recursion_from_All Q xs (All-weaker P Q weaker xs h)

whole-by_index : (m : ObjModule) → WholeModule m → length m.segs ≤ COMDAT_BASE → NamesByIndex m
whole-by_index m whole few = record {
  pubs = all-of (λ (p : Pub). WholePlace m p.place) (λ (p : Pub). IsLow p.place) (λ p h. place-low m few p.place h) m.pubs whole.pubs;
  pieces = all-of (λ (p : Piece). LiesIn m p.seg p.offset (length p.bytes)) (λ (p : Piece). p.seg ≤ COMDAT_BASE) (λ p h. index-there m few p.seg _ h) m.pieces whole.pieces;
  fixes = all-of (WholeFix m) (λ (f : FixAt). f.seg ≤ COMDAT_BASE) (λ f h. index-there m few f.seg _ h.place) m.fixes whole.fixes;
}

pub finished-whole : (p : ObjParts) → p.comdats ≡ [] → p.module.comdats ≡ [] → WholeModule p.module → length p.module.segs ≤ COMDAT_BASE → finished p ≡ p.module
finished-whole p none no_comdats whole few = finished-same p none no_comdats (whole-by_index p.module whole few)
