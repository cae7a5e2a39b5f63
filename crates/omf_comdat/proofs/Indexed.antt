-- A module without COMDATs: what it names by number it names by index.
use Rattle.std.proofs.Common.{◌≡◌, ℕ, ◌≤◌, List, [], ◌∷◌, length, map, refl, sym, ap, subst, ◌∙◌, arith, inl, inr}
use Rattle.std.specs.List.{All, AllByRecursion}
use Rattle.std.proofs.lemmas.List.Elements.{recursion_from_All}
use Rattle.obj_types.specs.declared.object.Piece.{Piece}
use Rattle.obj_types.specs.declared.object.FixAt.{FixAt}
use Rattle.obj_types.specs.declared.symbol.Pub.{Pub}
use Rattle.obj_types.specs.declared.symbol.PubPlace.{PubPlace}
use Rattle.obj_types.specs.declared.symbol.PubPlace.TheVariants.{In, Const}
use Rattle.obj_types.specs.declared.parts.BegunComdat.{BegunComdat}
use Rattle.obj_types.specs.declared.parts.ObjParts.{ObjParts}
use Rattle.obj_types.specs.declared.parts.TheConstants.{COMDAT_BASE}
use Rattle.obj_types.specs.Location.{location_len}
use Rattle.omf_model.specs.Begun.{IsComdat, IsNumber, IsNumbered, LiesAt, IsWholeSoFar}
use Rattle.omf_model.specs.Finished.{place_for, public_for, piece_for, fix_for, finished}
use Rattle.omf_model.proofs.EndLaws.{index-same}
use Rattle.omf_comdat.specs.Finishing.{ends_for, ArePlaced}
use Rattle.omf_comdat.specs.declared.finish.Placed.{Placed}
use Rattle.omf_comdat.proofs.After.{finished-is, none-placed}

no-comdat : (p : ObjParts) (number : ℕ) → p.comdats ≡ [] → IsComdat p number → number ≤ COMDAT_BASE
no-comdat p number none h = omega (arith, ap (λ (bs : List BegunComdat). length bs) none, h.1)

number-low : (p : ObjParts) (number : ℕ) → p.comdats ≡ [] → IsNumber p number → number ≤ COMDAT_BASE
number-low p number none (inl h) = h.0
number-low p number none (inr h) = no-comdat p number none h

lies-low : (p : ObjParts) (number offset len : ℕ) → p.comdats ≡ [] → LiesAt p number offset len → number ≤ COMDAT_BASE
lies-low p number offset len none (inl h) = h.0
lies-low p number offset len none (inr h) = no-comdat p number none h.comdat

place-kept : (p : ObjParts) (segs : ℕ) (q : PubPlace) → p.comdats ≡ [] → IsNumbered p q → place_for segs q ≡ q
place-kept p segs (In seg offset) none h = ap (λ (i : ℕ). In i offset) (index-same segs seg (number-low p seg none h))
place-kept p segs (Const value) none h = refl

public-kept : (p : ObjParts) (segs : ℕ) → p.comdats ≡ [] → (q : Pub) → IsNumbered p q.place → public_for segs q ≡ q
public-kept p segs none q h = λ i. record q { place = place-kept p segs q.place none h i }

piece-kept : (p : ObjParts) (segs : ℕ) → p.comdats ≡ [] → (q : Piece) → LiesAt p q.seg q.offset (length q.bytes) → piece_for segs q ≡ q
piece-kept p segs none q h = λ i. record q { seg = index-same segs q.seg (lies-low p q.seg q.offset (length q.bytes) none h) i }

fix-kept : (p : ObjParts) (segs : ℕ) → p.comdats ≡ [] → (f : FixAt) → LiesAt p f.seg f.offset (location_len f.loc) → fix_for segs f ≡ f
fix-kept p segs none f h = λ i. record f { seg = index-same segs f.seg (lies-low p f.seg f.offset (location_len f.loc) none h) i }

map-kept : {A : Type 0} (f : A → A) (P : A → Type 0) → ((x : A) → P x → f x ≡ x) → (xs : List A) → AllByRecursion P xs → xs ≡ map f xs
map-kept f P same [] h = refl
map-kept f P same (x ∷ xs) h = λ i. sym (same x h.0) i ∷ map-kept f P same xs h.1 i

all-kept : {A : Type 0} (f : A → A) (P : A → Type 0) → ((x : A) → P x → f x ≡ x) → (xs : List A) → All P xs → xs ≡ map f xs
all-kept f P same xs h = map-kept f P same xs (recursion_from_All P xs h)

-- No segment is put after the others, and no number becomes an index.
pub without-comdats : (p : ObjParts) → p.comdats ≡ [] → IsWholeSoFar p → record p.module { comdats = [] } ≡ finished p
without-comdats p none h =
    let n : ℕ = length p.module.segs in
    let own : Placed = record { segs = p.module.segs; groups = p.module.groups; comdats = [] } in
    let pubs = all-kept (public_for n) (λ (q : Pub). IsNumbered p q.place) (public-kept p n none) p.module.pubs h.pubs in
    let pieces = all-kept (piece_for n) (λ (q : Piece). LiesAt p q.seg q.offset (length q.bytes)) (piece-kept p n none) p.module.pieces h.pieces in
    let fixes = all-kept (fix_for n) (λ (f : FixAt). LiesAt p f.seg f.offset (location_len f.loc)) (fix-kept p n none) p.module.fixes h.fixes in
    (λ i. record p.module { pubs = pubs i; pieces = pieces i; fixes = fixes i; comdats = [] })
    ∙ finished-is p [] own (ap (λ (bs : List BegunComdat). ends_for p.module.pieces (length bs)) (sym none))
    (subst (λ (bs : List BegunComdat). ArePlaced p.module.segs p.module.groups [] bs own) (sym none) (none-placed p.module.segs p.module.groups []))
