-- The places of the names of an ordinal.
use Rattle.std.proofs.Common.{◌≡◌, ℕ, suc, ◌+◌, ◌<◌, ◌^◌, Bool, true, false, List, [], ◌∷◌, ◌++◌, length, map, take, length-append, length-take, refl, sym, subst, ap, ◌∙◌, append_assoc, arith}
use Rattle.std.specs.Prelude.{◌==◌, cond}
use Rattle.std.specs.List.{flat_map, AllByRecursion as Each}
use Rattle.std.proofs.lemmas.List.{take_more, map-append}
use Rattle.std.proofs.Math.Seq.{get_or-append_seam}
use Rattle.std.proofs.lemmas.Bool.{eqb-true}
use Rattle.lx_types.specs.declared.entry.EntryHead.{EntryHead}
use Rattle.lx_types.specs.declared.parts.Parts.{Parts}
use Rattle.implib_core.specs.declared.places.Places.{Places}
use Rattle.implib_model.specs.ModuleImports.{Named, names_of, named_entries, import_named, imports_named}
use Rattle.implib_core.specs.NamePlaces.{places_from, one_place, places_in, name_at, ArePlaces}

-- ---- one name more

by_front : (ordinal at : ℕ) (b : Bool) (ps qs : List ℕ) → cond b (at ∷ ps ++ qs) (ps ++ qs) ≡ cond b (at ∷ ps) ps ++ qs
by_front ordinal at true ps qs = refl
by_front ordinal at false ps qs = refl

places_append : (ordinal at : ℕ) (names : List Named) (n : Named) → places_from ordinal at (names ++ n ∷ []) ≡ places_from ordinal at names ++ one_place ordinal (at + length names) n.1
places_append ordinal at [] n = ap (λ (k : ℕ). one_place ordinal k n.1) (omega arith)
places_append ordinal at (m ∷ names) n =
    let moved : at + 1 + length names ≡ at + suc (length names) = omega arith in
    ap (λ (ps : List ℕ). cond (m.1 == ordinal) (at ∷ ps) ps) (places_append ordinal (at + 1) names n)
    ∙ by_front ordinal at (m.1 == ordinal) (places_from ordinal (at + 1) names) (one_place ordinal (at + 1 + length names) n.1)
    ∙ ap (λ (k : ℕ). places_from ordinal at (m ∷ names) ++ one_place ordinal k n.1) moved

pub place_more : (names : List Named) (i : ℕ) (old new : ℕ → List ℕ) → i < length names → ((o : ℕ) → old o ≡ places_from o 0 (take i names)) → ((o : ℕ) → new o ≡ old o ++ one_place o i (name_at names i).1) →
    (o : ℕ) → new o ≡ places_from o 0 (take (i + 1) names)
place_more names i old new there before more o =
    let size : 0 + length (take i names) ≡ i = omega (arith, length-take i names, there) in
    more o
    ∙ ap (λ (ps : List ℕ). ps ++ one_place o i (name_at names i).1) (before o)
    ∙ ap (λ (k : ℕ). places_from o 0 (take i names) ++ one_place o k (name_at names i).1) (sym size)
    ∙ sym (ap (places_from o 0) (take_more names i ([], 0) there) ∙ places_append o 0 (take i names) (name_at names i))

-- ---- what stands there

abbrev AreOf : List Named → ℕ → List ℕ → Type 0
AreOf names ordinal places = Each (λ p. (p < length names) × ((name_at names p).1 ≡ ordinal)) places

record Stands (names : List Named) (ordinal at : ℕ) (rest : List Named) : Type 0 where
  each : map (name_at names) (places_from ordinal at rest) ≡ names_of ordinal rest
  of : AreOf names ordinal (places_from ordinal at rest)

stand_by : (names : List Named) (ordinal at : ℕ) (n : Named) (rest : List Named) (b : Bool) → (n.1 == ordinal) ≡ b → at < length names → name_at names at ≡ n → Stands names ordinal (at + 1) rest →
    Stands names ordinal at (n ∷ rest)
stand_by names ordinal at n rest true is there here more = record {
  each =
      ap (λ (b : Bool). map (name_at names) (cond b (at ∷ places_from ordinal (at + 1) rest) (places_from ordinal (at + 1) rest))) is
      ∙ ap (λ (m : Named). m ∷ map (name_at names) (places_from ordinal (at + 1) rest)) here
      ∙ ap (λ (ms : List Named). n ∷ ms) more.each
      ∙ sym (ap (λ (b : Bool). cond b (n ∷ names_of ordinal rest) (names_of ordinal rest)) is);
  of = subst (λ (b : Bool). AreOf names ordinal (cond b (at ∷ places_from ordinal (at + 1) rest) (places_from ordinal (at + 1) rest))) (sym is)
      ((there, ap (λ (m : Named). m.1) here ∙ eqb-true n.1 ordinal is), more.of);
}
stand_by names ordinal at n rest false is there here more = record {
  each =
      ap (λ (b : Bool). map (name_at names) (cond b (at ∷ places_from ordinal (at + 1) rest) (places_from ordinal (at + 1) rest))) is
      ∙ more.each
      ∙ sym (ap (λ (b : Bool). cond b (n ∷ names_of ordinal rest) (names_of ordinal rest)) is);
  of = subst (λ (b : Bool). AreOf names ordinal (cond b (at ∷ places_from ordinal (at + 1) rest) (places_from ordinal (at + 1) rest))) (sym is) more.of;
}

stand : (before rest : List Named) (ordinal : ℕ) → Stands (before ++ rest) ordinal (length before) rest
stand before [] ordinal = record { each = refl; of = tt }
stand before (n ∷ rest) ordinal =
    let joined : (before ++ n ∷ []) ++ rest ≡ before ++ n ∷ rest = append_assoc before (n ∷ []) rest in
    let size : length (before ++ n ∷ []) ≡ length before + 1 = length-append before (n ∷ []) in
    let more : Stands (before ++ n ∷ rest) ordinal (length before + 1) rest =
    subst (λ (k : ℕ). Stands (before ++ n ∷ rest) ordinal k rest) size (subst (λ (ns : List Named). Stands ns ordinal (length (before ++ n ∷ [])) rest) joined (stand (before ++ n ∷ []) rest ordinal)) in
    stand_by (before ++ n ∷ rest) ordinal (length before) n rest (n.1 == ordinal) refl (omega (arith, length-append before (n ∷ rest))) (get_or-append_seam before n rest ([], 0)) more

stands : (names : List Named) (ordinal : ℕ) → Stands names ordinal 0 names
stands names ordinal = stand [] names ordinal

-- ---- all entries

abbrev pub Entries : Type 0
Entries = List (ℕ × EntryHead)

places_ok : (names : List Named) (ordinal : ℕ) (places : List ℕ) → ordinal < 2 ^ 16 → AreOf names ordinal places → ArePlaces names places
places_ok names ordinal [] short are = tt
places_ok names ordinal (p ∷ places) short are = ((are.0.0, omega (arith, are.0.1, short)), places_ok names ordinal places short are.1)

both_places : (names : List Named) (xs ys : List ℕ) → ArePlaces names xs → ArePlaces names ys → ArePlaces names (xs ++ ys)
both_places names [] ys a b = b
both_places names (x ∷ xs) ys a b = (a.0, both_places names xs ys a.1 b)

pub ordered_are : (names : List Named) (entries : Entries) → Each (λ e. (0 < e.0) × (e.0 < 2 ^ 16)) entries → ArePlaces names (flat_map (λ e. places_from e.0 0 names) entries)
ordered_are names [] short = tt
ordered_are names (e ∷ entries) short =
    both_places names (places_from e.0 0 names) (flat_map (λ f. places_from f.0 0 names) entries) (places_ok names e.0 (places_from e.0 0 names) short.0.1 (stands names e.0).of) (ordered_are names entries short.1)

pub ordered_names : (names : List Named) (entries : Entries) → map (name_at names) (flat_map (λ e. places_from e.0 0 names) entries) ≡ flat_map (λ e. names_of e.0 names) entries
ordered_names names [] = refl
ordered_names names (e ∷ entries) =
    map-append (name_at names) (places_from e.0 0 names) (flat_map (λ f. places_from f.0 0 names) entries)
    ∙ ap (λ (ns : List Named). ns ++ map (name_at names) (flat_map (λ f. places_from f.0 0 names) entries)) (stands names e.0).each
    ∙ ap (λ (ns : List Named). names_of e.0 names ++ ns) (ordered_names names entries)

map_map : {A B C : Type 0} (f : A → B) (g : B → C) (xs : List A) → map (λ x. g (f x)) xs ≡ map g (map f xs)
map_map f g [] = refl
map_map {A} {B} {C} f g (x ∷ xs) = ap (λ (ys : List C). g (f x) ∷ ys) (map_map f g xs)

-- The places of a table are those of its names.
pub same_order : (p : Places) (names : List Named) (entries : Entries) → ((o : ℕ) → places_in p o ≡ places_from o 0 names) → flat_map (λ e. places_in p e.0) entries ≡ flat_map (λ e. places_from e.0 0 names) entries
same_order p names [] are = refl
same_order p names (e ∷ entries) are =
    ap (λ (ps : List ℕ). ps ++ flat_map (λ f. places_in p f.0) entries) (are e.0) ∙ ap (λ (ps : List ℕ). places_from e.0 0 names ++ ps) (same_order p names entries are)

pub imports_are : (m : Parts) (from : List ℕ) (order : List ℕ) → from ≡ m.name → order ≡ flat_map (λ e. places_from e.0 0 m.names) m.entries → map (λ p. import_named from (name_at m.names p)) order ≡ imports_named m
imports_are m from order name is =
    map_map (name_at m.names) (import_named from) order
    ∙ ap (λ (ps : List ℕ). map (import_named from) (map (name_at m.names) ps)) is
    ∙ ap (map (import_named from)) (ordered_names m.names m.entries)
    ∙ ap (λ (f : List ℕ). map (import_named f) (named_entries m)) name
