-- What the imports, the exports and the places of a link have.
use Rattle.std.specs.Prelude.{◌≡◌, ◌≢◌, ℕ, ◌+◌, ◌<◌, ◌≤◌, ◌^◌, Bool, true, false, cond, ◌||◌, not, nat_lt, List, [], ◌∷◌, Option, Some, None, map, filter, is_some, unwrap_or, sum_by, refl}
use Rattle.std.specs.List.{All, AllByRecursion, flat_map, filter_map, enumerate_from, list_any}
use Rattle.std.specs.Option.{option_map}
use Rattle.std.proofs.Common.{ap, sym, ◌∙◌, arith, subst, true≢false, inl, inr}
use Rattle.std.proofs.Math.Nat.{mod-lt}
use Rattle.std.proofs.lemmas.Bool.{ltb-false}
use Rattle.std.proofs.lemmas.List.Sums.{sum_by-cons}
use Rattle.std.proofs.lemmas.Option.{same_Some}
use Rattle.obj_types.specs.Items.{item}
use Rattle.obj_types.specs.Whole.{WholeModule, WholeExp}
use Rattle.obj_types.specs.Definition.{WholeExport, WholeImport}
use Rattle.obj_types.specs.declared.object.ObjModule.{ObjModule}
use Rattle.obj_types.specs.declared.symbol.Exp.{Exp}
use Rattle.obj_types.specs.declared.symbol.Imp.{Imp}
use Rattle.obj_types.specs.declared.symbol.Pub.{Pub}
use Rattle.link_model.specs.declared.limits.TheConstants.{MAX_NUMBER}
use Rattle.link_model.specs.declared.refusals.EntryRefusal.{EntryRefusal}
use Rattle.link_model.specs.declared.refusals.EntryRefusal.TheVariants.{Ordinal}
use Rattle.link_model.specs.declared.symbols.LaidObject.{LaidObject}
use Rattle.link_model.specs.declared.symbols.SymDef.{SymDef}
use Rattle.link_model.specs.declared.symbols.SymDef.TheVariants as means
use Rattle.link_model.specs.Words.{first_of, wrapped}
use Rattle.link_model.specs.Link.{Link, exports}
use Rattle.link_model.specs.Symbols.{Meaning, Public, Imported, Definition, of_public, of_import, definitions_in, definitions, pair_of, import_key, same_import, imports, commons}
use Rattle.link_model.specs.Layout.{objects, spot, common_spot}
use Rattle.link_model.specs.LayoutRefusals.{lay_refusal}
use Rattle.link_model.specs.Goals.{Target, Internal, Constant, Entry, shifted, of_symbol}
use Rattle.link_model.specs.Exports.{ordinals, asked_ordinals, wrong_ordinal, ordinal_past, name_twice, entry_refusal}
use Rattle.link_model.specs.NothingDropped.{LiesInObject}
use Rattle.link_model.proofs.Members.{In, here, there, all_in, each_in, in_at, in_item, in_either, item_at, from_map, from_flat_map, from_numbered, value_of}
use Rattle.link_model.proofs.ExternalsMean.{neither}
use Rattle.link_model.proofs.FixupsStay.{module_whole, numbered_module, IsThere}
use Rattle.link_model.proofs.SegmentsStand.{communals_stand}
use Rattle.image_model.proofs.TargetsThere.{mapped, from_filter_map}
use Rattle.layer_laws.specs.Ranges.{ImportInRange, ExportInRange, ModuleInRange}
use Rattle.layer_laws.proofs.Lists.{from-firsts}
use Rattle.layer_laws.proofs.Given.{Given}
use Rattle.layer_laws.proofs.Sizes.{sizes-within}

-- ---- imports

-- What is so of the imports of all chosen modules and of the definition file is so of the imports that the link knows.
pub record KnownImport (i : Imp) : Type 0 where
  pub range : ImportInRange i
  pub named : i.module ≢ []

pair_is : (d : Definition) (m : Meaning) (i p : Imp) → Imported i ≡ m → pair_of m ≡ Some p → i ≡ p
pair_is d m i p is gives = ap (λ (o : Option Imp). unwrap_or o i) (ap pair_of is ∙ gives)

by_import : (n : ℕ) (is : List Imp) (d : Definition) (p : Imp) → AllByRecursion KnownImport is → In d (map (of_import n) is) → pair_of d.meaning ≡ Some p → KnownImport p
by_import n is d p all i gives =
    let r = from_map (of_import n) is i in
    let meaning : Imported r.item ≡ d.meaning = ap (λ (x : Definition). x.meaning) r.is in
    subst KnownImport (pair_is d d.meaning r.item p meaning gives) (each_in KnownImport is all r.inside)

by_public : (n : ℕ) (ps : List Pub) (d : Definition) (p : Imp) → In d (map (of_public n) ps) → pair_of d.meaning ≡ Some p → KnownImport p
by_public n ps d p i gives =
    let r = from_map (of_public n) ps i in
    let meaning : Public r.item.place ≡ d.meaning = ap (λ (x : Definition). x.meaning) r.is in
    absurd (true≢false (sym (ap is_some (ap pair_of meaning ∙ gives))))

known_from : (is : List Imp) → All ImportInRange is → All (λ (i : Imp). i.module ≢ []) is → (i : Imp) → In i is → KnownImport i
known_from is range named i inside = record { range = all_in ImportInRange is range inside; named = all_in (λ (i : Imp). i.module ≢ []) is named inside }

each_known : (is js : List Imp) → ((i : Imp) → In i js → KnownImport i) → AllByRecursion KnownImport js
each_known is [] all = tt
each_known is (j ∷ js) all = (all j here, each_known is js (λ i k. all i (there k)))

in_definitions : (l : Link) → Given l → (d : Definition) (p : Imp) → In d (definitions l) → pair_of d.meaning ≡ Some p → KnownImport p
in_definitions l g d p i gives =
    elim (in_either (flat_map (λ q. definitions_in q.0 q.1) (enumerate_from 1 l.modules)) (map (of_import 0) l.def.imports) i) as (λ s. KnownImport p) [
      | inl j ↦ let r = from_flat_map (λ (q : ℕ × ObjModule). definitions_in q.0 q.1) (enumerate_from 1 l.modules) j in of_module r.item r.inside r.gives
      | inr j ↦ by_import 0 l.def.imports d p (each_known l.def.imports l.def.imports (λ x k. record { range = all_in ImportInRange l.def.imports g.def_range.imports k; named = (all_in WholeImport l.def.imports g.def.imports k).module })) j gives
    ]
  where
    of_module : (q : ℕ × ObjModule) → In q (enumerate_from 1 l.modules) → In d (definitions_in q.0 q.1) → KnownImport p
    of_module q inside k =
        let number = from_numbered 1 l.modules inside in
        let range = each_in ModuleInRange l.modules g.modules_range (in_at l.modules number.place q.1 number.is) in
        let whole = module_whole l q.0 q.1 g.whole (numbered_module l q inside) in
        elim (in_either (map (of_public q.0) (filter (λ p. not p.local) q.1.pubs)) (map (of_import q.0) q.1.imports) k) as (λ s. KnownImport p) [
          | inl at ↦ by_public q.0 (filter (λ p. not p.local) q.1.pubs) d p at gives
          | inr at ↦ by_import q.0 q.1.imports d p (each_known q.1.imports q.1.imports (known_from q.1.imports range.imports whole.imports)) at gives
        ]

pub known-import : (l : Link) → Given l → (p : Imp) → In p (imports l) → KnownImport p
unfolding imports
known-import l g p i =
    let pairs = filter_map (λ (d : Definition). pair_of d.meaning) (definitions l) in
    let r = from_filter_map (λ (d : Definition). pair_of d.meaning) (definitions l) (from-firsts (λ a b. same_import (import_key a) (import_key b)) pairs i) in
    in_definitions l g r.item p r.inside r.gives

-- ---- exports

pub record KnownExport (x : Exp) : Type 0 where
  pub range : ExportInRange x
  pub named : x.name ≢ []
  pub words : x.words ≤ 31

pub known-export : (l : Link) → Given l → (x : Exp) → In x (exports l) → KnownExport x
known-export l g x i =
    elim (in_either (flat_map (λ m. m.exports) l.modules) l.def.exports i) as (λ s. KnownExport x) [
      | inl j ↦ let r = from_flat_map (λ (m : ObjModule). m.exports) l.modules j in let whole = all_in WholeExp r.item.exports (all_in WholeModule l.modules g.whole r.inside).exports r.gives in record { range = all_in ExportInRange r.item.exports (each_in ModuleInRange l.modules g.modules_range r.inside).exports r.gives; named = whole.0; words = whole.1 }
      | inr j ↦ let whole = all_in WholeExport l.def.exports g.def.exports j in record { range = all_in ExportInRange l.def.exports g.def_range.exports j; named = whole.name; words = whole.words }
    ]

-- ---- ordinals

past_none : (b : Bool) (r : EntryRefusal) → cond b (Some r) None ≡ None → b ≡ false
past_none true r e = absurd (true≢false (ap is_some e))
past_none false r e = refl

none_any : {X : Type 0} (test : X → Bool) (xs : List X) {x : X} → list_any test xs ≡ false → In x xs → test x ≡ false
none_any test [] e i = elim i [ ]
none_any test (y ∷ xs) e here = first (test y) (list_any test xs) e
  where
    first : (a b : Bool) → (a || b) ≡ false → a ≡ false
    first true b e = absurd (true≢false e)
    first false b e = refl
none_any test (y ∷ xs) e (there i) = none_any test xs (second (test y) (list_any test xs) e) i
  where
    second : (a b : Bool) → (a || b) ≡ false → b ≡ false
    second true b e = absurd (true≢false e)
    second false b e = e

pub small-ordinal : (l : Link) → entry_refusal l ≡ None → (n : ℕ) → In n (ordinals (asked_ordinals l)) → n ≤ MAX_NUMBER
unfolding entry_refusal
small-ordinal l e n i =
    let os = asked_ordinals l in
    let first = (neither (wrong_ordinal os) (first_of (ordinal_past MAX_NUMBER os ∷ name_twice (map (λ x. x.name) (exports l)) ∷ [])) e).1 in
    let second = (neither (ordinal_past MAX_NUMBER os) (first_of (name_twice (map (λ x. x.name) (exports l)) ∷ [])) first).0 in
    let none = past_none (list_any (nat_lt MAX_NUMBER) (ordinals os)) (Ordinal (MAX_NUMBER + 1)) second in
    ltb-false MAX_NUMBER n (none_any (nat_lt MAX_NUMBER) (ordinals os) none i)

-- ---- offsets of places

size-small : (os : List LaidObject) (o : LaidObject) → In o os → o.size ≤ sum_by (λ x. x.size) os
size-small [] o i = elim i [ ]
size-small (p ∷ os) o here = let all = sum_by-cons (λ (x : LaidObject). x.size) p os in omega (arith, all)
size-small (p ∷ os) o (there i) =
    let all = sum_by-cons (λ (x : LaidObject). x.size) p os in let rest = size-small os o i in omega (arith, all, rest)

lies_small : (l : Link) (len : ℕ) (q : ℕ × ℕ) → lay_refusal l ≡ None → LiesInObject l len q → q.1 < 2 ^ 32
lies_small l len q none lies =
    let o = value_of (item (objects l) q.0) (λ o. q.1 + len ≤ o.size) lies in
    let size = size-small (objects l) o.item (in_item (objects l) q.0 o.item o.is) in
    let most = sizes-within l none in
    let inside = o.holds in
    omega (arith, size, most, inside)

-- The offset of a target in the link has 32 bits.
abbrev pub OffsetSmall : Target → Type 0
OffsetSmall (Internal o offset) = offset < 2 ^ 32
OffsetSmall (Constant value) = Unit {0}
OffsetSmall (Entry slot) = Unit {0}

pub wrapped-small : (n : ℕ) → wrapped n < 2 ^ 32
wrapped-small n = mod-lt n (omega arith)

pub symbol-offset : (l : Link) (d : SymDef) (t : Target) → lay_refusal l ≡ None → IsThere l d → of_symbol l d ≡ Some t → OffsetSmall t
symbol-offset l (means.In n seg offset) t none is e =
    let q = mapped (λ (q : ℕ × ℕ). Internal q.0 q.1) (option_map (shifted offset) (spot l n seg)) t e in
    let p = mapped (shifted offset) (spot l n seg) q.item q.is in
    subst OffsetSmall q.gives (subst (λ (r : ℕ × ℕ). r.1 < 2 ^ 32) p.gives (wrapped-small (p.item.1 + offset)))
symbol-offset l (means.Const value) t none is e = subst OffsetSmall (same_Some (Constant value) t e) tt
symbol-offset l (means.Common slot) t none is e =
    let q = mapped (λ (q : ℕ × ℕ). Internal q.0 q.1) (common_spot l slot) t e in
    let c = item_at (commons l) slot is in
    let stands = value_of (common_spot l slot) (LiesInObject l c.item.1.len) (communals_stand l slot c.item c.is) in
    let same : stands.item ≡ q.item = same_Some stands.item q.item (sym stands.is ∙ q.is) in
    subst OffsetSmall q.gives (lies_small l c.item.1.len q.item none (subst (LiesInObject l c.item.1.len) same stands.holds))
symbol-offset l (means.Import slot) t none is e = subst OffsetSmall (same_Some (Entry slot) t e) tt
