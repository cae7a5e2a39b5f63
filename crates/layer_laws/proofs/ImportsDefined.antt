-- A name that only an import library defines has its definition there.
use Rattle.std.specs.Prelude.{◌≡◌, ℕ, suc, ◌+◌, ◌==◌, ◌&&◌, ◌||◌, Bool, true, false, not, List, [], ◌∷◌, Some, None, find, slice_get, bytes_eq, if◌then◌else◌, All, Contains, refl}
use Rattle.std.specs.List.{list_any, flat_map, enumerate_from}
use Rattle.std.proofs.Common.{ap, sym, ◌∙◌, arith, true≢false}
use Rattle.std.proofs.Math.Nat.{add-zero}
use Rattle.std.proofs.lemmas.Bool.{eqb-true, and_parts, or_left}
use Rattle.std.proofs.lemmas.Slice.Eq.{bytes_eq-Decides}
use Rattle.obj_types.specs.declared.definition.DefFile.{DefFile}
use Rattle.obj_types.specs.declared.input.LinkInput.{LinkInput}
use Rattle.obj_types.specs.declared.object.ObjModule.{ObjModule}
use Rattle.obj_types.specs.declared.symbol.Exp.{Exp}
use Rattle.link_model.specs.declared.symbols.Pick.{Pick}
use Rattle.link_model.specs.Choosing.{wanted, defines, is_defined, undefined, module_of, modules_of, is_picked, is_drawn, next_pick}
use Rattle.link_model.proofs.ExternalsMean.{not_mapped, none_passes}
use Rattle.link_model.proofs.Members.{In, here, there, in_filter, in_at, in_contained, any_in, found, each_in, all_in, from_map}
use Rattle.implib_model.specs.ImportModule.{import_object}
use Rattle.implib_model.specs.Imports.{name_or, import_for, imports_in, objects_of}
use Rattle.image_model.proofs.FewImports.{in-filter_map}
use Rattle.image_model.proofs.TargetsThere.{from_filter_map}
use Rattle.layer_laws.specs.ImportLaws.{OnlyImported}

pub contained : {X : Type 0} (xs : List X) {x : X} → In x xs → Contains xs x
contained [] i = elim i [ ]
contained (x ∷ xs) here = (0, omega arith, refl)
contained (x ∷ xs) (there i) = let r = contained xs i in (suc r.0, omega (arith, r.1), r.2)

-- ---- a chosen module defines what the chosen modules want

pub record Placed {X : Type 0} (b : ℕ) (xs : List X) (x : X) : Type 0 where
  pub number : ℕ
  pub place : ℕ
  pub number_is : number ≡ b + place
  pub is : slice_get xs place ≡ Some x
  pub inside : In (number, x) (enumerate_from b xs)

pub placed : {X : Type 0} (b : ℕ) (xs : List X) {x : X} → In x xs → Placed b xs x
placed b [] i = elim i [ ]
placed b (x ∷ xs) here = record { number = b; place = 0; number_is = sym (add-zero b); is = refl; inside = here }
placed b (x ∷ xs) (there i) =
    let r = placed (b + 1) xs i in
    let n = r.number_is in
    record { number = r.number; place = suc r.place; number_is = omega (arith, n); is = r.is; inside = there r.inside }

picked_of : (a b : Bool) → (not a && b) ≡ false → b ≡ true → a ≡ true
picked_of true b e h = refl
picked_of false b e h = absurd (true≢false (sym h ∙ e))

module_by : (input : LinkInput) (pick : Pick) (k : ℕ) (m : ObjModule) → (b : Bool) → b ≡ true → pick.index ≡ k → slice_get input.libs k ≡ Some m → slice_get (if b then input.libs else input.objects) pick.index ≡ Some m
module_by input pick k m true e index is = ap (slice_get input.libs) index ∙ is
module_by input pick k m false e index is = absurd (true≢false (sym e))

-- A library module that is drawn is among the chosen ones.
drawn_is_chosen : (input : LinkInput) (picks : List Pick) → next_pick input picks ≡ None → (m : ObjModule) → In m input.libs → is_drawn input picks m ≡ true → In m (modules_of input picks)
drawn_is_chosen input picks ends m i drawn =
    let p = placed 0 input.libs i in
    let test : ℕ × ObjModule → Bool = λ q. not (is_picked picks q.0) && is_drawn input picks q.1 in
    let none = none_passes test (enumerate_from 0 input.libs) (not_mapped _ (find test (enumerate_from 0 input.libs)) ends) in
    let picked = picked_of (is_picked picks p.number) (is_drawn input picks m) (each_in (λ q. test q ≡ false) (enumerate_from 0 input.libs) none p.inside) drawn in
    let f = found (λ (pick : Pick). pick.lib && pick.index == p.number) picks picked in
    let parts = and_parts f.item.lib (f.item.index == p.number) f.passes in
    let number = p.number_is in
    let index : f.item.index ≡ p.place = eqb-true f.item.index p.number parts.1 ∙ omega (arith, number) in
    in-filter_map (module_of input) f.inside (module_by input f.item p.place m f.item.lib parts.0 index p.is)

pub wanted-is-defined : (input : LinkInput) (picks : List Pick) → next_pick input picks ≡ None → (m : ObjModule) (name : List ℕ) → In m input.libs → defines m name ≡ true → In name (flat_map wanted (modules_of input picks)) → is_defined (modules_of input picks) input.def name ≡ true
wanted-is-defined input picks ends m name i defined asked = by (is_defined (modules_of input picks) input.def name) refl
  where
    by : (b : Bool) → is_defined (modules_of input picks) input.def name ≡ b → is_defined (modules_of input picks) input.def name ≡ true
    by true is = is
    by false is =
        let missing : In name (undefined (modules_of input picks) input.def) = in_filter (λ n. not (is_defined (modules_of input picks) input.def n)) asked (ap not is) in
        let chosen = drawn_is_chosen input picks ends m i (any_in (defines m) missing defined) in
        or_left (list_any (λ m. defines m name) (modules_of input picks)) (list_any (λ i. bytes_eq i.name name) input.def.imports) (any_in (λ (m : ObjModule). defines m name) chosen defined)

-- ---- only the import library defines the name

-- A module of the import library: that of an export of this name.
pub record Gives (d : DefFile) (stem name : List ℕ) (m : ObjModule) : Type 0 where
  pub export : Exp
  pub exported : In export d.exports
  pub is : import_object (import_for (name_or d.name stem) export) ≡ m
  pub named : export.name ≡ name

only_first : (b : Bool) → (b || false) ≡ true → b ≡ true
only_first true e = refl
only_first false e = e

from_library : (d : DefFile) (stem name : List ℕ) (m : ObjModule) → In m (objects_of (imports_in d stem)) → defines m name ≡ true → Gives d stem name m
from_library d stem name m i defined =
    let r = from_map import_object (imports_in d stem) i in
    let x = from_map (import_for (name_or d.name stem)) d.exports r.inside in
    let is : import_object (import_for (name_or d.name stem) x.item) ≡ m = ap import_object x.is ∙ r.is in
    let same : bytes_eq x.item.name name ≡ true = only_first (bytes_eq x.item.name name) (ap (λ (o : ObjModule). defines o name) is ∙ defined) in
    record { export = x.item; exported = x.inside; is = is; named = (bytes_eq-Decides x.item.name name).0 same }

never_defines : {P : Type 0} (input : LinkInput) (m : ObjModule) (name : List ℕ) → All (λ m. defines m name ≡ false) input.objects → In m input.objects → defines m name ≡ true → P
never_defines input m name none i e = absurd (true≢false (sym e ∙ all_in (λ m. defines m name ≡ false) input.objects none i))

-- A chosen module that defines the name is one of the import library.
picked_gives : (input : LinkInput) (d : DefFile) (stem name : List ℕ) → OnlyImported input d stem name → (lib : Bool) (index : ℕ) (m : ObjModule) → slice_get (if lib then input.libs else input.objects) index ≡ Some m → defines m name ≡ true → Gives d stem name m
picked_gives input d stem name only true index m e defined =
    from_library d stem name m (in_contained (objects_of (imports_in d stem)) m (only.libs m (contained input.libs (in_at input.libs index m e)) defined)) defined
picked_gives input d stem name only false index m e defined = never_defines input m name only.objects (in_at input.objects index m e) defined

pub chosen-gives : (input : LinkInput) (picks : List Pick) (d : DefFile) (stem name : List ℕ) → OnlyImported input d stem name → (m : ObjModule) → In m (modules_of input picks) → defines m name ≡ true → Gives d stem name m
chosen-gives input picks d stem name only m i defined =
    let r = from_filter_map (module_of input) picks i in picked_gives input d stem name only r.item.lib r.item.index m r.gives defined
