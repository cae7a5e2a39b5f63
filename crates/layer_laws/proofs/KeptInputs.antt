-- What is kept of an input has the numbers that it has, and the import library of a definition file is kept whole.
use Rattle.std.specs.Prelude.{◌≡◌, ℕ, ◌&&◌, ◌||◌, None, Bool, true, false, not, List, [], ◌∷◌, ◌++◌, bytes_eq, filter, Contains, refl}
use Rattle.std.specs.List.{AllByRecursion, list_any}
use Rattle.std.proofs.Common.{ap, sym, ◌∙◌, subst, true≢false}
use Rattle.std.proofs.lemmas.List.Elements.{All-from_recursion, recursion_from_All}
use Rattle.std.proofs.lemmas.Bool.{false_from_ne_true}
use Rattle.obj_types.specs.Defaults.{default_def}
use Rattle.obj_types.specs.declared.definition.DefFile.{DefFile}
use Rattle.obj_types.specs.declared.definition.ModKind.TheVariants.{Library}
use Rattle.obj_types.specs.declared.input.LinkInput.{LinkInput}
use Rattle.obj_types.specs.declared.object.ObjModule.{ObjModule}
use Rattle.obj_types.specs.declared.symbol.Imp.{Imp}
use Rattle.obj_types.specs.declared.symbol.Pub.{Pub}
use Rattle.link_model.specs.Choosing.{defines}
use Rattle.link_model.specs.Kept.{Kept, is_place_in, is_seg_of, kept_after, kept_module, taken, without}
use Rattle.link_model.proofs.AllKept.{module_kept}
use Rattle.link_model.proofs.Members.{In, here, there, all_in, any_in, found, from_filter, from_map, in_contained}
use Rattle.implib_model.specs.ImportModule.{import_object}
use Rattle.implib_model.specs.Imports.{imports_in, objects_of}
use Rattle.layer_laws.specs.ImportLaws.{OnlyImported}
use Rattle.layer_laws.specs.Ranges.{InputInRange, ModuleInRange}
use Rattle.layer_laws.proofs.ImportsDefined.{contained}
use Rattle.layer_laws.proofs.Lists.{each-of}

-- ---- names and numbers

after_in_range : (before ms : List ObjModule) → AllByRecursion ModuleInRange ms → AllByRecursion ModuleInRange (kept_after before ms)
after_in_range before [] range = tt
after_in_range before (m ∷ ms) range =
    (record { imports = range.0.imports; exports = range.0.exports }, after_in_range (before ++ m ∷ []) ms range.1)

pub kept_in_range : (input : LinkInput) → InputInRange input → InputInRange (Kept input)
unfolding Kept
kept_in_range input range = record {
  objects = All-from_recursion ModuleInRange (kept_after [] input.objects) (after_in_range [] input.objects (recursion_from_All ModuleInRange input.objects range.objects));
  libs = All-from_recursion ModuleInRange (kept_after input.objects input.libs) (after_in_range input.objects input.libs (recursion_from_All ModuleInRange input.libs range.libs));
  def = range.def;
  stem = range.stem;
}

-- ---- modules without COMDATs

abbrev alone_with : ObjModule → LinkInput
alone_with m = record { objects = m ∷ []; libs = []; def = default_def Library None; stem = [] }

abbrev first_or : ObjModule → List ObjModule → ObjModule
first_or d [] = d
first_or d (m ∷ ms) = m

inside_kept : (before ms : List ObjModule) {m : ObjModule} → m.comdats ≡ [] → In m ms → In m (kept_after before ms)
inside_kept before [] none i = elim i [ ]
inside_kept before (m ∷ ms) none here = subst (λ (k : ObjModule). In k (kept_after before (m ∷ ms))) (module_kept before m none) here
inside_kept before (n ∷ ms) none (there i) = there (inside_kept (before ++ n ∷ []) ms none i)

-- ---- what a module was kept of

record KeptOf (ms : List ObjModule) (kept : ObjModule) : Type 0 where
  before : List ObjModule
  origin : ObjModule
  inside : In origin ms
  is : kept ≡ kept_module before origin

kept_of : (before ms : List ObjModule) {kept : ObjModule} → In kept (kept_after before ms) → KeptOf ms kept
kept_of before [] i = elim i [ ]
kept_of before (m ∷ ms) here = record { before = before; origin = m; inside = here; is = refl }
kept_of before (m ∷ ms) (there i) =
    let r = kept_of (before ++ m ∷ []) ms i in
    record { before = r.before; origin = r.origin; inside = there r.inside; is = r.is }

either_of : (a b c : Bool) → (a ≡ true → c ≡ true) → (a || b) ≡ true → (c || b) ≡ true
either_of true b true more e = refl
either_of true b false more e = absurd (true≢false (sym (more refl)))
either_of false b true more e = refl
either_of false b false more e = e

-- What is kept of a module defines nothing more.
still_defines : (gone : ℕ → Bool) (m : ObjModule) (name : List ℕ) → defines (without gone m) name ≡ true → defines m name ≡ true
still_defines gone m name e =
    let test : Pub → Bool = λ p. not p.local && bytes_eq p.name name in
    let kept : List Pub = filter (λ p. not (is_place_in gone p.place)) m.pubs in
    either_of (list_any test kept) (list_any (λ (i : Imp). bytes_eq i.name name) m.imports) (list_any test m.pubs)
    (λ h. let r = found test kept h in any_in test (from_filter (λ p. not (is_place_in gone p.place)) m.pubs r.inside) r.passes) e

kept_defines : (ms : List ObjModule) (kept : ObjModule) (name : List ℕ) → (r : KeptOf ms kept) → defines kept name ≡ true → defines r.origin name ≡ true
kept_defines ms kept name r e =
    still_defines (is_seg_of (taken r.before r.origin)) r.origin name (ap (λ (m : ObjModule). defines m name) (sym r.is) ∙ e)

-- ---- the import library

import_has_none : (imports : List Imp) {m : ObjModule} → In m (objects_of imports) → m.comdats ≡ []
import_has_none imports i =
    let r = from_map import_object imports i in ap (λ (m : ObjModule). m.comdats) (sym r.is)

-- Where only an import library defines a name, it does so in what is kept.
pub only-kept : (input : LinkInput) (d : DefFile) (stem name : List ℕ) → OnlyImported input d stem name → OnlyImported (Kept input) d stem name
unfolding Kept
only-kept input d stem name only =
    let imports = imports_in d stem in
    let objects : List ObjModule = objects_of imports in
    let libs : List ObjModule = kept_after input.objects input.libs in
    record {
      there = All-from_recursion (Contains libs) objects
          (each-of (Contains libs) objects (λ m i. contained libs (inside_kept input.objects input.libs (import_has_none imports i) (in_contained input.libs m (all_in (Contains input.libs) objects only.there i)))));
      objects = All-from_recursion (λ m. defines m name ≡ false) (kept_after [] input.objects)
          (each-of (λ m. defines m name ≡ false) (kept_after [] input.objects) (λ m i. false_from_ne_true (defines m name) (λ e.
          let r = kept_of [] input.objects i in
          true≢false (sym (kept_defines input.objects m name r e) ∙ all_in (λ (n : ObjModule). defines n name ≡ false) input.objects only.objects r.inside))));
      libs = λ m held e.
          let r = kept_of input.objects input.libs (in_contained libs m held) in
          let listed = only.libs r.origin (contained input.libs r.inside) (kept_defines input.libs m name r e) in
          let none = import_has_none imports (in_contained objects r.origin listed) in
          subst (Contains objects) (sym (r.is ∙ module_kept r.before r.origin none)) listed;
      items = only.items;
    }
