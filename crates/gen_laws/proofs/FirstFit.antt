-- The first modules are fit: each imports the one before it alone, whose export is there.
use Rattle.std.specs.Prelude.{◌≡◌, ℕ, zero, suc, ◌+◌, ◌-◌, ◌<◌, ◌≤◌, ◌==◌, Bool, true, false, cond, List, [], ◌∷◌, Option, Some, None, Ok, Contains, bytes_eq, filter, is_none, length, map, nat_le, position, slice_get, unwrap_or, refl}
use Rattle.std.specs.List.{AllByRecursion, list_any}
use Rattle.std.specs.Option.{option_map, option_and_then}
use Rattle.std.proofs.Common.{ap, sym, ◌∙◌, arith, subst, true≢false, inl, inr}
use Rattle.std.proofs.lemmas.Bool.{cases_lt}
use Rattle.std.proofs.lemmas.List.{get_or_past}
use Rattle.std.proofs.lemmas.List.Elements.{All-from_recursion}
use Rattle.std.proofs.lemmas.List.Quantifiers.{position-Some}
use Rattle.lx_types.specs.declared.limits.TheConstants.{BASE_UNIT}
use Rattle.lx_types.specs.Names.{uppercase}
use Rattle.lx_types.specs.declared.entry.EntryKey.TheVariants as keys
use Rattle.lx_types.specs.declared.entry.FwdKey.TheVariants as fwd_keys
use Rattle.lx_types.specs.declared.fix.Fix.{Fix}
use Rattle.lx_types.specs.declared.fix.FixTarget.{FixTarget}
use Rattle.lx_types.specs.declared.fix.FixTarget.TheVariants as leads
use Rattle.lx_types.specs.declared.parts.Parts.{Parts}
use Rattle.obj_types.specs.declared.symbol.Imp.{Imp}
use Rattle.link_model.specs.Exports.{Export, Out}
use Rattle.link_model.specs.Fixups.{Fixup}
use Rattle.link_model.specs.Goals.{Target, Internal, Constant, Entry}
use Rattle.link_model.specs.ImportTables.{entry_target, import_target, link_pairs, modules_in, used_pairs, with_offset}
use Rattle.link_model.specs.Link.{Link}
use Rattle.link_model.specs.Patches.{recorded}
use Rattle.link_model.specs.Records.{has_alias, offset_on, page_records, record_on, source_of, stands_on, target_and_additive}
use Rattle.link_model.specs.Symbols.{imports}
use Rattle.link_model.specs.Words.{wrapped}
use Rattle.link_model.proofs.Members.{In, in_at, from_map}
use Rattle.lx_model.specs.declared.library.EntryFault.{EntryFault}
use Rattle.lx_model.specs.declared.library.EntryFault.TheVariants as faults
use Rattle.lx_model.specs.declared.library.Health.{Health}
use Rattle.lx_model.specs.declared.library.Health.TheVariants.{NoModule, NoEntry, ForwardLoop, Gate286}
use Rattle.lx_model.specs.declared.library.Spot.{Spot}
use Rattle.lx_model.specs.Entries.{Entry as EntryAt, entry_or_none, key_place, target_spot}
use Rattle.lx_model.specs.Gathering.{IsLibrary}
use Rattle.lx_model.specs.Library.{module_of, no_module, library_named}
use Rattle.lx_model.specs.Reach.{Order, lost_import, ends_in, target_of_fault, HealthOf, IsFit}
use Rattle.lx_model.specs.Reading.{first}
use Rattle.image_model.specs.Linked.{fix_in_file, image_of, link_modules, link_procs}
use Rattle.image_model.specs.ReadBack.{parts_of_image}
use Rattle.image_model.proofs.TargetsThere.{from_filter_map, mapped, through}
use Rattle.implib_model.specs.Imports.{name_or}
use Rattle.layer_laws.specs.LoadedBytes.{Holds}
use Rattle.layer_laws.proofs.EntriesAreOut.{entries_out}
use Rattle.layer_laws.proofs.ForwardersNamed.{uppercase-twice}
use Rattle.layer_laws.proofs.ImportNames.{import-named}
use Rattle.layer_laws.proofs.Lists.{each-of, from-firsts}
use Rattle.layer_laws.proofs.LoadedPages.{Loaded}
use Rattle.layer_laws.proofs.ModuleHeld.{module-held}
use Rattle.gen_model.specs.Modules.{gen_input, module_name, public_name, refers}
use Rattle.gen_model.specs.Sums.{library_of}
use Rattle.gen_laws.specs.Laws.{AreFirst, FirstAreFit, InputsAreWhole}
use Rattle.gen_laws.proofs.FirstGather.{first_gather}
use Rattle.gen_laws.proofs.FirstKnown.{Known, at, all_read, is_loaded, library_holds, library_long}
use Rattle.gen_laws.proofs.FirstPairs.{IsPair, linked_is, pair_is}
use Rattle.gen_laws.proofs.FirstShape.{gen_link, its_exports, the_export}
use Rattle.gen_laws.proofs.FirstTargets.{each_reference}

-- ---- a library in which nothing is missed

-- A target of a module leads to a spot.
pub record HasSpot (lib : List Parts) (m : ℕ) (t : FixTarget) : Type 0 where
  pub spot : Spot
  pub is : target_spot lib m t ≡ Ok spot

-- All that a module imports is there.
record Served (lib : List Parts) (m : ℕ) : Type 0 where
  modules : AllByRecursion (λ name. is_none (library_named lib name) ≡ false) (module_of lib m).imports
  targets : AllByRecursion (HasSpot lib m) (module_of lib m).refs

none_fail : (lib : List Parts) (m : ℕ) (e : EntryFault) (ts : List FixTarget) → AllByRecursion (HasSpot lib m) ts → list_any (λ t. ends_in e (target_spot lib m t)) ts ≡ false
none_fail lib m e [] each = refl
none_fail lib m e (t ∷ ts) each = rw each.0.is (none_fail lib m e ts each.1)

no_fault : (lib : List Parts) (m : ℕ) (e : EntryFault) (kind : Health) → Served lib m → target_of_fault e kind lib m ≡ None
no_fault lib m e kind served =
    ap (λ (b : Bool). cond b (Some kind) None) (none_fail lib m e (module_of lib m).refs served.targets)

none_passes : (test : List ℕ → Bool) (names : List (List ℕ)) → AllByRecursion (λ name. test name ≡ false) names → position test names ≡ None
none_passes test names each = by (position test names) refl
  where
    by : (r : Option ℕ) → position test names ≡ r → position test names ≡ None
    by None is = is
    by (Some j) is =
        let found = position-Some test names j [] is in
        absurd (true≢false (sym found.1 ∙ All-from_recursion (λ name. test name ≡ false) names each j [] found.0))

none_lost : (lib : List Parts) (m : ℕ) → Served lib m → lost_import lib m ≡ None
none_lost lib m served =
    ap (option_map (λ k. NoModule m (k + 1))) (none_passes (λ name. is_none (library_named lib name)) (module_of lib m).imports served.modules)

-- What no library has misses nothing.
past_is_served : (lib : List Parts) (m : ℕ) → length lib ≤ m → Served lib m
past_is_served lib m h =
    let none : module_of lib m ≡ no_module = get_or_past lib m no_module h in
    record {
      modules = subst (λ (p : Parts). AllByRecursion (λ name. is_none (library_named lib name) ≡ false) p.imports) (sym none) tt;
      targets = subst (λ (p : Parts). AllByRecursion (HasSpot lib m) p.refs) (sym none) tt;
    }

served_all : (lib : List Parts) → ((m : ℕ) → m < length lib → Served lib m) → (m : ℕ) → Served lib m
served_all lib each m = elim (cases_lt m (length lib)) as (λ s. Served lib m) [ inl lt ↦ each m lt | inr ge ↦ past_is_served lib m ge ]

no_first : (f : ℕ → Option Health) → ((m : ℕ) → f m ≡ None) → (ms : List ℕ) → first (map f ms) ≡ None
no_first f none [] = refl
no_first f none (m ∷ ms) = rw (none m) (no_first f none ms)

all_fit : (lib : List Parts) → ((m : ℕ) → Served lib m) → (m : ℕ) → IsFit lib m
unfolding HealthOf
all_fit lib served m =
    let members = Order lib m in
    let a = no_first (lost_import lib) (λ by. none_lost lib by (served by)) members in
    let b = no_first (λ by. target_of_fault faults.NoEntry (NoEntry by) lib by) (λ by. no_fault lib by faults.NoEntry (NoEntry by) (served by)) members in
    let c = no_first (λ by. target_of_fault faults.ForwardLoop (ForwardLoop by) lib by) (λ by. no_fault lib by faults.ForwardLoop (ForwardLoop by) (served by)) members in
    let d = no_first (λ by. target_of_fault faults.Gate286 (Gate286 by) lib by) (λ by. no_fault lib by faults.Gate286 (Gate286 by) (served by)) members in
    rw (a, b, c, d) refl

-- ---- the module before

-- The module of number k - 1 is there, under its name, with its export.
record Before (lib : List Parts) (k : ℕ) : Type 0 where
  number : ℕ
  named : library_named lib (uppercase (module_name (k - 1))) ≡ Some number
  entry : HasSpot lib number (leads.Own 1)

entry_one : (k : ℕ) (l : Link) (lib : List Parts) (m : ℕ) → Known k l → Holds lib m l → EntryAt lib (m, 1) ≡ Ok (record { «module» = m; object = 1; offset = 0 })
entry_one k l lib m known holds =
    let x = the_export (public_name k) in
    let listed : Contains (Out l) x = subst (λ (xs : List Export). Contains xs x) (sym (ap Out known.is ∙ its_exports k)) (0, omega arith, refl) in
    (entries_out (gen_input k) l known.links known.short lib m holds).by_ordinal x listed

held_named : (k : ℕ) (l : Link) (lib : List Parts) (m : ℕ) → Known k l → Loaded l lib m → IsLibrary lib → m < length lib → library_named lib (uppercase (module_name k)) ≡ Some m
held_named k l lib m known loaded is lt =
    let def = ap (λ (x : Link). x.def) known.is in
    module-held l lib m loaded (ap (λ (x : Link). x.def.kind) known.is) is lt (uppercase (module_name k)) (same l known.is)
  where
    same : (l : Link) → l ≡ gen_link k → uppercase (uppercase (module_name k)) ≡ uppercase (name_or l.def.name l.stem)
    same l e = uppercase-twice (module_name k) ∙ ap (λ (x : Link). uppercase (name_or x.def.name x.stem)) (sym e)

before_is : (k : ℕ) (l : Link) (lib : List Parts) (m : ℕ) → Known k l → Holds lib m l → IsLibrary lib → m < length lib → Before lib (1 + k)
before_is k l lib m known holds is lt =
    let less : 1 + k - 1 ≡ k = omega arith in
    record {
      number = m;
      named = ap (λ (n : ℕ). library_named lib (uppercase (module_name n))) less ∙ held_named k l lib m known (is_loaded k l lib m known holds) is lt;
      entry = record { spot = record { «module» = m; object = 1; offset = 0 }; is = entry_one k l lib m known holds };
    }

-- ---- its import modules

module_there : (k : ℕ) (l : Link) (lib : List Parts) → Known k l → (refers k ≡ true → Before lib k) → (name : List ℕ) → In name (link_modules l) → is_none (library_named lib name) ≡ false
module_there k l lib known before name i =
    let r = from_map (λ (pair : Imp). uppercase pair.module) (link_pairs l) (from-firsts bytes_eq (map (λ pair. uppercase pair.module) (link_pairs l)) i) in
    let pair = linked_is k l r.item known.is r.inside in
    let there = before pair.refers in
    ap (λ (n : List ℕ). is_none (library_named lib n)) (sym r.is ∙ ap uppercase pair.module) ∙ ap is_none there.named

-- ---- its targets

-- Number `import` of the import modules is that of the module before.
ordinal_there : (k : ℕ) (l : Link) (lib : List Parts) (m : ℕ) → Loaded l lib m → Before lib k → (j : ℕ) → position (λ n. bytes_eq (uppercase (module_name (k - 1))) n) (modules_in (used_pairs l)) ≡ Some j → HasSpot lib m (leads.Ordinal (j + 1) 1)
ordinal_there k l lib m loaded before j at =
    let found = import-named l lib m loaded (uppercase (module_name (k - 1))) j at ∙ before.named in
    record {
      spot = before.entry.spot;
      is = ap (λ (o : Option ℕ). entry_or_none lib (option_and_then (key_place lib m (fwd_keys.Ordinal 1)) o)) found ∙ before.entry.is;
    }

pair_there : (k : ℕ) (l : Link) (lib : List Parts) (m : ℕ) → Loaded l lib m → (refers k ≡ true → Before lib k) → (pair : Imp) → IsPair k pair → (t : FixTarget) → import_target (used_pairs l) pair ≡ Some t → HasSpot lib m (with_offset (link_procs l) t)
pair_there k l lib m loaded before pair is t e =
    let r = through (λ j. entry_target (used_pairs l) (j + 1) pair.entry) (position (λ n. bytes_eq (uppercase pair.module) n) (modules_in (used_pairs l))) t e in
    let at = ap (λ (n : List ℕ). position (λ o. bytes_eq (uppercase n) o) (modules_in (used_pairs l))) (sym is.module) ∙ r.is in
    let gives : Some (leads.Ordinal (r.item + 1) 1) ≡ Some t = ap (entry_target (used_pairs l) (r.item + 1)) (sym is.entry) ∙ r.gives in
    let same : leads.Ordinal (r.item + 1) 1 ≡ t = ap (λ (o : Option FixTarget). unwrap_or o t) gives in
    subst (λ (u : FixTarget). HasSpot lib m (with_offset (link_procs l) u)) same (ordinal_there k l lib m loaded (before is.refers) r.item at)

internal_there : (lib : List Parts) (m : ℕ) (l : Link) (b : Bool) (o x y z : ℕ) (t : FixTarget × ℕ) → Some (cond {A = FixTarget × ℕ} b (leads.Internal o x, y) (leads.Internal o z, 0)) ≡ Some t → HasSpot lib m (with_offset (link_procs l) t.0)
internal_there lib m l true o x y z t e =
    let same : leads.Internal o x ≡ t.0 = ap (λ (p : Option (FixTarget × ℕ)). (unwrap_or p t).0) e in
    subst (λ (u : FixTarget). HasSpot lib m (with_offset (link_procs l) u)) same (record { spot = record { «module» = m; object = o; offset = x }; is = refl })
internal_there lib m l false o x y z t e =
    let same : leads.Internal o z ≡ t.0 = ap (λ (p : Option (FixTarget × ℕ)). (unwrap_or p t).0) e in
    subst (λ (u : FixTarget). HasSpot lib m (with_offset (link_procs l) u)) same (record { spot = record { «module» = m; object = o; offset = z }; is = refl })

target_there : (k : ℕ) (l : Link) (lib : List Parts) (m : ℕ) → Known k l → Loaded l lib m → (refers k ≡ true → Before lib k) → (q : Fixup) (goal : Target) (t : FixTarget × ℕ) → target_and_additive l q goal ≡ Some t → HasSpot lib m (with_offset (link_procs l) t.0)
target_there k l lib m known loaded before q (Internal o offset) t e =
    let at = wrapped (offset + q.fix.disp) in
    internal_there lib m l (q.fix.loc == 2) o 0 (cond (nat_le BASE_UNIT at) at 0) (wrapped (at + q.standing)) t e
target_there k l lib m known loaded before q (Constant value) t e = cc
target_there k l lib m known loaded before q (Entry slot) t e =
    let r = mapped (λ (u : FixTarget). (u, wrapped (q.fix.disp + q.standing))) (option_and_then (import_target (used_pairs l)) (slice_get (imports l) slot)) t e in
    let pair = through (import_target (used_pairs l)) (slice_get (imports l) slot) r.item r.is in
    let is = pair_is k l pair.item known.is (in_at (imports l) slot pair.item pair.is) in
    subst (λ (u : FixTarget × ℕ). HasSpot lib m (with_offset (link_procs l) u.0)) r.gives (pair_there k l lib m loaded before pair.item is r.item pair.gives)

abbrev record_with : ℕ → Fixup → FixTarget × ℕ → Fix
record_with k q t = record { source = source_of q; alias = has_alias q; offset = offset_on k q; target = t.0; additive = t.1 }

fix_there : (k : ℕ) (l : Link) (lib : List Parts) (m : ℕ) → Known k l → Loaded l lib m → (refers k ≡ true → Before lib k) → (n page : ℕ) (f : Fix) → In f (page_records l n page) → HasSpot lib m (fix_in_file l f).target
unfolding page_records
fix_there k l lib m known loaded before n page f i =
    let r = from_filter_map (record_on l page) (filter (stands_on n page) (recorded l)) i in
    let t = mapped (record_with page r.item) (target_and_additive l r.item r.item.target) f r.gives in
    subst (λ (g : Fix). HasSpot lib m (fix_in_file l g).target) t.gives (target_there k l lib m known loaded before r.item r.item.target t.item t.is)

-- ---- each of the first modules

imports_are : (l : Link) → (parts_of_image (image_of l)).imports ≡ link_modules l
unfolding parts_of_image image_of
imports_are l = refl

served : (k : ℕ) (l : Link) (lib : List Parts) (m : ℕ) → Known k l → Holds lib m l → (refers k ≡ true → Before lib k) → Served lib m
served k l lib m known holds before =
    let loaded = is_loaded k l lib m known holds in
    let parts = parts_of_image (image_of l) in
    record {
      modules = subst (AllByRecursion (λ name. is_none (library_named lib name) ≡ false)) (sym (ap (λ (p : Parts). p.imports) loaded.is ∙ imports_are l)) (each-of (λ name. is_none (library_named lib name) ≡ false) (link_modules l) (module_there k l lib known before));
      targets = subst (λ (p : Parts). AllByRecursion (HasSpot lib m) p.refs) (sym loaded.is) (each-of (HasSpot lib m) parts.refs (each_reference (HasSpot lib m) l (fix_there k l lib m known loaded before)));
    }

pub first_library : (whole : InputsAreWhole) (links : List Link) → AreFirst links → IsLibrary (library_of links)
first_library whole links are = record { faultless = first_gather whole links are; read = all_read whole links are }

each_served : (whole : InputsAreWhole) (links : List Link) → AreFirst links → (m : ℕ) → m < length (library_of links) → Served (library_of links) m
each_served whole links are m lt =
    let long = library_long links in
    let own = at whole links m are (omega (arith, lt, long)) in
    served (1 + m) own.link (library_of links) m own.known (library_holds links m own.link own.is) (before m lt)
  where
    next : (m : ℕ) → 1 + (1 + m) ≡ 1 + suc m
    next m = omega arith

    before : (m : ℕ) → m < length (library_of links) → refers (1 + m) ≡ true → Before (library_of links) (1 + m)
    before zero lt e = cc
    before (suc m) lt e =
        let long = library_long links in
        let earlier = at whole links m are (omega (arith, lt, long)) in
        subst (Before (library_of links)) (next m) (before_is (1 + m) earlier.link (library_of links) m earlier.known (library_holds links m earlier.link earlier.is) (first_library whole links are) (omega (arith, lt)))

pub first_fit : InputsAreWhole → FirstAreFit
first_fit whole links m are lt = all_fit (library_of links) (served_all (library_of links) (each_served whole links are)) m
