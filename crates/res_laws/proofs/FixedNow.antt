-- A library with the bound module in the place of the old one: fixups make the same of old pages.
use Rattle.std.proofs.Common.{◌≡◌, ℕ, ◌+◌, ◌<◌, inl, inr, Bool, true, false, cond, ◌&&◌, not, ltb, eqb, List, [], ◌∷◌, map, length, Some, None, refl, sym, subst, ap, ◌∙◌, arith}
use Rattle.std.specs.Prelude.{position, option_map, is_some, find, bytes_eq, bit_and}
use Rattle.std.specs.List.{prefix_len, fold, sum_by, flat_map, list_all, range_with_len, AllByRecursion as Each}
use Rattle.std.proofs.lemmas.Bool.{cases_lt, eq-eqb, eqb-true}
use Rattle.std.proofs.lemmas.List.{length-map, get_or_past}
use Rattle.std.proofs.lemmas.List.Elements.{recursion_from_All}
use Rattle.std.proofs.lemmas.List.FromFn.{length-map-range_with_len, get_or-map-range_with_len, fill_by_all}
use Rattle.lx_types.specs.Names.{uppercase}
use Rattle.lx_types.specs.Parts.{span, object_of, proc_name_of, entry_of, is_library_of}
use Rattle.lx_types.specs.Sound.{Sound, IsNumberOf, HeadFits}
use Rattle.lx_types.specs.declared.entry.EntryHead.{EntryHead}
use Rattle.lx_types.specs.declared.entry.EntryHead.TheVariants.{At, Gate286, Forward}
use Rattle.lx_types.specs.declared.entry.FwdKey.TheVariants as keys
use Rattle.lx_types.specs.declared.fix.FixTarget.{FixTarget}
use Rattle.lx_types.specs.declared.fix.FixTarget.TheVariants as targets
use Rattle.lx_types.specs.declared.object.PageId.{PageId}
use Rattle.lx_types.specs.declared.parts.Parts.{Parts}
use Rattle.lx_types.specs.declared.parts.TheConstants.{MODULE_KIND, MODULE_LIBRARY}
use Rattle.lx_model.specs.Reading.{value_or, Many}
use Rattle.lx_model.specs.Header.{object_count}
use Rattle.lx_model.specs.EntryTable.{Numbered, entries_of}
use Rattle.lx_model.specs.Records.{Record, records_at, fixes_of}
use Rattle.lx_model.specs.Module.{IsRead, parts_of, page_records, targets_of, is_target, targets_in}
use Rattle.lx_model.specs.Library.{no_module, module_of, has_name}
use Rattle.lx_model.specs.Fixed.{Raw, sources_of, Fixed}
use Rattle.lx_types.specs.declared.bases.Bases.{Bases}
use Rattle.lx_types.proofs.Ordinals.{above}
use Rattle.lx_model.specs.Gathering.{IsLibrary}
use Rattle.lx_model.specs.Reach.{IsFit}
use Rattle.lx_model.specs.ModuleLaws.{HasSpot}
use Rattle.lx_model.proofs.Each.{each_in_range, each_more}
use Rattle.lx_model.proofs.FitModules.{fit_has_spots}
use Rattle.lx_model.proofs.ReadModules.{read_is_sound}
use Rattle.lx_model.proofs.References.{numbered}
use Rattle.res_model.specs.declared.item.ResItem.{ResItem}
use Rattle.res_model.specs.Clear.{name_parts, names_of_target, names_of_head}
use Rattle.res_laws.specs.Binding.{IsOldPage, with_module, FixedStands}
use Rattle.res_laws.proofs.Standing.{extended}
use Rattle.res_laws.proofs.Clear.{frees, is_free, split_all}
use Rattle.res_laws.proofs.Eaches.{each_both, each_tests}
use Rattle.res_laws.proofs.Layouts.{CanExtend}
use Rattle.res_laws.proofs.ObjectsNow.{objects_number}
use Rattle.res_laws.proofs.RecordsNow.{names_stand, no_records, names_free, old_targets}
use Rattle.res_laws.proofs.PartsNow.{name_now, flags_now, imports_now, entries_now, names_now, object_stands, of_records, raw_stands, sources_stand}
use Rattle.res_laws.proofs.Alike.{KeyStands, HeadStands, TargetStands, Alike, fixed_stands}

-- ---- one module in another's place

pub module_is : (lib : List Parts) (k : ℕ) (now : Parts) (j : ℕ) → k < length lib → module_of (with_module lib k now) j ≡ cond (eqb j k) now (module_of lib j)
module_is lib k now j lt = elim (cases_lt j (length lib)) [
  | inl less ↦ get_or-map-range_with_len (λ j. cond (eqb j k) now (module_of lib j)) 0 (length lib) j j no_module less (omega arith)
  | inr ge ↦
      let size = length-map-range_with_len (λ j. cond (eqb j k) now (module_of lib j)) 0 (length lib) in
      get_or_past (with_module lib k now) j no_module (omega (arith, size, ge)) ∙ sym (get_or_past lib j no_module ge) ∙ ap (λ (b : Bool). cond b now (module_of lib j)) (sym (above j k (omega (arith, lt, ge))))
]

-- what is the same of both modules is the same of all
pub all_same : {X : Type 0} (f : Parts → X) (lib : List Parts) (k : ℕ) (now : Parts) (j : ℕ) → k < length lib → f now ≡ f (module_of lib k) → f (module_of (with_module lib k now) j) ≡ f (module_of lib j)
all_same {X} f lib k now j lt same = ap f (module_is lib k now j lt) ∙ by_test (eqb j k) refl
  where
    by_test : (b : Bool) → eqb j k ≡ b → f (cond b now (module_of lib j)) ≡ f (module_of lib j)
    by_test true is = same ∙ ap (λ (n : ℕ). f (module_of lib n)) (sym (eqb-true j k is))
    by_test false is = refl

pub at_place : (lib : List Parts) (k : ℕ) (now : Parts) → k < length lib → module_of (with_module lib k now) k ≡ now
at_place lib k now lt = module_is lib k now k lt ∙ ap (λ (b : Bool). cond b now (module_of lib k)) (eq-eqb k k refl)

-- ---- what is made of all modules

prefix_same : (p : Parts → Bool) (g h : ℕ → Parts) (js : List ℕ) → Each (λ j. p (g j) ≡ p (h j)) js → prefix_len (λ x. not (p x)) (map g js) ≡ prefix_len (λ x. not (p x)) (map h js)
prefix_same p g h [] same = refl
prefix_same p g h (j ∷ js) same =
    ap (λ (b : Bool). cond (not b) (1 + prefix_len (λ x. not (p x)) (map g js)) 0) same.0
    ∙ ap (λ (n : ℕ). cond (not (p (h j))) (1 + n) 0) (prefix_same p g h js same.1)

position_same : (p : Parts → Bool) (g h : ℕ → Parts) (js : List ℕ) → Each (λ j. p (g j) ≡ p (h j)) js → position p (map g js) ≡ position p (map h js)
position_same p g h js same =
    let one = length-map js g in
    let other = length-map js h in
    let long : length (map g js) ≡ length (map h js) = omega (arith, one, other) in
    ap (λ (n : ℕ). cond (ltb n (length (map g js))) (Some n) None) (prefix_same p g h js same)
    ∙ ap (λ (len : ℕ). cond (ltb (prefix_len (λ x. not (p x)) (map h js)) len) (Some (prefix_len (λ x. not (p x)) (map h js))) None) long

sums_same : (f : Parts → ℕ) (g h : ℕ → Parts) (js : List ℕ) (a : ℕ) → Each (λ j. f (g j) ≡ f (h j)) js → fold (λ a x. a + f x) a (map g js) ≡ fold (λ a x. a + f x) a (map h js)
sums_same f g h [] a same = refl
sums_same f g h (j ∷ js) a same = ap (λ (n : ℕ). fold (λ a x. a + f x) (a + n) (map g js)) same.0 ∙ sums_same f g h js (a + f (h j)) same.1

pub lib_is : (lib : List Parts) → lib ≡ map (module_of lib) (range_with_len 0 (length lib))
lib_is lib = fill_by_all (module_of lib) lib (length lib) no_module refl (λ k lt. refl)

each_same : {X : Type 0} (f : Parts → X) (lib : List Parts) (k : ℕ) (now : Parts) → f now ≡ f (module_of lib k) → Each (λ j. f (cond (eqb j k) now (module_of lib j)) ≡ f (module_of lib j)) (range_with_len 0 (length lib))
each_same {X} f lib k now same = each_in_range (λ j. f (cond (eqb j k) now (module_of lib j)) ≡ f (module_of lib j)) 0 (length lib) (λ j low lt. by_test j (eqb j k) refl)
  where
    by_test : (j : ℕ) (b : Bool) → eqb j k ≡ b → f (cond b now (module_of lib j)) ≡ f (module_of lib j)
    by_test j true is = same ∙ ap (λ (n : ℕ). f (module_of lib n)) (sym (eqb-true j k is))
    by_test j false is = refl

pub found_same : (p : Parts → Bool) (lib : List Parts) (k : ℕ) (now : Parts) → p now ≡ p (module_of lib k) → position p (with_module lib k now) ≡ position p lib
found_same p lib k now same =
    position_same p (λ j. cond (eqb j k) now (module_of lib j)) (module_of lib) (range_with_len 0 (length lib)) (each_same p lib k now same) ∙ ap (position p) (sym (lib_is lib))

count_same : (f : Parts → ℕ) (lib : List Parts) (k : ℕ) (now : Parts) → f now ≡ f (module_of lib k) → sum_by f (with_module lib k now) ≡ sum_by f lib
count_same f lib k now same =
    sums_same f (λ j. cond (eqb j k) now (module_of lib j)) (module_of lib) (range_with_len 0 (length lib)) 0 (each_same f lib k now same) ∙ ap (sum_by f) (sym (lib_is lib))

-- ---- heads of entries

head_holds : (P : EntryHead → Type 0) (ordinal : ℕ) (head : EntryHead) (es : List Numbered) → Each (λ e. P e.1) es → entry_of es ordinal ≡ Some head → P head
head_holds P ordinal head [] h e = absurd cc
head_holds P ordinal head (x ∷ es) h e = by_test (head_holds P ordinal head es h.1) (eqb x.0 ordinal) e
  where
    by_test : (entry_of es ordinal ≡ Some head → P head) → (b : Bool) → option_map (λ (n : Numbered). n.1) (cond b (Some x) (find (λ n. eqb n.0 ordinal) es)) ≡ Some head → P head
    by_test again true is = let same : x.1 ≡ head = cc in subst P same h.0
    by_test again false is = again is

name_key : (file : List ℕ) (items : List ResItem) (at : ℕ) (name : List ℕ) → CanExtend file items → list_all (is_free file) (name_parts file at) ≡ true → proc_name_of (parts_of file) at ≡ Some name → proc_name_of (parts_of (extended file items)) at ≡ Some name
unfolding parts_of
name_key file items at name can free is = names_stand file items at can (ap is_some is) free ∙ is

-- ---- the library

key_stands : (file : List ℕ) (items : List ResItem) (lib : List Parts) (k at : ℕ) → CanExtend file items → k < length lib → module_of lib k ≡ parts_of file → list_all (is_free file) (name_parts file at) ≡ true →
    KeyStands lib (with_module lib k (parts_of (extended file items))) k (keys.NameAt at)
key_stands file items lib k at can lt is free name there =
    ap (λ (m : Parts). proc_name_of m at) (at_place lib k (parts_of (extended file items)) lt) ∙ name_key file items at name can free (ap (λ (m : Parts). proc_name_of m at) (sym is) ∙ there)

head_stands : (file : List ℕ) (items : List ResItem) (lib : List Parts) (k : ℕ) (head : EntryHead) → CanExtend file items → k < length lib → module_of lib k ≡ parts_of file → HeadFits (length (parts_of file).objects) (length (parts_of file).imports) head →
    list_all (is_free file) (names_of_head file head) ≡ true → HeadStands lib (with_module lib k (parts_of (extended file items))) k head
head_stands file items lib k (At object offset) can lt is fits free =
    ap (λ (m : Parts). object_of m object) (at_place lib k (parts_of (extended file items)) lt) ∙ object_stands file items object can fits ∙ ap (λ (m : Parts). object_of m object) (sym is)
head_stands file items lib k (Gate286 object offset) can lt is fits free = tt
head_stands file items lib k (Forward import (keys.Ordinal ordinal)) can lt is fits free = tt
head_stands file items lib k (Forward import (keys.NameAt at)) can lt is fits free = key_stands file items lib k at can lt is free

head_itself : (lib other : List Parts) (m : ℕ) (head : EntryHead) → module_of other m ≡ module_of lib m → HeadStands lib other m head
head_itself lib other m (At object offset) same = ap (λ (x : Parts). object_of x object) same
head_itself lib other m (Gate286 object offset) same = tt
head_itself lib other m (Forward import (keys.Ordinal ordinal)) same = tt
head_itself lib other m (Forward import (keys.NameAt at)) same = λ name there. ap (λ (x : Parts). proc_name_of x at) same ∙ there

heads_free : (file : List ℕ) (items : List ResItem) → CanExtend file items → Each (λ e. list_all (is_free file) (names_of_head file e.1) ≡ true) (parts_of file).entries
unfolding parts_of
heads_free file items can =
    let q = is_free file in
    let es = value_or [] (entries_of file) in
    let parts = split_all q (flat_map (names_of_target file) (targets_of file)) (flat_map (λ e. names_of_head file e.1) es) (frees file can.clear).names in
    each_tests q (λ (e : Numbered). names_of_head file e.1) es parts.1

heads_stand : (file : List ℕ) (items : List ResItem) (lib : List Parts) (k m ordinal : ℕ) (head : EntryHead) → CanExtend file items → Sound (parts_of file) → k < length lib → module_of lib k ≡ parts_of file →
    entry_of (module_of lib m).entries ordinal ≡ Some head → HeadStands lib (with_module lib k (parts_of (extended file items))) m head
heads_stand file items lib k m ordinal head can sound lt is there = by_test (eqb m k) refl
  where
    both : (h : EntryHead) → HeadFits (length (parts_of file).objects) (length (parts_of file).imports) h × (list_all (is_free file) (names_of_head file h) ≡ true) → HeadStands lib (with_module lib k (parts_of (extended file items))) k h
    both h g = head_stands file items lib k h can lt is g.0 g.1

    by_test : (b : Bool) → eqb m k ≡ b → HeadStands lib (with_module lib k (parts_of (extended file items))) m head
    by_test true e =
        let old = parts_of file in
        let each = each_both (λ (x : Numbered). HeadFits (length old.objects) (length old.imports) x.1) (λ (x : Numbered). list_all (is_free file) (names_of_head file x.1) ≡ true) old.entries
        (recursion_from_All (λ (x : Numbered). HeadFits (length old.objects) (length old.imports) x.1) old.entries sound.entries) (heads_free file items can) in
        let found : entry_of old.entries ordinal ≡ Some head = ap (λ (p : Parts). entry_of p.entries ordinal) (sym is) ∙ ap (λ (n : ℕ). entry_of (module_of lib n).entries ordinal) (sym (eqb-true m k e)) ∙ there in
        let good = head_holds (λ h. HeadFits (length old.objects) (length old.imports) h × (list_all (is_free file) (names_of_head file h) ≡ true)) ordinal head old.entries each found in
        subst (λ (n : ℕ). HeadStands lib (with_module lib k (parts_of (extended file items))) n head) (sym (eqb-true m k e)) (both head good)
    by_test false e = head_itself lib (with_module lib k (parts_of (extended file items))) m head (module_is lib k (parts_of (extended file items)) m lt ∙ ap (λ (b : Bool). cond b (parts_of (extended file items)) (module_of lib m)) e)

pub alike : (file : List ℕ) (items : List ResItem) (lib : List Parts) (k : ℕ) → CanExtend file items → Sound (parts_of file) → k < length lib → module_of lib k ≡ parts_of file → Alike lib (with_module lib k (parts_of (extended file items)))
alike file items lib k can sound lt is =
    let old = parts_of file in
    let now = parts_of (extended file items) in
    let other = with_module lib k now in
    let library : (name : List ℕ) → (is_library_of now && has_name name now) ≡ (is_library_of old && has_name name old) = (λ name.
    ap (λ (flags : ℕ). eqb (bit_and flags MODULE_KIND) MODULE_LIBRARY && has_name name now) (flags_now file items can) ∙ ap (λ (n : List ℕ). is_library_of old && bytes_eq (uppercase n) (uppercase name)) (name_now file items can)) in
    record {
      libraries = λ name. found_same (λ m. is_library_of m && has_name name m) lib k now (library name ∙ ap (λ (m : Parts). is_library_of m && has_name name m) (sym is));
      imports = λ m. all_same (λ p. p.imports) lib k now m lt (imports_now file items can ∙ ap (λ (p : Parts). p.imports) (sym is));
      entries = λ m. all_same (λ p. p.entries) lib k now m lt (entries_now file items can ∙ ap (λ (p : Parts). p.entries) (sym is));
      names = λ m. all_same (λ p. p.names) lib k now m lt (names_now file items can ∙ ap (λ (p : Parts). p.names) (sym is));
      count = count_same (λ m. length m.entries) lib k now (ap (λ (es : List Numbered). length es) (entries_now file items can) ∙ ap (λ (p : Parts). length p.entries) (sym is));
      heads = λ m ordinal head there. heads_stand file items lib k m ordinal head can sound lt is there;
    }

-- ---- targets of sources

parts_number : (file : List ℕ) → length (parts_of file).objects ≡ object_count file
unfolding parts_of
parts_number file = objects_number file

pub target_stands : (file : List ℕ) (items : List ResItem) (lib : List Parts) (k : ℕ) (t : FixTarget) → CanExtend file items → k < length lib → module_of lib k ≡ parts_of file → is_target (targets_in file) t ≡ true → list_all (is_free file) (names_of_target file t) ≡ true →
    TargetStands lib (with_module lib k (parts_of (extended file items))) k t
target_stands file items lib k (targets.Internal object offset) can lt is there free =
    ap (λ (m : Parts). object_of m object) (at_place lib k (parts_of (extended file items)) lt)
    ∙ object_stands file items object can (subst (IsNumberOf object) (sym (parts_number file)) (numbered (object_count file) object there)) ∙ ap (λ (m : Parts). object_of m object) (sym is)
target_stands file items lib k (targets.Ordinal import ordinal) can lt is there free = tt
target_stands file items lib k (targets.Named import at) can lt is there free = key_stands file items lib k at can lt is free
target_stands file items lib k (targets.Own ordinal) can lt is there free = tt

abbrev AllStand : List ℕ → List ResItem → List Parts → ℕ → ℕ × ℕ → Type 0
AllStand file items lib k s = Each (λ f. TargetStands lib (with_module lib k (parts_of (extended file items))) k f.target) (fixes_of (records_at s.0 (span file s.0 s.1)))

none_stand : (file : List ℕ) (items : List ResItem) (lib : List Parts) (k : ℕ) → AllStand file items lib k (0, 0)
none_stand file items lib k = subst (λ (rs : Many Record). Each (λ f. TargetStands lib (with_module lib k (parts_of (extended file items))) k f.target) (fixes_of rs)) (sym (no_records file 0)) tt

targets_stand : (file : List ℕ) (items : List ResItem) (lib : List Parts) (k : ℕ) (p : PageId) → CanExtend file items → k < length lib → module_of lib k ≡ parts_of file → IsOldPage (parts_of file) p →
    Each (λ f. TargetStands lib (with_module lib k (parts_of (extended file items))) k f.target) (sources_of (parts_of file) p)
unfolding sources_of parts_of
targets_stand file items lib k p can lt is old =
    of_records (AllStand file items lib k) file p can.faultless old (none_stand file items lib k) (λ j below.
    each_more (λ f. (is_target (targets_in file) f.target ≡ true) × (list_all (is_free file) (names_of_target file f.target) ≡ true)) (λ f. TargetStands lib (with_module lib k (parts_of (extended file items))) k f.target) (fixes_of (page_records file j))
    (λ f h. target_stands file items lib k f.target can lt is h.0 h.1)
    (each_both (λ f. is_target (targets_in file) f.target ≡ true) (λ f. list_all (is_free file) (names_of_target file f.target) ≡ true) (fixes_of (page_records file j)) (old_targets file j can.faultless below) (names_free file items j can below)))

-- ---- fixups

own_stands : (file : List ℕ) (items : List ResItem) (lib : List Parts) (k : ℕ) (bases : Bases) (p : PageId) (i : ℕ) → CanExtend file items → IsRead (parts_of file) → IsLibrary lib → k < length lib → module_of lib k ≡ parts_of file → IsFit lib k → IsOldPage (parts_of file) p →
    Fixed (with_module lib k (parts_of (extended file items))) k bases p i ≡ Fixed lib k bases p i
own_stands file items lib k bases p i can read library lt is fit old =
    let now = parts_of (extended file items) in
    let other = with_module lib k now in
    let there = at_place lib k now lt in
    let spots = recursion_from_All (HasSpot lib k) (sources_of (module_of lib k) p) (fit_has_spots lib k p library lt fit) in
    let stand = subst (λ (m : Parts). Each (λ f. TargetStands lib other k f.target) (sources_of m p)) (sym is) (targets_stand file items lib k p can lt is old) in
    fixed_stands lib other k bases p i (alike file items lib k can (read_is_sound (parts_of file) read) lt is)
    (ap (λ (m : Parts). sources_of m p) there ∙ sources_stand file items p can old ∙ ap (λ (m : Parts). sources_of m p) (sym is))
    (ap (λ (m : Parts). Raw m p i) there ∙ raw_stands file items p i can old ∙ ap (λ (m : Parts). Raw m p i) (sym is))
    (each_both (λ f. TargetStands lib other k f.target) (HasSpot lib k) (sources_of (module_of lib k) p) stand spots)

pub target_itself : (lib other : List Parts) (m : ℕ) (t : FixTarget) → module_of other m ≡ module_of lib m → TargetStands lib other m t
target_itself lib other m (targets.Internal object offset) same = ap (λ (x : Parts). object_of x object) same
target_itself lib other m (targets.Ordinal import ordinal) same = tt
target_itself lib other m (targets.Named import at) same = λ name there. ap (λ (x : Parts). proc_name_of x at) same ∙ there
target_itself lib other m (targets.Own ordinal) same = tt

other_stands : (file : List ℕ) (items : List ResItem) (lib : List Parts) (k j : ℕ) (bases : Bases) (p : PageId) (i : ℕ) → CanExtend file items → IsRead (parts_of file) → IsLibrary lib → k < length lib → module_of lib k ≡ parts_of file → j < length lib → IsFit lib j → eqb j k ≡ false →
    Fixed (with_module lib k (parts_of (extended file items))) j bases p i ≡ Fixed lib j bases p i
other_stands file items lib k j bases p i can read library lt is below fit apart =
    let now = parts_of (extended file items) in
    let other = with_module lib k now in
    let same : module_of other j ≡ module_of lib j = module_is lib k now j lt ∙ ap (λ (b : Bool). cond b now (module_of lib j)) apart in
    let spots = recursion_from_All (HasSpot lib j) (sources_of (module_of lib j) p) (fit_has_spots lib j p library below fit) in
    fixed_stands lib other j bases p i (alike file items lib k can (read_is_sound (parts_of file) read) lt is) (ap (λ (m : Parts). sources_of m p) same) (ap (λ (m : Parts). Raw m p i) same)
    (each_more (HasSpot lib j) (λ f. TargetStands lib other j f.target × HasSpot lib j f) (sources_of (module_of lib j) p) (λ f spot. (target_itself lib other j f.target same, spot)) spots)

pub fixed_now : (file : List ℕ) (items : List ResItem) → CanExtend file items → IsRead (parts_of file) → FixedStands (parts_of file) (parts_of (extended file items))
fixed_now file items can read lib k j bases p i library lt is below fit old = by_test (eqb j k) refl
  where
    by_test : (b : Bool) → eqb j k ≡ b → Fixed (with_module lib k (parts_of (extended file items))) j bases p i ≡ Fixed lib j bases p i
    by_test true e =
        let same = eqb-true j k e in
        subst (λ (n : ℕ). Fixed (with_module lib k (parts_of (extended file items))) n bases p i ≡ Fixed lib n bases p i) (sym same) (own_stands file items lib k bases p i can read library lt is (subst (IsFit lib) same fit) (old same))
    by_test false e = other_stands file items lib k j bases p i can read library lt is below fit e
