-- A library with the bound module in the old one's place serves as the old library did.
use Rattle.std.proofs.Common.{◌≡◌, ℕ, zero, suc, ◌+◌, ◌<◌, ◌≤◌, Bool, true, false, cond, ltb, eqb, List, [], ◌∷◌, ◌++◌, map, length, Option, Some, None, refl, sym, subst, ap, ◌∙◌, append-nil, arith}
use Rattle.std.specs.Prelude.{filter, option_and_then}
use Rattle.std.specs.List.{flat_map, list_all, range_with_len, AllByRecursion as Each}
use Rattle.std.proofs.lemmas.Grind.{flat_map-append}
use Rattle.std.proofs.lemmas.List.FromFn.{length-map-range_with_len}
use Rattle.std.proofs.lemmas.Bool.{eqb-true}
use Rattle.lx_types.specs.declared.fix.Fix.{Fix}
use Rattle.lx_types.specs.declared.fix.FixTarget.{FixTarget}
use Rattle.lx_types.specs.declared.parts.Parts.{Parts}
use Rattle.lx_model.specs.declared.library.LibraryRefusal.{LibraryRefusal}
use Rattle.lx_model.specs.declared.library.LibraryRefusal.TheVariants.{TooManyModules, NameTwice}
use Rattle.lx_model.specs.Reading.{first, value_or}
use Rattle.lx_model.specs.Header.{page_count}
use Rattle.lx_model.specs.EntryTable.{entries_of}
use Rattle.lx_model.specs.Records.{Record, fixes_of}
use Rattle.lx_model.specs.Reading.{Many}
use Rattle.lx_model.specs.Module.{IsRead, parts_of, page_records, targets_of, is_reference, once, refs_of, is_target, targets_in}
use Rattle.lx_model.specs.Library.{no_module, module_of, has_name, module_named}
use Rattle.lx_model.specs.Gathering.{twice_at, LibraryFault, IsLibrary}
use Rattle.lx_types.specs.declared.limits.TheConstants.{MAX_MODULES}
use Rattle.lx_model.proofs.Each.{each_more, each_filter}
use Rattle.lx_model.proofs.Firsts.{each_entry}
use Rattle.lx_model.proofs.Meaning.{judged}
use Rattle.lx_model.proofs.ReadModules.{read_is_sound}
use Rattle.lx_model.proofs.References.{targets_there, each_once}
use Rattle.res_model.specs.declared.item.ResItem.{ResItem}
use Rattle.res_model.specs.Clear.{names_of_target, names_of_head}
use Rattle.res_model.specs.Placed.{new_page_count}
use Rattle.res_laws.specs.Binding.{with_module}
use Rattle.res_laws.specs.Serving.{Serves, BoundModulesServe}
use Rattle.res_laws.proofs.Lists.{map_range, range_split}
use Rattle.res_laws.proofs.Standing.{extended}
use Rattle.res_laws.proofs.Clear.{frees, is_free, split_all}
use Rattle.res_laws.proofs.Eaches.{each_both, each_tests}
use Rattle.res_laws.proofs.Layouts.{CanExtend}
use Rattle.res_laws.proofs.HeaderNow.{header_now}
use Rattle.res_laws.proofs.RecordsNow.{old_records, new_records}
use Rattle.res_laws.proofs.PartsNow.{name_now}
use Rattle.res_laws.proofs.Alike.{TargetStands, entry_leads}
use Rattle.res_laws.proofs.FixedNow.{module_is, all_same, found_same, at_place, target_stands, target_itself, alike}
use Rattle.res_laws.proofs.Healthy.{RefsStand, order_same, still_fit}
use Rattle.res_laws.proofs.Bindings.{can_extend, read_now, same_library}

-- ---- the references of the bound file

flat_same : {X : Type 0} (f g : ℕ → List X) (a n : ℕ) → ((k : ℕ) → a ≤ k → k < a + n → f k ≡ g k) → flat_map f (range_with_len a n) ≡ flat_map g (range_with_len a n)
flat_same f g a zero same = refl
flat_same {X} f g a (suc n) same =
    ap (λ (xs : List X). xs ++ flat_map f (range_with_len (a + 1) n)) (same a (omega arith) (omega arith))
    ∙ ap (λ (xs : List X). g a ++ xs) (flat_same f g (a + 1) n (λ k low lt. same k (omega (arith, low)) (omega (arith, lt))))

flat_none : {X : Type 0} (f : ℕ → List X) (a n : ℕ) → ((k : ℕ) → k < n → f (a + k) ≡ []) → flat_map f (range_with_len a n) ≡ []
flat_none f a zero none = refl
flat_none {X} f a (suc n) none =
    let here : f a ≡ [] = ap f (omega arith) ∙ none 0 (omega arith) in
    ap (λ (xs : List X). xs ++ flat_map f (range_with_len (a + 1) n)) here ∙ flat_none f (a + 1) n (λ k lt. ap f (omega arith) ∙ none (suc k) (omega (arith, lt)))

abbrev targets_at : List ℕ → ℕ → List FixTarget
targets_at file k = map (λ (f : Fix). f.target) (fixes_of (page_records file k))

targets_same : (file : List ℕ) (items : List ResItem) → CanExtend file items → targets_of (extended file items) ≡ targets_of file
targets_same file items can =
    let now = extended file items in
    let n = page_count file in
    let m = new_page_count items in
    let f = targets_at now in
    let none : 0 + n ≡ n = omega arith in
    ap (λ (c : ℕ). flat_map f (range_with_len 0 c)) (header_now file items can).pages ∙ ap (flat_map f) (range_split 0 n m) ∙ flat_map-append f (range_with_len 0 n) (range_with_len (0 + n) m)
    ∙ ap (λ (ts : List FixTarget). ts ++ flat_map f (range_with_len (0 + n) m)) (flat_same f (targets_at file) 0 n (λ k low lt. ap (λ (rs : Many Record). map (λ (x : Fix). x.target) (fixes_of rs)) (old_records file items k can (omega (arith, lt)))))
    ∙ ap (λ (ts : List FixTarget). targets_of file ++ ts) (flat_none f (0 + n) m (λ k lt.
    ap f (omega arith) ∙ ap (λ (rs : Many Record). map (λ (x : Fix). x.target) (fixes_of rs)) (new_records file items k can lt)))
    ∙ append-nil (targets_of file)

refs_now : (file : List ℕ) (items : List ResItem) → CanExtend file items → (parts_of (extended file items)).refs ≡ (parts_of file).refs
unfolding parts_of refs_of
refs_now file items can = ap (λ (ts : List FixTarget). once (filter is_reference ts)) (targets_same file items can)

abbrev IsKept : List ℕ → FixTarget → Type 0
IsKept file t = (is_target (targets_in file) t ≡ true) × (list_all (is_free file) (names_of_target file t) ≡ true)

refs_kept : (file : List ℕ) (items : List ResItem) → CanExtend file items → Each (IsKept file) (parts_of file).refs
unfolding parts_of refs_of
refs_kept file items can =
    let q = is_free file in
    let parts = split_all q (flat_map (names_of_target file) (targets_of file)) (flat_map (λ e. names_of_head file e.1) (value_or [] (entries_of file))) (frees file can.clear).names in
    let all = each_both (λ t. is_target (targets_in file) t ≡ true) (λ t. list_all q (names_of_target file t) ≡ true) (targets_of file) (targets_there file (judged file can.faultless).records) (each_tests q (names_of_target file) (targets_of file) parts.0) in
    each_once (IsKept file) (filter is_reference (targets_of file))
    (each_more (λ t. IsKept file t × (is_reference t ≡ true)) (IsKept file) (filter is_reference (targets_of file)) (λ t p. p.0) (each_filter (IsKept file) is_reference (targets_of file) all))

each_itself : (lib other : List Parts) (m : ℕ) (ts : List FixTarget) → module_of other m ≡ module_of lib m → Each (TargetStands lib other m) ts
each_itself lib other m [] same = tt
each_itself lib other m (t ∷ ts) same = (target_itself lib other m t same, each_itself lib other m ts same)

refs_stand : (file : List ℕ) (items : List ResItem) (lib : List Parts) (k by : ℕ) → CanExtend file items → k < length lib → module_of lib k ≡ parts_of file → RefsStand lib (with_module lib k (parts_of (extended file items))) by
refs_stand file items lib k by can lt is = by_test (eqb by k) refl
  where
    own : RefsStand lib (with_module lib k (parts_of (extended file items))) k
    own =
        let now = parts_of (extended file items) in
        let other = with_module lib k now in (
          ap (λ (m : Parts). m.refs) (at_place lib k now lt) ∙ refs_now file items can ∙ ap (λ (m : Parts). m.refs) (sym is),
          subst (λ (m : Parts). Each (TargetStands lib other k) m.refs) (sym is)
              (each_more (IsKept file) (TargetStands lib other k) (parts_of file).refs (λ t h. target_stands file items lib k t can lt is h.0 h.1) (refs_kept file items can)),
        )

    by_test : (b : Bool) → eqb by k ≡ b → RefsStand lib (with_module lib k (parts_of (extended file items))) by
    by_test true e = subst (RefsStand lib (with_module lib k (parts_of (extended file items)))) (sym (eqb-true by k e)) own
    by_test false e =
        let now = parts_of (extended file items) in
        let same = module_is lib k now by lt ∙ ap (λ (b : Bool). cond b now (module_of lib by)) e in
        (ap (λ (m : Parts). m.refs) same, each_itself lib (with_module lib k now) by (module_of lib by).refs same)

-- ---- a library

length_same : (lib : List Parts) (k : ℕ) (now : Parts) → length (with_module lib k now) ≡ length lib
length_same lib k now = length-map-range_with_len (λ j. cond (eqb j k) now (module_of lib j)) 0 (length lib)

twice_same : (lib : List Parts) (k : ℕ) (now : Parts) (j : ℕ) → k < length lib → now.name ≡ (module_of lib k).name → twice_at (with_module lib k now) j ≡ twice_at lib j
twice_same lib k now j lt same =
    let f = (λ (first : ℕ). cond (ltb first j) (Some (NameTwice first j)) None) in
    ap (λ (name : List ℕ). option_and_then f (module_named (with_module lib k now) name)) (all_same (λ m. m.name) lib k now j lt same)
    ∙ ap (option_and_then f) (found_same (has_name (module_of lib j).name) lib k now (name_same (module_of lib j).name))
  where
    name_same : (name : List ℕ) → has_name name now ≡ has_name name (module_of lib k)
    name_same name = ap (λ (n : List ℕ). has_name name (record no_module { name = n })) same

still_library : (lib : List Parts) (k : ℕ) (now : Parts) → k < length lib → now.name ≡ (module_of lib k).name → IsRead now → IsLibrary lib → IsLibrary (with_module lib k now)
unfolding LibraryFault
still_library lib k now lt same read library = record {
  faultless = ap (λ (n : ℕ). cond (ltb MAX_MODULES n) (Some (TooManyModules n)) (first (map (twice_at (with_module lib k now)) (range_with_len 0 n)))) (length_same lib k now)
      ∙ ap (λ (os : List (Option LibraryRefusal)). cond (ltb MAX_MODULES (length lib)) (Some (TooManyModules (length lib))) (first os)) (map_range (twice_at (with_module lib k now)) (twice_at lib) 0 0 (length lib) (λ j below. twice_same lib k now (0 + j) lt same))
      ∙ library.faultless;
  read = each_entry IsRead (λ j. cond (eqb j k) now (module_of lib j)) (length lib) (λ j below. by_test j (eqb j k) below);
}
  where
    by_test : (j : ℕ) (b : Bool) → j < length lib → IsRead (cond b now (module_of lib j))
    by_test j true below = read
    by_test j false below = library.read j no_module below

-- ---- all of it

served : (file : List ℕ) (items : List ResItem) (lib : List Parts) (k : ℕ) → CanExtend file items → IsRead (parts_of file) → IsLibrary lib → k < length lib → module_of lib k ≡ parts_of file → Serves lib (with_module lib k (parts_of (extended file items)))
served file items lib k can read library lt is =
    let now = parts_of (extended file items) in
    let other = with_module lib k now in
    let same = alike file items lib k can (read_is_sound (parts_of file) read) lt is in
    let long = length_same lib k now in
    record {
      library = still_library lib k now lt (name_now file items can ∙ ap (λ (m : Parts). m.name) (sym is)) (read_now file items can) library;
      order = λ m. order_same lib other m same long;
      fit = λ m fit. still_fit lib other m same long (λ by. refs_stand file items lib k by can lt is) fit;
      entries = λ place s e. (entry_leads lib other place s same e).0;
    }

itself : (lib : List Parts) → IsLibrary lib → Serves lib lib
itself lib library = record { library = library; order = λ m. refl; fit = λ m fit. fit; entries = λ place s e. e }

pub bound_modules_serve : BoundModulesServe
bound_modules_serve m [] lib k can library lt is =
    let same = can.read.means.parts in
    subst (λ (x : Parts). Serves lib (with_module lib k x)) same (subst (Serves lib) (sym (same_library lib k m is)) (itself lib library))
bound_modules_serve m (i ∷ items) lib k can library lt is =
    let same = can.read.means.parts in
    served m.file (i ∷ items) lib k (can_extend m i items can) (subst IsRead same can.read) library lt (is ∙ same)
