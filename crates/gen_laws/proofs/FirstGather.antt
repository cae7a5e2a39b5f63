-- The first modules are a library: each has its own name, which is that of its number.
use Rattle.std.specs.Prelude.{◌≡◌, ℕ, ◌+◌, ◌<◌, ◌≤◌, ◌==◌, Bool, true, cond, List, [], ◌∷◌, Option, Some, None, bit_and, if◌then◌else◌, length, map, nat_lt, refl}
use Rattle.std.specs.List.{range_with_len}
use Rattle.std.specs.Option.{option_and_then}
use Rattle.std.proofs.Common.{ap, sym, ◌∙◌, arith}
use Rattle.std.proofs.lemmas.Bool.{le-ltb}
use Rattle.std.proofs.lemmas.List.Quantifiers.{position-Some}
use Rattle.std.proofs.lemmas.Slice.Eq.{bytes_eq-Decides}
use Rattle.lx_types.specs.Names.{uppercase}
use Rattle.lx_types.specs.Parts.{is_library_of}
use Rattle.lx_types.specs.declared.parts.Parts.{Parts}
use Rattle.lx_types.specs.declared.parts.TheConstants.{MODULE_LIBRARY}
use Rattle.link_model.specs.Header as header
use Rattle.link_model.specs.Layout.{objects}
use Rattle.link_model.specs.Link.{Link}
use Rattle.lx_model.specs.Gathering.{LibraryFault, twice_at}
use Rattle.lx_types.specs.declared.limits.TheConstants.{MAX_MODULES}
use Rattle.lx_model.specs.Library.{no_module, module_of, has_name, module_named}
use Rattle.lx_model.specs.Reading.{first}
use Rattle.lx_model.specs.declared.library.LibraryRefusal.{LibraryRefusal}
use Rattle.lx_model.specs.declared.library.LibraryRefusal.TheVariants.{NameTwice, TooManyModules}
use Rattle.image_model.specs.Linked.{module_flags}
use Rattle.image_model.specs.LinkLaws.{laid}
use Rattle.image_model.proofs.Faultless.{all_none}
use Rattle.image_model.proofs.LinksRead.{links_read}
use Rattle.layer_laws.proofs.ImagesFit.{images_fit}
use Rattle.gen_model.specs.Modules.{gen_input, module_name}
use Rattle.gen_model.specs.Sums.{library_of}
use Rattle.gen_laws.specs.Laws.{AreFirst, FirstGather, InputsAreWhole}
use Rattle.gen_laws.proofs.FirstKnown.{At, at, library_holds, library_long}
use Rattle.gen_laws.proofs.FirstNames.{name_in_upper, names_differ}
use Rattle.gen_laws.proofs.FirstShape.{gen_link, the_object, its_objects}

-- ---- what a library of them holds

-- Module m of a library is the module of a number.
pub record Stands (lib : List Parts) (m k : ℕ) : Type 0 where
  pub name : (module_of lib m).name ≡ module_name k
  pub library : is_library_of (module_of lib m) ≡ true
  pub objects : map laid (module_of lib m).objects ≡ the_object ∷ []

named : (k : ℕ) → header.module_name (gen_link k) ≡ uppercase (module_name k)
unfolding header.module_name
named k = refl

flagged : (k : ℕ) → (bit_and (module_flags (gen_link k).def) 0x38000 == MODULE_LIBRARY) ≡ true
flagged k = refl

pub stands : (links : List Link) (i k : ℕ) → k ≤ 64 → At links i k → Stands (library_of links) i k
stands links i k few there =
    let l = there.link in
    let is = there.known.is in
    let holds = library_holds links i l there.is in
    let read = links_read l (images_fit (gen_input k) l there.known.links there.known.short) in
    record {
      name = ap (λ (p : Parts). p.name) holds ∙ read.name ∙ ap header.module_name is ∙ named k ∙ name_in_upper k (omega (arith, few));
      library = ap is_library_of holds ∙ ap (λ (f : ℕ). bit_and f 0x38000 == MODULE_LIBRARY) (read.flags ∙ ap (λ (x : Link). module_flags x.def) is) ∙ flagged k;
      objects = ap (λ (p : Parts). map laid p.objects) holds ∙ read.objects ∙ ap objects is ∙ its_objects k;
    }

-- ---- each has its own name

same_number : (lib : List Parts) (i j k n : ℕ) → k ≤ 64 → n ≤ 64 → Stands lib i k → Stands lib j n → has_name (module_of lib i).name (module_of lib j) ≡ true → n ≡ k
same_number lib i j k n hk hn one other e =
    let equal : uppercase (module_of lib j).name ≡ uppercase (module_of lib i).name = (bytes_eq-Decides (uppercase (module_of lib j).name) (uppercase (module_of lib i).name)).0 e in
    names_differ n k (omega (arith, hn)) (omega (arith, hk))
    (sym (name_in_upper n (omega (arith, hn))) ∙ ap uppercase (sym other.name) ∙ equal ∙ ap uppercase one.name ∙ name_in_upper k (omega (arith, hk)))

none_before : (lib : List Parts) (second : ℕ) (found : Option ℕ) → ((j : ℕ) → found ≡ Some j → j ≡ second) → option_and_then (λ j. if nat_lt j second then Some (NameTwice j second) else None) found ≡ None
none_before lib second None only = refl
none_before lib second (Some j) only =
    let at_least : second ≤ j = (let same = only j refl in omega (arith, same)) in
    ap (λ (b : Bool). cond b (Some (NameTwice j second)) None) (le-ltb j second at_least)

few_enough : (lib : List Parts) (rest : Option LibraryRefusal) → length lib ≤ 64 → rest ≡ None → cond (nat_lt MAX_MODULES (length lib)) (Some (TooManyModules (length lib))) rest ≡ None
few_enough lib rest few none =
    ap (λ (b : Bool). cond b (Some (TooManyModules (length lib))) rest) (le-ltb MAX_MODULES (length lib) few) ∙ none

by_names : (lib : List Parts) → length lib ≤ 64 → ((i : ℕ) → i < length lib → Stands lib i (1 + i)) → LibraryFault lib ≡ None
unfolding LibraryFault
by_names lib few each =
    few_enough lib (first (map (twice_at lib) (range_with_len 0 (length lib)))) few
    (all_none (twice_at lib) 0 (length lib) (λ i low high.
    none_before lib i (module_named lib (module_of lib i).name) (λ j is. only i (omega (arith, high)) j is)))
  where
    only : (i : ℕ) → i < length lib → (j : ℕ) → module_named lib (module_of lib i).name ≡ Some j → j ≡ i
    only i lt j is =
        let found = position-Some (has_name (module_of lib i).name) lib j no_module is in
        let below = found.0 in
        let same = same_number lib i j (1 + i) (1 + j) (omega (arith, few, lt)) (omega (arith, few, below)) (each i lt) (each j below) found.1 in
        omega (arith, same)

pub stands_at : (whole : InputsAreWhole) (links : List Link) → AreFirst links → (i : ℕ) → i < length (library_of links) → Stands (library_of links) i (1 + i)
stands_at whole links first i lt =
    let below : i < length links = (let long = library_long links in omega (arith, lt, long)) in
    stands links i (1 + i) (let few = first.few in omega (arith, few, below)) (at whole links i first below)

pub first_gather : InputsAreWhole → FirstGather
first_gather whole links first =
    by_names (library_of links) (let long = library_long links in let few = first.few in omega (arith, long, few)) (stands_at whole links first)
