-- A library holds the module of a link of kind LIBRARY under the link's name.
use Rattle.std.specs.Prelude.{◌≡◌, ℕ, ◌+◌, ◌<◌, ◌≤◌, ◌==◌, ◌&&◌, nat_lt, not, Bool, true, false, cond, List, Option, Some, None, length, map, position, bit_and, get_or, is_some, if◌then◌else◌, unwrap_or, refl}
use Rattle.std.specs.List.{position_or_len, range_with_len}
use Rattle.std.specs.Option.{option_and_then}
use Rattle.std.proofs.Common.{ap, sym, ◌∙◌, arith, true≢false}
use Rattle.std.proofs.lemmas.Bool.{lt-ltb, and_from, and_right}
use Rattle.std.proofs.lemmas.Bool.Decides.{nat_tests}
use Rattle.std.proofs.lemmas.List.Sums.{position_or_len_is, fails_before_first}
use Rattle.std.proofs.lemmas.Slice.Eq.{bytes_eq-Decides}
use Rattle.lx_types.specs.Names.{uppercase}
use Rattle.lx_types.specs.Parts.{is_library_of}
use Rattle.lx_types.specs.declared.parts.Parts.{Parts}
use Rattle.lx_types.specs.declared.parts.TheConstants.{MODULE_KIND, MODULE_LIBRARY, MODULE_INIT_EACH, MODULE_TERM_EACH}
use Rattle.obj_types.specs.declared.definition.ModKind.{ModKind}
use Rattle.obj_types.specs.declared.definition.ModKind.TheVariants.{Program, Library}
use Rattle.link_model.specs.Flags.{flag}
use Rattle.link_model.specs.Header.{module_name}
use Rattle.link_model.specs.Link.{Link}
use Rattle.link_model.specs.Order.{is_program}
use Rattle.link_model.proofs.KeyTests.{name_equal}
use Rattle.lx_model.specs.Gathering.{LibraryFault, IsLibrary, twice_at}
use Rattle.lx_types.specs.declared.limits.TheConstants.{MAX_MODULES}
use Rattle.lx_model.specs.Library.{no_module, module_of, has_name, module_named, library_named}
use Rattle.lx_model.specs.Reading.{first}
use Rattle.lx_model.specs.declared.library.LibraryRefusal.{LibraryRefusal}
use Rattle.lx_model.specs.declared.library.LibraryRefusal.TheVariants.{NameTwice, TooManyModules}
use Rattle.lx_model.proofs.Firsts.{first_none}
use Rattle.image_model.specs.Linked.{image_of}
use Rattle.image_model.proofs.LinksRead.{links_read}
use Rattle.image_model.proofs.PartsRead.{parts_read}
use Rattle.implib_model.specs.Imports.{name_or}
use Rattle.layer_laws.proofs.ForwardersNamed.{uppercase-twice}
use Rattle.layer_laws.proofs.LoadedPages.{Loaded}

-- ---- the first place that passes

first_place : {X : Type 0} (test : X → Bool) (xs : List X) (i : ℕ) (d : X) → i < length xs → ((k : ℕ) → k < i → test (get_or xs k d) ≡ false) → test (get_or xs i d) ≡ true → position test xs ≡ Some i
first_place test xs i d lt before here =
    let is : position_or_len test xs ≡ i = position_or_len_is test xs i d (omega (arith, lt)) before (λ h. here) in
    ap (λ (b : Bool). cond b (Some (position_or_len test xs)) None) (lt-ltb (position_or_len test xs) (length xs) (omega (arith, is, lt))) ∙ ap (λ (k : ℕ). some_number k) is
  where
    some_number : ℕ → Option ℕ
    some_number k = Some k

-- ---- no two modules of a library have a name

past_none : (b : Bool) (r : LibraryRefusal) (rest : Option LibraryRefusal) → cond b (Some r) rest ≡ None → rest ≡ None
past_none true r rest e = absurd (true≢false (ap is_some e))
past_none false r rest e = e

none_twice : (lib : List Parts) (m : ℕ) → IsLibrary lib → m < length lib → twice_at lib m ≡ None
unfolding LibraryFault
none_twice lib m is lt =
    let rest = past_none (nat_lt MAX_MODULES (length lib)) (TooManyModules (length lib)) (first (map (twice_at lib) (range_with_len 0 (length lib)))) is.faultless in
    first_none (twice_at lib) 0 (length lib) m rest (omega arith) (omega (arith, lt))

named_twice : (lib : List Parts) (m j : ℕ) → module_named lib (module_of lib m).name ≡ Some j → j < m → twice_at lib m ≡ Some (NameTwice j m)
named_twice lib m j e lt =
    ap (option_and_then (λ first. if nat_lt first m then Some (NameTwice first m) else None)) e
    ∙ ap (λ (b : Bool). cond b (Some (NameTwice j m)) None) (lt-ltb j m lt)

-- The first place that passes, at one that passes or before it.
record Earlier {X : Type 0} (test : X → Bool) (xs : List X) (k : ℕ) : Type 0 where
  place : ℕ
  is : position test xs ≡ Some place
  most : place ≤ k

earlier : {X : Type 0} (test : X → Bool) (xs : List X) (k : ℕ) (d : X) → k < length xs → test (get_or xs k d) ≡ true → Earlier test xs k
earlier test xs k d lt here = by (nat_lt k (position_or_len test xs)) refl
  where
    below : (a b : ℕ) → nat_lt a b ≡ true → a < b
    below a b h = grind (arith, nat_tests)

    above : (a b : ℕ) → nat_lt a b ≡ false → b ≤ a
    above a b h = grind (arith, nat_tests)

    by : (b : Bool) → nat_lt k (position_or_len test xs) ≡ b → Earlier test xs k
    by true is = absurd (true≢false (sym here ∙ fails_before_first test xs k d (below k (position_or_len test xs) is)))
    by false is =
        let most = above k (position_or_len test xs) is in
        record {
          place = position_or_len test xs;
          is = ap (λ (b : Bool). cond b (Some (position_or_len test xs)) None) (lt-ltb (position_or_len test xs) (length xs) (omega (arith, most, lt)));
          most = most;
        }

-- A module before one of this name has another.
another_before : (lib : List Parts) (m : ℕ) (name : List ℕ) → IsLibrary lib → m < length lib → has_name name (module_of lib m) ≡ true → (k : ℕ) → k < m → has_name name (module_of lib k) ≡ false
another_before lib m name is lt own k before = by (has_name name (module_of lib k)) refl
  where
    by : (b : Bool) → has_name name (module_of lib k) ≡ b → has_name name (module_of lib k) ≡ false
    by true e =
        let same : uppercase (module_of lib k).name ≡ uppercase (module_of lib m).name = name_equal (uppercase (module_of lib k).name) (uppercase name) e ∙ sym (name_equal (uppercase (module_of lib m).name) (uppercase name) own) in
        let named : has_name (module_of lib m).name (module_of lib k) ≡ true = (bytes_eq-Decides (uppercase (module_of lib k).name) (uppercase (module_of lib m).name)).1 same in
        let r = earlier (has_name (module_of lib m).name) lib k no_module (omega (arith, lt, before)) named in
        let most = r.most in
        absurd (true≢false (sym (ap is_some (named_twice lib m r.place r.is (omega (arith, most, before)))) ∙ ap is_some (none_twice lib m is lt)))
    by false e = e

held : (lib : List Parts) (m : ℕ) (name : List ℕ) → IsLibrary lib → m < length lib → is_library_of (module_of lib m) ≡ true → has_name name (module_of lib m) ≡ true → library_named lib name ≡ Some m
held lib m name is lt library own =
    first_place (λ p. is_library_of p && has_name name p) lib m no_module lt
    (λ k before. and_right (is_library_of (module_of lib k)) (has_name name (module_of lib k)) (another_before lib m name is lt own k before))
    (and_from (is_library_of (module_of lib m)) (has_name name (module_of lib m)) library own)

-- ---- the module of a link

library_flags : (kind : ModKind) (init_each term_each : Bool) → kind ≡ Library → (bit_and (flag (not (is_program kind)) MODULE_LIBRARY + flag init_each MODULE_INIT_EACH + flag term_each MODULE_TERM_EACH) MODULE_KIND == MODULE_LIBRARY) ≡ true
library_flags Program i t e = absurd (true≢false (ap is_program e))
library_flags Library true true e = refl
library_flags Library true false e = refl
library_flags Library false true e = refl
library_flags Library false false e = refl

called_is : (name : Option (List ℕ)) (stem : List ℕ) → unwrap_or name stem ≡ name_or name stem
called_is None stem = refl
called_is (Some n) stem = refl

link_name : (l : Link) → uppercase (module_name l) ≡ uppercase (name_or l.def.name l.stem)
unfolding module_name
link_name l = uppercase-twice (unwrap_or l.def.name l.stem) ∙ ap uppercase (called_is l.def.name l.stem)

-- Under each spelling of the name of NAME or LIBRARY, or of the stem.
pub module-held : (l : Link) (lib : List Parts) (m : ℕ) → Loaded l lib m → l.def.kind ≡ Library → IsLibrary lib → m < length lib → (name : List ℕ) → uppercase name ≡ uppercase (name_or l.def.name l.stem) → library_named lib name ≡ Some m
module-held l lib m loaded kind is lt name same =
    let read = links_read l loaded.fits in
    let parts = loaded.is ∙ sym (parts_read (image_of l) loaded.fits) in
    let flags = ap (λ (p : Parts). p.flags) parts ∙ read.flags in
    let named = ap (λ (p : Parts). uppercase p.name) parts ∙ ap uppercase read.name ∙ link_name l ∙ sym same in
    held lib m name is lt
    (ap (λ (f : ℕ). bit_and f MODULE_KIND == MODULE_LIBRARY) flags ∙ library_flags l.def.kind l.def.init_each l.def.term_each kind)
    ((bytes_eq-Decides (uppercase (module_of lib m).name) (uppercase name)).1 named)
