-- No two modules of a library have one name.
use Rattle.std.proofs.Common.{◌≡◌, ℕ, ◌<◌, ◌≤◌, Bool, true, false, cond, List, Option, Some, None, length, map, get_or, refl, ap, sym, ◌∙◌, arith, true≢false}
use Rattle.process_pages.proofs.Words.{bytes_eq, has_name, if◌then◌else◌, is_some, lt-ltb, module_named, module_of, nat_lt, nat_tests, no_module, Parts}
use Rattle.process_pages.proofs.Words.{position, position_or_len, range_with_len}
use Rattle.std.specs.Option.{option_and_then}
use Rattle.std.proofs.lemmas.List.Sums.{fails_before_first}
use Rattle.std.proofs.lemmas.Slice.Eq.{bytes_eq-Decides}
use Rattle.lx_types.specs.Names.{uppercase}
use Rattle.lx_model.specs.Gathering.{LibraryFault, IsLibrary, twice_at}
use Rattle.lx_types.specs.declared.limits.TheConstants.{MAX_MODULES}
use Rattle.lx_model.specs.Reading.{first}
use Rattle.lx_model.specs.declared.library.LibraryRefusal.{LibraryRefusal}
use Rattle.lx_model.specs.declared.library.LibraryRefusal.TheVariants.{NameTwice, TooManyModules}
use Rattle.lx_model.proofs.Firsts.{first_none}
use Rattle.process_pages.proofs.Positions.{is_less}

-- ---- the first place that passes

below : (a b : ℕ) → nat_lt a b ≡ true → a < b
below a b h = grind (arith, nat_tests)

above : (a b : ℕ) → nat_lt a b ≡ false → b ≤ a
above a b h = grind (arith, nat_tests)

-- It is at one that passes, or before it.
record Earlier {X : Type 0} (test : X → Bool) (xs : List X) (k : ℕ) : Type 0 where
  place : ℕ
  is : position test xs ≡ Some place
  most : place ≤ k

earlier : {X : Type 0} (test : X → Bool) (xs : List X) (k : ℕ) (d : X) → k < length xs → test (get_or xs k d) ≡ true → Earlier test xs k
earlier test xs k d lt here = by (nat_lt k (position_or_len test xs)) refl
  where
    by : (b : Bool) → nat_lt k (position_or_len test xs) ≡ b → Earlier test xs k
    by true is = absurd (true≢false (sym here ∙ fails_before_first test xs k d (below k (position_or_len test xs) is)))
    by false is =
        let most = above k (position_or_len test xs) is in
        record {
          place = position_or_len test xs;
          is = ap (λ (b : Bool). cond b (Some (position_or_len test xs)) None) (lt-ltb (position_or_len test xs) (length xs) (omega (arith, most, lt)));
          most = most;
        }

-- ---- names of a library

past_none : (b : Bool) (r : LibraryRefusal) (rest : Option LibraryRefusal) → cond b (Some r) rest ≡ None → rest ≡ None
past_none true r rest e = absurd (true≢false (ap is_some e))
past_none false r rest e = e

none_twice : (lib : List Parts) (m : ℕ) → IsLibrary lib → m < length lib → twice_at lib m ≡ None
unfolding LibraryFault
none_twice lib m is lt =
    let rest = past_none (nat_lt MAX_MODULES (length lib)) (TooManyModules (length lib)) (first (map (twice_at lib) (range_with_len 0 (length lib)))) is.faultless in
    first_none (twice_at lib) 0 (length lib) m rest (omega arith) (omega (arith, lt))

named_twice : (lib : List Parts) (m j : ℕ) → module_named lib (module_of lib m).name ≡ Some j → j < m → twice_at lib m ≡ Some (NameTwice j m)
named_twice lib m j e lt =
    ap (option_and_then (λ first. if nat_lt first m then Some (NameTwice first m) else None)) e
    ∙ ap (λ (b : Bool). cond b (Some (NameTwice j m)) None) (is_less j m lt)

-- it is the first of its own name
own_name : (lib : List Parts) (m : ℕ) → IsLibrary lib → m < length lib → module_named lib (module_of lib m).name ≡ Some m
own_name lib m is lt =
    let own = (bytes_eq-Decides (uppercase (module_of lib m).name) (uppercase (module_of lib m).name)).1 refl in
    let r = earlier (has_name (module_of lib m).name) lib m no_module lt own in
    by r (nat_lt r.place m) refl
  where
    by : (r : Earlier (has_name (module_of lib m).name) lib m) (b : Bool) → nat_lt r.place m ≡ b → module_named lib (module_of lib m).name ≡ Some m
    by r true before = absurd (true≢false (sym (ap is_some (named_twice lib m r.place r.is (below r.place m before))) ∙ ap is_some (none_twice lib m is lt)))
    by r false e =
        let most = r.most in
        let high = above r.place m e in
        let same : r.place ≡ m = omega (arith, most, high) in
        r.is ∙ ap (λ (k : ℕ). Some k) same

-- A name that a module has means this module.
pub meant : (lib : List Parts) (m : ℕ) (name : List ℕ) → IsLibrary lib → m < length lib → has_name name (module_of lib m) ≡ true → module_named lib name ≡ Some m
meant lib m name is lt has =
    let same : uppercase (module_of lib m).name ≡ uppercase name = (bytes_eq-Decides (uppercase (module_of lib m).name) (uppercase name)).0 has in
    ap (λ (letters : List ℕ). position (λ (p : Parts). bytes_eq (uppercase p.name) letters) lib) (sym same) ∙ own_name lib m is lt
