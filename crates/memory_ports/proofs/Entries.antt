-- What entries hold under a name, by the place of the first entry of that name.
use Rattle.std.proofs.Common.{◌≡◌, ◌≢◌, ℕ, ◌<◌, ◌≤◌, Bool, true, false, Option, Some, None, List, [], ◌∷◌, ◌++◌, length, get_or, refl, sym, ◌∙◌, ap, arith, find, option_map, string_bytes}
use Rattle.std.proofs.lemmas.Bool.{false_from_ne_true}
use Rattle.std.proofs.lemmas.Bool.Decides.{nat_tests}
use Rattle.std.proofs.lemmas.List.Folds.{find_at, find-set, find_past, find-append}
use Rattle.std.proofs.lemmas.List.Quantifiers.{position-Some}
use Rattle.std.proofs.lemmas.Option.{slice_get-get_or, slice_get_past}
use Rattle.std.specs.List.{position, position_or_len}
use Rattle.std.specs.Option.{option_or}
use Rattle.std.proofs.lemmas.Slice.Eq.{bytes_eq-Decides}
use Rattle.std.proofs.Math.ListN.{set}
use Rattle.memory_ports.specs.Names.{Entry, is_named, contents_in}

bytes_of : (entries : List Entry) (name : List ℕ) (found : Option Entry) → find (is_named name) entries ≡ found → contents_in entries name ≡ option_map (λ (e : Entry). e.1.items) found
bytes_of entries name found is = ap (option_map (λ (e : Entry). e.1.items)) is

-- an entry of one name has no other
other_name : (name other : List ℕ) (entry : Entry) → other ≢ name → is_named name entry ≡ true → is_named other entry ≡ false
other_name name other entry differ named =
    false_from_ne_true _ (λ same. differ ((bytes_eq-Decides other _).0 same ∙ sym ((bytes_eq-Decides name _).0 named)))

place_found : (p : Entry → Bool) (entries : List Entry) (place : ℕ) → position p entries ≡ Some place → (place ≡ position_or_len p entries) × (place < length entries)
place_found p entries place is = grind (arith, nat_tests)

past_all : (p : Entry → Bool) (entries : List Entry) → position p entries ≡ None → length entries ≤ position_or_len p entries
past_all p entries is = grind (arith, nat_tests)

none_found : (p : Entry → Bool) (entries : List Entry) → position p entries ≡ None → find p entries ≡ None
none_found p entries is = find_at p entries ∙ slice_get_past entries _ (past_all p entries is)

pub held-place : (name : List ℕ) (entries : List Entry) (place : ℕ) (d : Entry) → position (is_named name) entries ≡ Some place → contents_in entries name ≡ Some (get_or entries place d).1.items
held-place name entries place d is =
    let found = place_found (is_named name) entries place is in
    bytes_of entries name (Some (get_or entries place d)) (find_at (is_named name) entries ∙ rw (← found.0) (slice_get-get_or entries place d found.1))

pub held-none : (name : List ℕ) (entries : List Entry) → position (is_named name) entries ≡ None → contents_in entries name ≡ None
held-none name entries is = bytes_of entries name None (none_found (is_named name) entries is)

pub held-set : (name : List ℕ) (entries : List Entry) (place : ℕ) (entry : Entry) → position (is_named name) entries ≡ Some place → is_named name entry ≡ true → contents_in (set entries place entry) name ≡ Some entry.1.items
held-set name entries place entry is named =
    let found = place_found (is_named name) entries place is in
    bytes_of (set entries place entry) name (Some entry) (find-set (is_named name) entries place entry found.0 found.1 named)

pub held-set_other : (name other : List ℕ) (entries : List Entry) (place : ℕ) (entry d : Entry) → position (is_named name) entries ≡ Some place → is_named name entry ≡ true → other ≢ name → contents_in (set entries place entry) other ≡ contents_in entries other
held-set_other name other entries place entry d is named differ =
    let was : is_named name (get_or entries place d) ≡ true = (position-Some (is_named name) entries place d is).1 in
    bytes_of (set entries place entry) other (find (is_named other) entries)
    (find_past (is_named other) entries place entry d (other_name name other (get_or entries place d) differ was) (other_name name other entry differ named))

pub held-push : (name : List ℕ) (entries : List Entry) (entry : Entry) → position (is_named name) entries ≡ None → is_named name entry ≡ true → contents_in (entries ++ entry ∷ []) name ≡ Some entry.1.items
held-push name entries entry none named =
    let none_there : find (is_named name) entries ≡ None = none_found (is_named name) entries none in
    bytes_of (entries ++ entry ∷ []) name (Some entry) (find-append (is_named name) entries (entry ∷ []) ∙ rw (none_there, named) refl)

or_none : (found : Option Entry) → option_or found None ≡ found
or_none None = refl
or_none (Some entry) = refl

pub held-push_other : (name other : List ℕ) (entries : List Entry) (entry : Entry) → is_named name entry ≡ true → other ≢ name → contents_in (entries ++ entry ∷ []) other ≡ contents_in entries other
held-push_other name other entries entry named differ =
    let apart : is_named other entry ≡ false = other_name name other entry differ named in
    bytes_of (entries ++ entry ∷ []) other (find (is_named other) entries) (find-append (is_named other) entries (entry ∷ []) ∙ rw apart (or_none _))

-- an entry whose name is this one
pub own_name : (name : List ℕ) (entry : Entry) → string_bytes entry.0 ≡ name → is_named name entry ≡ true
own_name name entry is = (bytes_eq-Decides name (string_bytes entry.0)).1 (sym is)

-- the entry at the place of a name has that name
pub place_named : (name : List ℕ) (entries : List Entry) (place : ℕ) (d : Entry) → position (is_named name) entries ≡ Some place → d ≡ get_or entries place d → is_named name d ≡ true
place_named name entries place d is there = rw there (position-Some (is_named name) entries place d is).1
