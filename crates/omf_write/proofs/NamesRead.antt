-- Each name of a written object file has its index.
use Rattle.std.proofs.Common.{◌≡◌, ℕ, suc, ◌+◌, ◌<◌, ◌≤◌, Bool, true, false, cond, List, [], ◌∷◌, ◌++◌, length, get_or, Some, None, refl, sym, ap, ◌∙◌, append_assoc, arith, add-one}
use Rattle.std.proofs.lemmas.List.{length-map, get_or-map, append-nil}
use Rattle.std.proofs.lemmas.List.Sums.{passes_at_first}
use Rattle.std.proofs.lemmas.List.Folds.{list_any-append}
use Rattle.std.proofs.lemmas.Option.{unwrap_or-slice_get}
use Rattle.std.proofs.lemmas.Slice.Eq.{bytes_eq-Decides}
use Rattle.std.proofs.lemmas.Bool.Decides.{nat_tests}
use Rattle.std.proofs.lemmas.List.Sums.{prefix_len-le-length}
use Rattle.std.specs.Prelude.{bytes_eq, unwrap_or, nat_lt, not, is_some}
use Rattle.std.specs.List.{list_any, position, position_or_len}
use Rattle.lx_types.proofs.Bools.{some_by}
use Rattle.obj_types.specs.Items.{item}
use Rattle.name_table.specs.Entries.{is_named, with_entry}
use Rattle.omf_model.specs.Items.{name_with}
use Rattle.implib_model.specs.Framed.{record_of, name_bytes}
use Rattle.omf_write.specs.ObjectBytes.{lnames_record, name_records}
use Rattle.omf_write.specs.ObjectNames.{NameList, with_names, texts, name_index}

abbrev pub IsThere : NameList → List ℕ → Type 0
IsThere entries name = list_any (is_named name) entries ≡ true

place_by : (b : Bool) (name : List ℕ) (e : List ℕ × ℕ) (xs : NameList) → is_named name e ≡ b → ((list_any (is_named name) xs ≡ true) → position_or_len (is_named name) xs < length xs) → list_any (is_named name) (e ∷ xs) ≡ true → position_or_len (is_named name) (e ∷ xs) < length (e ∷ xs)
place_by true name e xs is rest there = rw is (omega arith)
place_by false name e xs is rest there = rw is (let r = rest (rw is at there) in omega (arith, r))

place_below : (name : List ℕ) (entries : NameList) → IsThere entries name → position_or_len (is_named name) entries < length entries
place_below name [] there = absurd cc
place_below name (e ∷ xs) there = place_by (is_named name e) name e xs refl (place_below name xs) there

-- what an index of a name gives back
pub record HasName (entries : NameList) (name : List ℕ) : Type 0 where
  pub low : 1 ≤ name_index entries name
  pub high : name_index entries name ≤ length (texts entries)
  pub most : name_index entries name ≤ length entries
  pub is : name_with (texts entries) (name_index entries name) ≡ name

pub named : (entries : NameList) (name : List ℕ) → IsThere entries name → HasName entries name
named entries name there =
    let test = is_named name in
    let i : ℕ = position_or_len test entries in
    let below = place_below name entries there in
    let count : length (texts entries) ≡ length entries = length-map entries (λ (e : List ℕ × ℕ). e.0) in
    let d : List ℕ × ℕ = ([], 0) in
    let same : name ≡ (get_or entries i d).0 = (bytes_eq-Decides name (get_or entries i d).0).0 (passes_at_first test entries d below) in
    record {
      low = omega arith;
      high = omega (arith, below, count);
      most = omega (arith, below);
      is =
          ap (λ (k : ℕ). unwrap_or (item (texts entries) k) []) (add-one i)
          ∙ unwrap_or-slice_get (texts entries) i []
          ∙ get_or-map (λ (e : List ℕ × ℕ). e.0) entries i d [] below
          ∙ sym same;
    }

-- ---- each name is in the table

stays_by : (b : Bool) (name : List ℕ) (entries : NameList) (other : List ℕ) → list_any (is_named other) entries ≡ b → IsThere entries name → IsThere (cond b entries (entries ++ (other, 0) ∷ [])) name
stays_by true name entries other e there = there
stays_by false name entries other e there = list_any-append (is_named name) entries ((other, 0) ∷ []) ∙ rw there refl

stays_there : (name : List ℕ) (entries : NameList) (other : List ℕ) → IsThere entries name → IsThere (with_entry entries other 0) name
stays_there name entries other there = stays_by (list_any (is_named other) entries) name entries other refl there

or_true : (a b : Bool) → b ≡ true → (cond a true b) ≡ true
or_true true b e = refl
or_true false b e = e

comes_by : (b : Bool) (name : List ℕ) (entries : NameList) → list_any (is_named name) entries ≡ b → IsThere (cond b entries (entries ++ (name, 0) ∷ [])) name
comes_by true name entries e = e
comes_by false name entries e =
    list_any-append (is_named name) entries ((name, 0) ∷ []) ∙ rw e (let same : bytes_eq name name ≡ true = (bytes_eq-Decides name name).1 refl in rw same refl)

comes_there : (name : List ℕ) (entries : NameList) → IsThere (with_entry entries name 0) name
comes_there name entries = comes_by (list_any (is_named name) entries) name entries refl

pub kept_there : (name : List ℕ) (more : List (List ℕ)) (entries : NameList) → IsThere entries name → IsThere (with_names entries more) name
kept_there name [] entries there = there
kept_there name (other ∷ more) entries there = kept_there name more (with_entry entries other 0) (stays_there name entries other there)

pub all_there : (names more : List (List ℕ)) (entries : NameList) (name : List ℕ) → IsThere (with_names entries (names ++ name ∷ more)) name
all_there [] more entries name = kept_there name more (with_entry entries name 0) (comes_there name entries)
all_there (other ∷ names) more entries name = all_there names more (with_entry entries other 0) name

-- ---- the table in the code

no_place_by : (b : Bool) (n m : ℕ) → cond b (Some n) None ≡ None → nat_lt n m ≡ b → m ≤ n
no_place_by true n m none e = absurd cc
no_place_by false n m none e = grind (arith, nat_tests)

-- a name that has no place would go last
pub no_place : (test : (List ℕ × ℕ) → Bool) (entries : NameList) → position test entries ≡ None → position_or_len test entries ≡ length entries
no_place test entries none =
    let low = no_place_by (nat_lt (position_or_len test entries) (length entries)) (position_or_len test entries) (length entries) none refl in
    let high : position_or_len test entries ≤ length entries = prefix_len-le-length (λ e. not (test e)) entries in
    omega (arith, low, high)

pub with_both : (entries : NameList) (xs ys : List (List ℕ)) → with_names entries (xs ++ ys) ≡ with_names (with_names entries xs) ys
with_both entries [] ys = refl
with_both entries (x ∷ xs) ys = with_both (with_entry entries x 0) xs ys

below_is_there_by : (b : Bool) (test : (List ℕ × ℕ) → Bool) (e : List ℕ × ℕ) (xs : NameList) → test e ≡ b → nat_lt (position_or_len test xs) (length xs) ≡ list_any test xs → nat_lt (position_or_len test (e ∷ xs)) (length (e ∷ xs)) ≡ list_any test (e ∷ xs)
below_is_there_by true test e xs is rest = rw is (first_below (length xs))
  where
    first_below : (n : ℕ) → nat_lt 0 (suc n) ≡ true
    first_below n = grind (arith, nat_tests)
below_is_there_by false test e xs is rest = rw is (one_on (position_or_len test xs) (length xs) ∙ rest)
  where
    one_on : (a b : ℕ) → nat_lt (1 + a) (suc b) ≡ nat_lt a b
    one_on a b = grind (arith, nat_tests)

below_is_there : (test : (List ℕ × ℕ) → Bool) (entries : NameList) → nat_lt (position_or_len test entries) (length entries) ≡ list_any test entries
below_is_there test [] = refl
below_is_there test (e ∷ xs) = below_is_there_by (test e) test e xs refl (below_is_there test xs)

-- a name has a place exactly where it is there
pub place_is : (test : (List ℕ × ℕ) → Bool) (entries : NameList) → is_some (position test entries) ≡ list_any test entries
place_is test entries = some_by (nat_lt (position_or_len test entries) (length entries)) (position_or_len test entries) ∙ below_is_there test entries

pub found : (name : List ℕ) (entries : NameList) → is_some (position (is_named name) entries) ≡ true → with_entry entries name 0 ≡ entries
found name entries some = let there : list_any (is_named name) entries ≡ true = sym (place_is (is_named name) entries) ∙ some in rw there refl

pub not_found : (name : List ℕ) (entries : NameList) → is_some (position (is_named name) entries) ≡ false → with_entry entries name 0 ≡ entries ++ (name, 0) ∷ []
not_found name entries none = let absent : list_any (is_named name) entries ≡ false = sym (place_is (is_named name) entries) ∙ none in rw absent refl

pub one_more_record : (entries : NameList) (name : List ℕ) → name_records (entries ++ (name, 0) ∷ []) ≡ name_records entries ++ record_of 0x96 (name_bytes name)
one_more_record [] name = append-nil (record_of 0x96 (name_bytes name))
one_more_record (e ∷ entries) name = ap (λ (rest : List ℕ). lnames_record e.0 ++ rest) (one_more_record entries name) ∙ sym (append_assoc (lnames_record e.0) (name_records entries) (record_of 0x96 (name_bytes name)))
