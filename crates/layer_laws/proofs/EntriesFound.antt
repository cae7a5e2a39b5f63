-- What stands at an ordinal and at a name of a module with these exports.
use Rattle.std.specs.Prelude.{◌≡◌, ◌≢◌, ℕ, zero, suc, ◌+◌, ◌<◌, ◌≤◌, ◌==◌, max, Bool, true, false, cond, not, List, [], ◌∷◌, ◌++◌, Option, Some, None, map, filter, find, bytes_eq, ◌⊎◌, refl}
use Rattle.std.specs.List.{AllByRecursion, filter_map, cons_option, range_with_len}
use Rattle.std.specs.Option.{option_map}
use Rattle.std.proofs.Common.{ap, sym, ◌∙◌, arith, inl, inr}
use Rattle.std.proofs.lemmas.Bool.{cases_Bool, ne_eqb}
use Rattle.std.proofs.lemmas.Bool.Decides.{nat_tests}
use Rattle.std.proofs.lemmas.Slice.Eq.{bytes_eq-Decides}
use Rattle.lx_types.specs.declared.entry.EntryHead.{EntryHead}
use Rattle.lx_types.specs.Parts.{entry_of, ordinal_named}
use Rattle.lx_model.specs.EntryTable.{Numbered}
use Rattle.lx_model.specs.NameTables.{Named}
use Rattle.lx_model.specs.ExportTables.{Exported, named, export_at, greatest, entries_by_ordinal}
use Rattle.link_model.proofs.Members.{In, here, there, found_as, in_left, in_right, in_map, in_filter, in_either, from_map, from_filter}
use Rattle.layer_laws.proofs.Lists.{each-of}

-- ---- find

pub record FindsOne {X : Type 0} (test : X → Bool) (xs : List X) : Type 0 where
  pub item : X
  pub is : find test xs ≡ Some item

finds_later : {X : Type 0} (test : X → Bool) (y : X) (xs : List X) (b : Bool) → test y ≡ b → FindsOne test xs → FindsOne test (y ∷ xs)
finds_later test y xs true is rest = record { item = y; is = ap (λ (b : Bool). cond b (Some y) (find test xs)) is }
finds_later test y xs false is rest = record { item = rest.item; is = ap (λ (b : Bool). cond b (Some y) (find test xs)) is ∙ rest.is }

pub finds-one : {X : Type 0} (test : X → Bool) (xs : List X) {x : X} → In x xs → test x ≡ true → FindsOne test xs
finds-one test [] i e = elim i [ ]
finds-one test (x ∷ xs) here e = record { item = x; is = ap (λ (b : Bool). cond b (Some x) (find test xs)) e }
finds-one test (y ∷ xs) (there i) e = finds_later test y xs (test y) refl (finds-one test xs i e)

pub finds-none : {X : Type 0} (test : X → Bool) (xs : List X) → AllByRecursion (λ x. test x ≡ false) xs → find test xs ≡ None
finds-none test [] all = refl
finds-none test (x ∷ xs) all = ap (λ (b : Bool). cond b (Some x) (find test xs)) all.0 ∙ finds-none test xs all.1

-- ---- ordinals

-- The entries of the numbers from one on, as many as there are.
abbrev entries_from : List Exported → ℕ → ℕ → List Numbered
entries_from xs a n = filter_map (λ k. option_map (λ x. (k, x.head)) (export_at xs k)) (range_with_len a n)

other_is : (n m : ℕ) → n < m → (m == n) ≡ false
other_is n m is = grind (arith, nat_tests)

abbrev listed : ℕ → Option Exported → Option Numbered
listed k o = option_map (λ x. (k, x.head)) o

abbrev head_of_export : Option Exported → Option EntryHead
head_of_export o = option_map (λ x. x.head) o

other_entry : (k n : ℕ) (o : Option Exported) (others : List Numbered) → (k == n) ≡ false → entry_of (cons_option (listed k o) others) n ≡ entry_of others n
other_entry k n None others e = refl
other_entry k n (Some x) others e = ap (λ (b : Bool). option_map (λ y. y.1) (cond b (Some (k, x.head)) (find (λ y. y.0 == n) others))) e

own_entry : (k n : ℕ) (o : Option Exported) (others : List Numbered) → (k == n) ≡ true → entry_of others n ≡ None → entry_of (cons_option (listed k o) others) n ≡ head_of_export o
own_entry k n None others e none = none
own_entry k n (Some x) others e none = ap (λ (b : Bool). option_map (λ y. y.1) (cond b (Some (k, x.head)) (find (λ y. y.0 == n) others))) e

none_below : (xs : List Exported) (a len n : ℕ) → n < a → entry_of (entries_from xs a len) n ≡ None
none_below xs a zero n lt = refl
none_below xs a (suc len) n lt = other_entry a n (export_at xs a) (entries_from xs (a + 1) len) (other_is n a lt) ∙ none_below xs (a + 1) len n (omega (arith, lt))

none_above : (xs : List Exported) (a len n : ℕ) → a + len ≤ n → entry_of (entries_from xs a len) n ≡ None
none_above xs a zero n le = refl
none_above xs a (suc len) n le = other_entry a n (export_at xs a) (entries_from xs (a + 1) len) (ne_eqb a n (λ e. omega (arith, e, le))) ∙ none_above xs (a + 1) len n (omega (arith, le))

entry_there : (xs : List Exported) (a len n : ℕ) → a ≤ n → n < a + len → entry_of (entries_from xs a len) n ≡ head_of_export (export_at xs n)
entry_there xs a zero n le lt = absurd (omega (arith, le, lt))
entry_there xs a (suc len) n le lt = elim (cases_Bool (a == n)) [
  | inl found ↦
      let same : a ≡ n = grind (arith, nat_tests, found) in
      own_entry a n (export_at xs a) (entries_from xs (a + 1) len) found (none_below xs (a + 1) len n (omega (arith, same))) ∙ ap (λ (k : ℕ). head_of_export (export_at xs k)) same
  | inr later ↦
      let past : a < n = grind (arith, nat_tests, later, le) in
      other_entry a n (export_at xs a) (entries_from xs (a + 1) len) later ∙ entry_there xs (a + 1) len n (omega (arith, past)) (omega (arith, lt))
]

all_most : (xs : List Exported) → AllByRecursion (λ x. x.ordinal ≤ greatest xs) xs
all_most [] = tt
all_most (x ∷ xs) = (omega arith, wider (greatest xs) (max x.ordinal (greatest xs)) (omega arith) xs (all_most xs))
  where
    wider : (m n : ℕ) → m ≤ n → (ys : List Exported) → AllByRecursion (λ y. y.ordinal ≤ m) ys → AllByRecursion (λ y. y.ordinal ≤ n) ys
    wider m n le [] all = tt
    wider m n le (y ∷ ys) all = (omega (arith, le, all.0), wider m n le ys all.1)

none_past : (n : ℕ) (ys : List Exported) (m : ℕ) → m < n → AllByRecursion (λ y. y.ordinal ≤ m) ys → AllByRecursion (λ y. (y.ordinal == n) ≡ false) ys
none_past n [] m lt all = tt
none_past n (y ∷ ys) m lt all = (ne_eqb y.ordinal n (λ e. omega (arith, e, lt, all.0)), none_past n ys m lt all.1)

-- At an ordinal that is not 0 stands the head of the export that has it.
pub entry-is : (xs : List Exported) (n : ℕ) → n ≢ 0 → entry_of (entries_by_ordinal xs) n ≡ option_map (λ x. x.head) (export_at xs n)
entry-is xs n some = elim (nat_order n (greatest xs)) [
  | inl le ↦ entry_there xs 1 (greatest xs) n (omega (arith, some)) (omega (arith, le))
  | inr past ↦ none_above xs 1 (greatest xs) n (omega (arith, past)) ∙ ap head_of_export (sym (finds-none (λ x. x.ordinal == n) xs (none_past n xs (greatest xs) past (all_most xs))))
]
  where
    nat_order : (a b : ℕ) → (a ≤ b) ⊎ (b < a)
    nat_order a b = grind arith

pub entry-at-zero : (xs : List Exported) → entry_of (entries_by_ordinal xs) 0 ≡ None
entry-at-zero xs = none_below xs 1 (greatest xs) 0 (omega arith)

-- ---- names

-- The names of the exports, those that are resident first.
abbrev pub names-in : List Exported → List Named
names-in xs = map named (filter (λ x. x.resident) xs) ++ map named (filter (λ x. not x.resident) xs)

pub record NameOf (xs : List Exported) (name : List ℕ) (ordinal : ℕ) : Type 0 where
  pub export : Exported
  pub inside : In export xs
  pub name_is : export.name ≡ name
  pub ordinal_is : export.ordinal ≡ ordinal

named_of : (xs : List Exported) (keep : Exported → Bool) {q : Named} → In q (map named (filter keep xs)) → NameOf xs q.0 q.1
named_of xs keep i =
    let r = from_map named (filter keep xs) i in
    record { export = r.item; inside = from_filter keep xs r.inside; name_is = ap (λ (n : Named). n.0) r.is; ordinal_is = ap (λ (n : Named). n.1) r.is }

name_from : (xs : List Exported) {q : Named} → In q (names-in xs) → NameOf xs q.0 q.1
name_from xs {q} i = elim (in_either (map named (filter (λ x. x.resident) xs)) (map named (filter (λ x. not x.resident) xs)) i) as (λ s. NameOf xs q.0 q.1) [
  | inl j ↦ named_of xs (λ x. x.resident) j
  | inr j ↦ named_of xs (λ x. not x.resident) j
]

name_in : (xs : List Exported) {x : Exported} → In x xs → In (named x) (names-in xs)
name_in xs {x} i = by x.resident refl
  where
    by : (b : Bool) → x.resident ≡ b → In (named x) (names-in xs)
    by true is = in_left (map named (filter (λ x. not x.resident) xs)) (in_map named (in_filter (λ x. x.resident) i is))
    by false is = in_right (map named (filter (λ x. x.resident) xs)) (in_map named (in_filter (λ x. not x.resident) i (ap not is)))

-- The name of an export has the ordinal of an export of that name.
pub record FindsName (xs : List Exported) (name : List ℕ) : Type 0 where
  pub ordinal : ℕ
  pub is : ordinal_named (names-in xs) name ≡ Some ordinal
  pub of : NameOf xs name ordinal

pub finds-name : (xs : List Exported) (x : Exported) → In x xs → FindsName xs x.name
finds-name xs x i =
    let test : Named → Bool = λ n. bytes_eq n.0 x.name in
    let found = finds-one test (names-in xs) (name_in xs i) ((bytes_eq-Decides x.name x.name).1 refl) in
    let shown = found_as test (names-in xs) found.item found.is in
    let of = name_from xs shown.inside in
    record {
      ordinal = found.item.1;
      is = ap (λ (o : Option Named). option_map (λ n. n.1) o) found.is;
      of = record { export = of.export; inside = of.inside; name_is = of.name_is ∙ (bytes_eq-Decides found.item.0 x.name).0 shown.passes; ordinal_is = of.ordinal_is };
    }

pub finds-no-name : (xs : List Exported) (name : List ℕ) → ((x : Exported) → In x xs → x.name ≢ name) → ordinal_named (names-in xs) name ≡ None
finds-no-name xs name none =
    ap (λ (o : Option Named). option_map (λ n. n.1) o) (finds-none (λ n. bytes_eq n.0 name) (names-in xs) (each-of (λ n. bytes_eq n.0 name ≡ false) (names-in xs) (λ q i. differs q (name_from xs i))))
  where
    differs : (q : Named) → NameOf xs q.0 q.1 → bytes_eq q.0 name ≡ false
    differs q of = elim (cases_Bool (bytes_eq q.0 name)) [
      | inl same ↦ absurd (none of.export of.inside (of.name_is ∙ (bytes_eq-Decides q.0 name).0 same))
      | inr other ↦ other
    ]
