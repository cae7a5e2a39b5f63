-- Marks of the ordinals that are asked for, and the free ones between them.
use Rattle.std.proofs.Common.{◌≡◌, ◌≢◌, ℕ, zero, suc, ◌+◌, ◌-◌, ◌<◌, ◌≤◌, Bool, true, false, List, [], ◌∷◌, ◌++◌, length, map, take, drop, filter, get_or, refl, sym, subst, ap, ◌∙◌, append_assoc, length-take, length-drop, length-append, arith, inl, inr}
use Rattle.std.specs.Prelude.{◌==◌, ◌||◌, not, Option, Some, None, slice_index, slice_index_or, slice_set, replicate, find, nat_lt, cond}
use Rattle.std.specs.List.{list_any, range_with_len, enumerate_from}
use Rattle.std.proofs.lemmas.Bool.Decides.{nat_tests}
use Rattle.std.proofs.lemmas.Bool.{cases_Bool, ne_eqb}
use Rattle.std.proofs.lemmas.List.{append-nil, get_or-replicate, length-replicate, take_more, get_or-set_same, get_or-set_other}
use Rattle.std.proofs.lemmas.List.Elements.{filter-append}
use Rattle.std.proofs.lemmas.List.Filters.{length-filter_both}
use Rattle.std.proofs.lemmas.List.Folds.{list_any-append}
use Rattle.std.proofs.lemmas.List.FromFn.{length-range_with_len}
use Rattle.std.proofs.Math.Seq.{drop-cons, get_or-append_seam}
use Rattle.std.proofs.Math.ListN.{length-set}
use Rattle.std.proofs.Math.Bool.{or-true, or-false}
use Rattle.lx_exports.specs.Marks.{AreMarksOf, wrong_among, is_free}

-- ---- marks

pub no_marks : (marks : List Bool) → marks ≡ replicate 65536 false → AreMarksOf marks []
no_marks marks is = record {
  all = ap length is ∙ length-replicate 65536 false;
  each = λ n short. ap (λ (ms : List Bool). get_or ms n false) is ∙ get_or-replicate 65536 n false false short;
}

marked_more : (marks : List Bool) (numbers : List ℕ) (n : ℕ) → AreMarksOf marks numbers → n < 65536 → (k : ℕ) → k < 65536 →
    get_or (slice_set marks n true) k false ≡ list_any (λ g. g == k) (numbers ++ n ∷ [])
marked_more marks numbers n are fits k short =
    let whole : list_any (λ g. g == k) (numbers ++ n ∷ []) ≡ (list_any (λ g. g == k) numbers || ((n == k) || false)) = list_any-append (λ g. g == k) numbers (n ∷ []) in
    elim (cases_Bool (n == k)) [
      | inl same ↦
          let is : k ≡ n = grind (arith, nat_tests, same) in
          ap (λ (j : ℕ). get_or (slice_set marks n true) j false) is
          ∙ get_or-set_same marks n true false (omega (arith, are.all, fits))
          ∙ sym (or-true (list_any (λ g. g == k) numbers))
          ∙ ap (λ (b : Bool). list_any (λ g. g == k) numbers || (b || false)) (sym same)
          ∙ sym whole
      | inr apart ↦
          let is : k ≢ n = grind (arith, nat_tests, apart) in
          get_or-set_other marks n k true false is
          ∙ are.each k short
          ∙ sym (or-false (list_any (λ g. g == k) numbers))
          ∙ ap (λ (b : Bool). list_any (λ g. g == k) numbers || (b || false)) (sym apart)
          ∙ sym whole
    ]

pub one_mark : (marks : List Bool) (numbers : List ℕ) (i n : ℕ) → i < length numbers → n ≡ get_or numbers i 0 → n < 65536 → AreMarksOf marks (take i numbers) →
    AreMarksOf (slice_set marks n true) (take (i + 1) numbers)
one_mark marks numbers i n there is fits are =
    let more : take (i + 1) numbers ≡ take i numbers ++ n ∷ [] = take_more numbers i 0 there ∙ ap (λ (m : ℕ). take i numbers ++ m ∷ []) (sym is) in
    subst (AreMarksOf (slice_set marks n true)) (sym more) (record {
      all = length-set marks n true ∙ are.all;
      each = marked_more marks (take i numbers) n are fits;
    })

-- The numbers from a place on: the first of them is wrong, or one after it.
pub wrong_from : (numbers : List ℕ) (i n : ℕ) → i < length numbers → n ≡ get_or numbers i 0 →
    wrong_among numbers i (drop i numbers) ≡ cond ((n == 0) || list_any (λ g. g == n) (take i numbers)) (Some (i, n)) (wrong_among numbers (i + 1) (drop (i + 1) numbers))
wrong_from numbers i n there is =
    let next : suc i ≡ i + 1 = omega arith in
    ap (wrong_among numbers i) (drop-cons numbers i 0 there ∙ ap (λ (m : ℕ). m ∷ drop (suc i) numbers) (sym is))
    ∙ ap (λ (j : ℕ). cond ((n == 0) || list_any (λ g. g == n) (take i numbers)) (Some (i, n)) (wrong_among numbers (i + 1) (drop j numbers))) next

-- ---- free numbers up to one

abbrev pub free_to : List ℕ → ℕ → List ℕ
free_to numbers n = filter (is_free numbers) (range_with_len 1 n)

range_joined : (a n m : ℕ) → range_with_len a (n + m) ≡ range_with_len a n ++ range_with_len (a + n) m
range_joined a zero m =
    let none : 0 + m ≡ m = omega arith in
    let here : a ≡ a + 0 = omega arith in
    ap (range_with_len a) none ∙ ap (λ (b : ℕ). range_with_len b m) here
range_joined a (suc n) m =
    let moved : a + 1 + n ≡ a + suc n = omega arith in
    let longer : suc n + m ≡ suc (n + m) = omega arith in
    ap (range_with_len a) longer
    ∙ ap (λ (ns : List ℕ). a ∷ ns) (range_joined (a + 1) n m ∙ ap (λ (b : ℕ). range_with_len (a + 1) n ++ range_with_len b m) moved)

free_joined : (numbers : List ℕ) (n m : ℕ) → free_to numbers (n + m) ≡ free_to numbers n ++ filter (is_free numbers) (range_with_len (1 + n) m)
free_joined numbers n m = ap (filter (is_free numbers)) (range_joined 1 n m) ∙ filter-append (is_free numbers) (range_with_len 1 n) (range_with_len (1 + n) m)

none_free : (numbers : List ℕ) (a n : ℕ) → ((k : ℕ) → a ≤ k → k < a + n → is_free numbers k ≡ false) → filter (is_free numbers) (range_with_len a n) ≡ []
none_free numbers a zero none = refl
none_free numbers a (suc n) none =
    ap (λ (b : Bool). cond b (a ∷ filter (is_free numbers) (range_with_len (a + 1) n)) (filter (is_free numbers) (range_with_len (a + 1) n))) (none a (omega arith) (omega arith))
    ∙ none_free numbers (a + 1) n (λ k from to. none k (omega (arith, from)) (omega (arith, to)))

-- ---- there are enough free numbers

equal_after : (g a n : ℕ) → g < a → filter (λ k. g == k) (range_with_len a n) ≡ []
equal_after g a zero less = refl
equal_after g a (suc n) less =
    ap (λ (b : Bool). cond b (a ∷ filter (λ k. g == k) (range_with_len (a + 1) n)) (filter (λ k. g == k) (range_with_len (a + 1) n))) (ne_eqb g a (omega (arith, less)))
    ∙ equal_after g (a + 1) n (omega (arith, less))

equal_once : (g a n : ℕ) → length (filter (λ k. g == k) (range_with_len a n)) ≤ 1
equal_once g a zero = omega arith
equal_once g a (suc n) = elim (cases_Bool (g == a)) [
  | inl same ↦
      let is : filter (λ k. g == k) (range_with_len a (suc n)) ≡ a ∷ filter (λ k. g == k) (range_with_len (a + 1) n) =
      ap (λ (b : Bool). cond b (a ∷ filter (λ k. g == k) (range_with_len (a + 1) n)) (filter (λ k. g == k) (range_with_len (a + 1) n))) same in
      let at : g ≡ a = grind (arith, nat_tests, same) in
      omega (arith, ap length is, ap length (equal_after g (a + 1) n (omega (arith, at))))
  | inr apart ↦
      let is : filter (λ k. g == k) (range_with_len a (suc n)) ≡ filter (λ k. g == k) (range_with_len (a + 1) n) =
      ap (λ (b : Bool). cond b (a ∷ filter (λ k. g == k) (range_with_len (a + 1) n)) (filter (λ k. g == k) (range_with_len (a + 1) n))) apart in
      omega (arith, ap length is, equal_once g (a + 1) n)
]

either : (p q : ℕ → Bool) (ns : List ℕ) → length (filter (λ k. p k || q k) ns) ≤ length (filter p ns) + length (filter q ns)
either p q [] = omega arith
either p q (n ∷ ns) = by (p n) (q n) (filter (λ k. p k || q k) ns) (filter p ns) (filter q ns) (either p q ns)
  where
    by : (a b : Bool) (es ps qs : List ℕ) → length es ≤ length ps + length qs → length (cond (a || b) (n ∷ es) es) ≤ length (cond a (n ∷ ps) ps) + length (cond b (n ∷ qs) qs)
    by true true es ps qs le = omega (arith, le)
    by true false es ps qs le = omega (arith, le)
    by false true es ps qs le = omega (arith, le)
    by false false es ps qs le = omega (arith, le)

taken_few : (numbers : List ℕ) (a n : ℕ) → length (filter (λ k. list_any (λ g. g == k) numbers) (range_with_len a n)) ≤ length numbers
taken_few [] a n = none_taken (range_with_len a n)
  where
    none_taken : (ns : List ℕ) → length (filter (λ k. false) ns) ≤ 0
    none_taken [] = omega arith
    none_taken (m ∷ ms) = none_taken ms
taken_few (g ∷ gs) a n = omega (arith, either (λ k. g == k) (λ k. list_any (λ h. h == k) gs) (range_with_len a n), equal_once g a n, taken_few gs a n)

-- Of the first numbers at most as many are not free as there are numbers that are asked for.
pub enough_free : (numbers : List ℕ) (n : ℕ) → n ≤ length (free_to numbers n) + length numbers
enough_free numbers n =
    let both = length-filter_both (λ k. list_any (λ g. g == k) numbers) (is_free numbers) (λ k. refl) (range_with_len 1 n) in
    omega (arith, both, taken_few numbers 1 n, length-range_with_len 1 n)

-- ---- the next free number

pub found_free : (numbers : List ℕ) (from free : ℕ) → 1 ≤ from → from ≤ free → is_free numbers free ≡ true → ((n : ℕ) → from ≤ n → n < free → is_free numbers n ≡ false) →
    free_to numbers free ≡ free_to numbers (from - 1) ++ free ∷ []
found_free numbers from free some le is none =
    let whole : from - 1 + (free - from + 1) ≡ free = omega (arith, some, le) in
    let begin : 1 + (from - 1) ≡ from = omega (arith, some) in
    let last : from + (free - from) ≡ free = omega (arith, le) in
    ap (free_to numbers) (sym whole)
    ∙ free_joined numbers (from - 1) (free - from + 1)
    ∙ ap (λ (a : ℕ). free_to numbers (from - 1) ++ filter (is_free numbers) (range_with_len a (free - from + 1))) begin
    ∙ ap (λ (ns : List ℕ). free_to numbers (from - 1) ++ ns)
    (ap (filter (is_free numbers)) (range_joined from (free - from) 1)
    ∙ filter-append (is_free numbers) (range_with_len from (free - from)) (range_with_len (from + (free - from)) 1)
    ∙ ap (λ (ns : List ℕ). ns ++ filter (is_free numbers) (range_with_len (from + (free - from)) 1)) (none_free numbers from (free - from) (λ k a b. none k a (omega (arith, b, last))))
    ∙ ap (λ (a : ℕ). filter (is_free numbers) (a ∷ [])) last
    ∙ ap (λ (b : Bool). cond b (free ∷ []) []) is)

fewer : (numbers : List ℕ) (n m : ℕ) → n ≤ m → length (free_to numbers n) ≤ length (free_to numbers m)
fewer numbers n m le =
    let whole : n + (m - n) ≡ m = omega (arith, le) in
    omega (
      arith,
      ap (λ (k : ℕ). length (free_to numbers k)) (sym whole),
      ap length (free_joined numbers n (m - n)),
      length-append (free_to numbers n) (filter (is_free numbers) (range_with_len (1 + n) (m - n))),
    )

one_free : (numbers : List ℕ) (free : ℕ) → 1 ≤ free → is_free numbers free ≡ true → length (free_to numbers free) ≡ length (free_to numbers (free - 1)) + 1
one_free numbers free some is =
    let whole : free - 1 + 1 ≡ free = omega (arith, some) in
    let begin : 1 + (free - 1) ≡ free = omega (arith, some) in
    ap (λ (k : ℕ). length (free_to numbers k)) (sym whole)
    ∙ ap length (free_joined numbers (free - 1) 1)
    ∙ length-append (free_to numbers (free - 1)) (filter (is_free numbers) (range_with_len (1 + (free - 1)) 1))
    ∙ ap (λ (a : ℕ). length (free_to numbers (free - 1)) + length (filter (is_free numbers) (a ∷ []))) begin
    ∙ ap (λ (b : Bool). length (free_to numbers (free - 1)) + length (cond b (free ∷ []) [])) is

-- It is the one at its place among as many numbers as are needed.
pub free_at : (numbers : List ℕ) (from free k n : ℕ) → 1 ≤ from → from ≤ free → is_free numbers free ≡ true → ((m : ℕ) → from ≤ m → m < free → is_free numbers m ≡ false) →
    length (free_to numbers (from - 1)) ≡ k → k + length numbers < n → get_or (free_to numbers n) k 0 ≡ free
free_at numbers from free k n some le is none before many =
    let at = found_free numbers from free some le is none in
    let counted : length (free_to numbers free) ≡ k + 1 = ap length at ∙ length-append (free_to numbers (from - 1)) (free ∷ []) ∙ omega (arith, before) in
    elim (cases_Bool (nat_lt n free)) [
      | inl less ↦
          let shorter : n < free = grind (arith, nat_tests, less) in
          let few = fewer numbers n (free - 1) (omega (arith, shorter)) in
          absurd (omega (arith, few, one_free numbers free (omega (arith, some, le)) is, counted, enough_free numbers n, many))
      | inr not_less ↦
          let long : free ≤ n = grind (arith, nat_tests, not_less) in
          let longer : free + (n - free) ≡ n = omega (arith, long) in
          let rest = filter (is_free numbers) (range_with_len (1 + free) (n - free)) in
          ap (λ (ns : List ℕ). get_or ns k 0)
          (ap (free_to numbers) (sym longer) ∙ free_joined numbers free (n - free)
          ∙ ap (λ (ns : List ℕ). ns ++ rest) at
          ∙ append_assoc (free_to numbers (from - 1)) (free ∷ []) rest)
          ∙ ap (λ (j : ℕ). get_or (free_to numbers (from - 1) ++ free ∷ rest) j 0) (sym before)
          ∙ get_or-append_seam (free_to numbers (from - 1)) free rest 0
    ]

-- ---- no free number is left

above : (numbers : List ℕ) (a n : ℕ) → 0 < length (filter (is_free numbers) (range_with_len a n)) → a ≤ get_or (filter (is_free numbers) (range_with_len a n)) 0 0
above numbers a zero some = absurd (omega (arith, some))
above numbers a (suc n) some = by (is_free numbers a) (filter (is_free numbers) (range_with_len (a + 1) n)) (λ more. omega (arith, above numbers (a + 1) n more)) some
  where
    by : (b : Bool) (ns : List ℕ) → (0 < length ns → a ≤ get_or ns 0 0) → 0 < length (cond b (a ∷ ns) ns) → a ≤ get_or (cond b (a ∷ ns) ns) 0 0
    by true ns rest more = omega arith
    by false ns rest more = rest more

seam : (xs ys : List ℕ) → get_or (xs ++ ys) (length xs) 0 ≡ get_or ys 0 0
seam [] ys = refl
seam (x ∷ xs) ys = seam xs ys

more_is : (n : ℕ) → nat_lt 65535 n ≡ true → 65535 < n
more_is n more = grind (arith, nat_tests, more)

not_more_is : (n : ℕ) → nat_lt 65535 n ≡ false → n ≤ 65535
not_more_is n not_less = grind (arith, nat_tests, not_less)

pub none_left : (numbers : List ℕ) (from k n : ℕ) → 1 ≤ from → from ≤ 65536 → ((m : ℕ) → from ≤ m → m < 65536 → is_free numbers m ≡ false) →
    length (free_to numbers (from - 1)) ≡ k → k + length numbers < n → 65535 < get_or (free_to numbers n) k 0
none_left numbers from k n some le none before many =
    let last : from - 1 + (65536 - from) ≡ 65535 = omega (arith, some, le) in
    let begin : 1 + (from - 1) ≡ from = omega (arith, some) in
    let all : free_to numbers 65535 ≡ free_to numbers (from - 1) =
    ap (free_to numbers) (sym last) ∙ free_joined numbers (from - 1) (65536 - from)
    ∙ ap (λ (a : ℕ). free_to numbers (from - 1) ++ filter (is_free numbers) (range_with_len a (65536 - from))) begin
    ∙ ap (λ (ns : List ℕ). free_to numbers (from - 1) ++ ns) (none_free numbers from (65536 - from) (λ m a b. none m a (omega (arith, b, le))))
    ∙ append-nil (free_to numbers (from - 1)) in
    let counted : length (free_to numbers 65535) ≡ k = ap length all ∙ before in
    let long : 65535 < n = elim (cases_Bool (nat_lt 65535 n)) [
      | inl more ↦ more_is n more
      | inr not_more ↦
          let short = not_more_is n not_more in
          absurd (omega (arith, fewer numbers n 65535 short, counted, enough_free numbers n, many))
    ] in
    let whole : 65535 + (n - 65535) ≡ n = omega (arith, long) in
    let rest = filter (is_free numbers) (range_with_len 65536 (n - 65535)) in
    let joined : free_to numbers n ≡ free_to numbers 65535 ++ rest = ap (free_to numbers) (sym whole) ∙ free_joined numbers 65535 (n - 65535) in
    let some_rest : 0 < length rest = omega (arith, ap length joined, length-append (free_to numbers 65535) rest, counted, enough_free numbers n, many) in
    let value : get_or (free_to numbers n) k 0 ≡ get_or rest 0 0 =
    ap (λ (ns : List ℕ). get_or ns k 0) joined ∙ ap (λ (j : ℕ). get_or (free_to numbers 65535 ++ rest) j 0) (sym counted) ∙ seam (free_to numbers 65535) rest in
    omega (arith, value, above numbers 65536 (n - 65535) some_rest)
