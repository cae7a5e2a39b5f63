-- The exports get their ordinals one by one.
use Rattle.std.proofs.Common.{◌≡◌, ℕ, zero, suc, ◌+◌, ◌-◌, ◌*◌, ◌<◌, ◌≤◌, Bool, true, false, List, [], ◌∷◌, ◌++◌, length, map, take, drop, filter, get_or, refl, sym, subst, ap, ◌∙◌, append_assoc, length-append, length-take, arith}
use Rattle.std.specs.Prelude.{◌||◌, not, Option, Some, None, is_none, nat_lt, cond}
use Rattle.std.specs.List.{list_any, enumerate_from}
use Rattle.std.proofs.lemmas.Bool.Decides.{nat_tests}
use Rattle.std.proofs.lemmas.List.{take_more, map-append}
use Rattle.std.proofs.lemmas.List.Elements.{filter-append}
use Rattle.std.proofs.lemmas.List.Folds.{list_any-append}
use Rattle.std.proofs.Math.Seq.{drop-cons}
use Rattle.std.proofs.lemmas.Bool.{or_right, or_left}
use Rattle.link_model.specs.Exports.{given, ordinals, ordinal_at, ordinal_past, free_ordinals}
use Rattle.link_model.specs.declared.limits.TheConstants.{MAX_NUMBER}
use Rattle.link_model.specs.declared.refusals.EntryRefusal.TheVariants.{Ordinal}
use Rattle.lx_exports.specs.declared.exports.OutEntry.{OutEntry}
use Rattle.lx_exports.specs.Exports.{asked}
use Rattle.lx_exports.specs.Marks.{AreMarksOf, TakesOrdinal, is_free, nones}
use Rattle.lx_exports.proofs.FreeOrdinals.{free_to, free_at, found_free, none_left}

-- ---- the export at a place

pub left_asked : (xs : List OutEntry) (i : ℕ) (x : OutEntry) → i < length xs → x ≡ get_or xs i x → asked (drop i xs) ≡ x.ordinal ∷ asked (drop (i + 1) xs)
left_asked xs i x there is =
    let next : suc i ≡ i + 1 = omega arith in
    ap asked (drop-cons xs i x there)
    ∙ ap (λ (y : OutEntry). y.ordinal ∷ asked (drop (suc i) xs)) {x = get_or xs i x} (sym is)
    ∙ ap (λ (n : ℕ). x.ordinal ∷ asked (drop n xs)) next

one_asked : (xs : List OutEntry) (i : ℕ) (x : OutEntry) → i < length xs → x ≡ get_or xs i x → asked (take (i + 1) xs) ≡ asked (take i xs) ++ x.ordinal ∷ []
one_asked xs i x there is =
    ap asked (take_more xs i x there)
    ∙ ap (λ (y : OutEntry). asked (take i xs ++ y ∷ [])) {x = get_or xs i x} (sym is)
    ∙ map-append (λ (y : OutEntry). y.ordinal) (take i xs) (x ∷ [])

-- so many of those before it ask for none
nones_more : (xs : List OutEntry) (i : ℕ) (x : OutEntry) → i < length xs → x ≡ get_or xs i x → nones (asked (take (i + 1) xs)) ≡ nones (asked (take i xs)) + length (cond (is_none x.ordinal) (x.ordinal ∷ []) [])
nones_more xs i x there is =
    ap nones (one_asked xs i x there is)
    ∙ ap length (filter-append is_none (asked (take i xs)) (x.ordinal ∷ []))
    ∙ length-append (filter is_none (asked (take i xs))) (filter is_none (x.ordinal ∷ []))

asked_front : (xs : List OutEntry) (i : ℕ) → take i (asked xs) ≡ asked (take i xs)
asked_front [] zero = refl
asked_front [] (suc i) = refl
asked_front (x ∷ xs) zero = refl
asked_front (x ∷ xs) (suc i) = ap (λ (os : List (Option ℕ)). x.ordinal ∷ os) (asked_front xs i)

pub asked_len : (xs : List OutEntry) → length (asked xs) ≡ length xs
asked_len [] = refl
asked_len (x ∷ xs) = ap suc (asked_len xs)

few_nones : (os : List (Option ℕ)) → nones os ≤ length os
few_nones [] = omega arith
few_nones (None ∷ os) = omega (arith, few_nones os)
few_nones (Some n ∷ os) = omega (arith, few_nones os)

nones_before : (xs : List OutEntry) (i : ℕ) → i < length xs → nones (asked (take i xs)) < length (asked xs)
nones_before xs i there = omega (arith, few_nones (asked (take i xs)), asked_len (take i xs), asked_len xs, length-take i xs, there)

-- ---- an export's ordinal

abbrev rest_from : List OutEntry → ℕ → List ℕ
rest_from xs i = map (λ q. ordinal_at (asked xs) q.0 q.1) (enumerate_from i (asked (drop i xs)))

rest_is : (xs : List OutEntry) (i : ℕ) (x : OutEntry) → i < length xs → x ≡ get_or xs i x → rest_from xs i ≡ ordinal_at (asked xs) i x.ordinal ∷ rest_from xs (i + 1)
rest_is xs i x there is = ap (λ (os : List (Option ℕ)). map (λ q. ordinal_at (asked xs) q.0 q.1) (enumerate_from i os)) (left_asked xs i x there is)

not_marked : (numbers : List ℕ) (marks : List Bool) → AreMarksOf marks numbers → (n : ℕ) → n < 65536 → (b : Bool) → get_or marks n false ≡ b → is_free numbers n ≡ not b
not_marked numbers marks are n fits b is = ap not (sym (are.each n fits) ∙ is)

-- What the loop knows before an export.
pub record Given (xs : List OutEntry) (i from : ℕ) (ns : List ℕ) : Type 0 where
  pub some : 1 ≤ from
  pub fits : from ≤ 65536
  pub joined : ns ++ rest_from xs i ≡ ordinals (asked xs)
  pub counted : length (free_to (given (asked xs)) (from - 1)) ≡ nones (asked (take i xs))
  pub short : list_any (nat_lt 65535) ns ≡ false

not_past : (n : ℕ) → n < 65536 → nat_lt 65535 n ≡ false
not_past n fits = grind (arith, nat_tests, fits)

one_given : (xs : List OutEntry) (i from after n : ℕ) (x : OutEntry) (ns : List ℕ) → i < length xs → x ≡ get_or xs i x → Given xs i from ns → n < 65536 → ordinal_at (asked xs) i x.ordinal ≡ n →
    1 ≤ after → after ≤ 65536 → length (free_to (given (asked xs)) (after - 1)) ≡ nones (asked (take (i + 1) xs)) → Given xs (i + 1) after (ns ++ n ∷ [])
one_given xs i from after n x ns there is known fits value some most counted = record {
  some = some;
  fits = most;
  joined =
      append_assoc ns (n ∷ []) (rest_from xs (i + 1))
      ∙ ap (λ (m : ℕ). ns ++ m ∷ rest_from xs (i + 1)) (sym value)
      ∙ ap (λ (ms : List ℕ). ns ++ ms) (sym (rest_is xs i x there is))
      ∙ known.joined;
  counted = counted;
  short =
      list_any-append (nat_lt 65535) ns (n ∷ [])
      ∙ ap (λ (b : Bool). b || (nat_lt 65535 n || false)) known.short
      ∙ ap (λ (b : Bool). b || false) (not_past n fits);
}

free_value : (xs : List OutEntry) (i from free : ℕ) (ns : List ℕ) → i < length xs → Given xs i from ns → from ≤ free → is_free (given (asked xs)) free ≡ true →
    ((m : ℕ) → from ≤ m → m < free → is_free (given (asked xs)) m ≡ false) → ordinal_at (asked xs) i None ≡ free
free_value xs i from free ns there known le is none =
    let os = asked xs in
    let k = nones (asked (take i xs)) in
    ap (λ (ps : List (Option ℕ)). get_or (free_ordinals os) (nones ps) 0) (asked_front xs i)
    ∙ free_at (given os) from free k (length (given os) + length os) known.some le is none known.counted (omega (arith, nones_before xs i there))

-- One more export has its ordinal.
pub given_more : (xs : List OutEntry) (i from after n : ℕ) (x : OutEntry) (ns : List ℕ) (marks : List Bool) (o : Option ℕ) → i < length xs → x ≡ get_or xs i x → AreMarksOf marks (given (asked xs)) → Given xs i from ns →
    x.ordinal ≡ o → TakesOrdinal marks o from after (Some n) → Given xs (i + 1) after (ns ++ n ∷ [])
given_more xs i from after n x ns marks (Some m) there is are known asks takes =
    let same : m ≡ n = let e : Some m ≡ Some n = sym takes.0 in cc in
    let value : ordinal_at (asked xs) i x.ordinal ≡ n = ap (ordinal_at (asked xs) i) asks ∙ same in
    let counted : length (free_to (given (asked xs)) (after - 1)) ≡ nones (asked (take (i + 1) xs)) =
    ap (λ (f : ℕ). length (free_to (given (asked xs)) (f - 1))) takes.1 ∙ known.counted
    ∙ omega (arith, nones_more xs i x there is, ap (λ (p : Option ℕ). length (cond (is_none p) (p ∷ []) [])) asks) in
    one_given xs i from after n x ns there is known (omega (arith, same, takes.2)) value (omega (arith, takes.1, known.some)) (omega (arith, takes.1, known.fits)) counted
given_more xs i from after n x ns marks None there is are known asks takes =
    let gs = given (asked xs) in
    let free_is : is_free gs n ≡ true = not_marked gs marks are n takes.1 false takes.3 in
    let none : (m : ℕ) → from ≤ m → m < n → is_free gs m ≡ false = λ m le less. not_marked gs marks are m (omega (arith, less, takes.1)) true (takes.4 m le less) in
    let value : ordinal_at (asked xs) i x.ordinal ≡ n = ap (ordinal_at (asked xs) i) asks ∙ free_value xs i from n ns there known takes.0 free_is none in
    let after_is : after - 1 ≡ n = omega (arith, takes.2) in
    let counted : length (free_to gs (after - 1)) ≡ nones (asked (take (i + 1) xs)) =
    ap (λ (f : ℕ). length (free_to gs f)) after_is
    ∙ ap length (found_free gs from n known.some takes.0 free_is none)
    ∙ length-append (free_to gs (from - 1)) (n ∷ [])
    ∙ omega (arith, known.counted, nones_more xs i x there is, ap (λ (p : Option ℕ). length (cond (is_none p) (p ∷ []) [])) asks) in
    one_given xs i from after n x ns there is known takes.1 value (omega (arith, takes.2)) (omega (arith, takes.2, takes.1)) counted

-- ---- no ordinal is left

past_is : (n : ℕ) → 65535 < n → nat_lt 65535 n ≡ true
past_is n past = grind (arith, nat_tests, past)

pub past_from : (xs : List OutEntry) (i from after : ℕ) (x : OutEntry) (ns : List ℕ) (marks : List Bool) (o : Option ℕ) → i < length xs → x ≡ get_or xs i x → AreMarksOf marks (given (asked xs)) → Given xs i from ns →
    x.ordinal ≡ o → TakesOrdinal marks o from after None → ordinal_past MAX_NUMBER (asked xs) ≡ Some (Ordinal 65536)
past_from xs i from after x ns marks (Some m) there is are known asks takes = absurd (let e : None ≡ Some m = takes.0 in cc)
past_from xs i from after x ns marks None there is are known asks takes =
    let os = asked xs in
    let gs = given os in
    let k = nones (asked (take i xs)) in
    let none : (m : ℕ) → from ≤ m → m < 65536 → is_free gs m ≡ false = λ m le less. not_marked gs marks are m less true (takes m le less) in
    let past : 65535 < get_or (free_to gs (length gs + length os)) k 0 = none_left gs from k (length gs + length os) known.some known.fits none known.counted (omega (arith, nones_before xs i there)) in
    let value : ordinal_at os i x.ordinal ≡ get_or (free_to gs (length gs + length os)) k 0 =
    ap (ordinal_at os i) asks ∙ ap (λ (ps : List (Option ℕ)). get_or (free_ordinals os) (nones ps) 0) (asked_front xs i) in
    let here : nat_lt 65535 (ordinal_at os i x.ordinal) ≡ true = past_is (ordinal_at os i x.ordinal) (omega (arith, value, past)) in
    let found : list_any (nat_lt 65535) (ordinals os) ≡ true =
    ap (list_any (nat_lt 65535)) (sym known.joined ∙ ap (λ (ms : List ℕ). ns ++ ms) (rest_is xs i x there is))
    ∙ list_any-append (nat_lt 65535) ns (ordinal_at os i x.ordinal ∷ rest_from xs (i + 1))
    ∙ or_right (list_any (nat_lt 65535) ns) (nat_lt 65535 (ordinal_at os i x.ordinal) || list_any (nat_lt 65535) (rest_from xs (i + 1)))
    (or_left (nat_lt 65535 (ordinal_at os i x.ordinal)) (list_any (nat_lt 65535) (rest_from xs (i + 1))) here) in
    ap (λ (b : Bool). cond b (Some (Ordinal 65536)) None) found
