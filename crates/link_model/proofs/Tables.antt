-- Tables by first appearance: one more item, look-ups, and that no key stands twice.
use Rattle.std.specs.Prelude.{◌≡◌, ℕ, suc, ◌+◌, Some, length, Bool, true, false, cond, not, ◌||◌, List, [], ◌∷◌, ◌++◌, filter, bytes_eq, refl}
use Rattle.std.specs.List.{find, list_any, position, position_or_len, AllPairs}
use Rattle.std.specs.Cmp.{IsEquivalence}
use Rattle.std.specs.Cmp.Lexicographic.{nat_list_eq_equiv, on_texts_equal}
use Rattle.std.proofs.Common.{ap, sym, ◌∙◌, arith, true≢false}
use Rattle.std.proofs.lemmas.Bool.{not-true, or_left, or_right}
use Rattle.std.proofs.lemmas.List.Folds.{list_any-append}
use Rattle.std.proofs.lemmas.List.{append-nil}
use Rattle.std.proofs.lemmas.List.Elements.{All-weaker, filter-append, filter_passes}
use Rattle.std.proofs.lemmas.List.Kept.{AllPairs-cons, AllPairs-filter}
use Rattle.std.proofs.lemmas.Slice.Eq.{bytes_eq-Decides}
use Rattle.std.proofs.lemmas.Map.Views.{any-filter_same}
use Rattle.link_model.specs.Appearance.{firsts, NamesAppear}
use Rattle.link_model.proofs.Members.{position_is}

-- What a key's look-up passes, another key's filter keeps.
kept : {X : Type 0} {same : X → X → Bool} (eqv : IsEquivalence same) → (k x y : X) → same k x ≡ false → same k y ≡ true → not (same x y) ≡ true
kept eqv k x y apart is = ap not (eqv.symm x y ∙ (sym (eqv.congr k y x is) ∙ apart))

found_by : {X : Type 0} {same : X → X → Bool} (eqv : IsEquivalence same) → (k x : X) (xs ys : List X) (b : Bool) →
    same k x ≡ b → list_any (same k) ys ≡ list_any (same k) xs → (b || list_any (same k) (filter (λ y. not (same x y)) ys)) ≡ (b || list_any (same k) xs)
found_by eqv k x xs ys true e h = refl
found_by {X} {same} eqv k x xs ys false e h =
    any-filter_same (same k) (λ y. not (same x y)) true (λ y is. kept eqv k x y e is) ys ∙ h

-- A key is in the table where some item has it.
pub any-firsts : {X : Type 0} {same : X → X → Bool} (eqv : IsEquivalence same) → (k : X) (xs : List X) → list_any (same k) (firsts same xs) ≡ list_any (same k) xs
any-firsts eqv k [] = refl
any-firsts {X} {same} eqv k (x ∷ xs) = found_by eqv k x xs (firsts same xs) (same k x) refl (any-firsts eqv k xs)

-- One more item.
more_by : {X : Type 0} {same : X → X → Bool} (eqv : IsEquivalence same) →
    (a x : X) (ys : List X) (b c : Bool) → same x a ≡ b → list_any (same x) ys ≡ c → (a ∷ filter (λ y. not (same a y)) (cond c ys (ys ++ x ∷ [])))
    ≡ cond (b || list_any (same x) (filter (λ y. not (same a y)) ys)) (a ∷ filter (λ y. not (same a y)) ys) ((a ∷ filter (λ y. not (same a y)) ys) ++ x ∷ [])
more_by eqv a x ys true true e f = refl
more_by {X} {same} eqv a x ys true false e f =
    let p : X → Bool = λ y. not (same a y) in
    let gone : p x ≡ false = ap not (eqv.symm a x ∙ e) in
    let none : filter p (x ∷ []) ≡ [] = ap (λ (t : Bool). cond t (x ∷ []) []) gone in
    ap (λ (t : List X). a ∷ t) (filter-append p ys (x ∷ []) ∙ (ap (λ (t : List X). filter p ys ++ t) none ∙ append-nil (filter p ys)))
more_by {X} {same} eqv a x ys false true e f =
    let p : X → Bool = λ y. not (same a y) in
    let has : list_any (same x) (filter p ys) ≡ true = any-filter_same (same x) p true (λ y is. kept eqv x a y e is) ys ∙ f in
    ap (λ (t : Bool). cond t (a ∷ filter p ys) ((a ∷ filter p ys) ++ x ∷ [])) (sym has)
more_by {X} {same} eqv a x ys false false e f =
    let p : X → Bool = λ y. not (same a y) in
    let has : list_any (same x) (filter p ys) ≡ false = any-filter_same (same x) p true (λ y is. kept eqv x a y e is) ys ∙ f in
    let stays : p x ≡ true = ap not (eqv.symm a x ∙ e) in
    let one : filter p (x ∷ []) ≡ x ∷ [] = ap (λ (t : Bool). cond t (x ∷ []) []) stays in
    ap (λ (t : List X). a ∷ t) (filter-append p ys (x ∷ []) ∙ ap (λ (t : List X). filter p ys ++ t) one) ∙ ap (λ (t : Bool). cond t (a ∷ filter p ys) ((a ∷ filter p ys) ++ x ∷ [])) (sym has)

pub firsts-push : {X : Type 0} {same : X → X → Bool} (eqv : IsEquivalence same) → (xs : List X) (x : X) → firsts same (xs ++ x ∷ []) ≡ cond (list_any (same x) (firsts same xs)) (firsts same xs) (firsts same xs ++ x ∷ [])
firsts-push eqv [] x = refl
firsts-push {X} {same} eqv (a ∷ xs) x =
    ap (λ (t : List X). a ∷ filter (λ y. not (same a y)) t) (firsts-push eqv xs x) ∙ more_by eqv a x (firsts same xs) (same x a) (list_any (same x) (firsts same xs)) refl refl

-- No key stands twice.
pub firsts-apart : {X : Type 0} (same : X → X → Bool) (xs : List X) → AllPairs (λ a b. same a b ≡ false) (firsts same xs)
firsts-apart same [] = λ i j d lt below. absurd (omega arith)
firsts-apart {X} same (x ∷ xs) =
    let p : X → Bool = λ y. not (same x y) in
    AllPairs-cons (λ a b. same a b ≡ false) x (filter p (firsts same xs)) (All-weaker (λ y. p y ≡ true) (λ y. same x y ≡ false) (λ y e. not-true (same x y) e)
    (filter p (firsts same xs)) (filter_passes p (firsts same xs))) (AllPairs-filter (λ a b. same a b ≡ false) p (firsts same xs) (firsts-apart same xs))

-- ---- look-ups

-- The first item of a key is the one in the table.
find_kept : {X : Type 0} (test keep : X → Bool) (x : X) (ys : List X) (b c : Bool) → test x ≡ b → keep x ≡ c → (test x ≡ true → keep x ≡ true) →
    find test (filter keep ys) ≡ find test ys → find test (cond c (x ∷ filter keep ys) (filter keep ys)) ≡ cond b (Some x) (find test ys)
find_kept test keep x ys true true is kept ok rest = ap (λ (t : Bool). cond t (Some x) (find test (filter keep ys))) is
find_kept test keep x ys true false is kept ok rest = absurd (true≢false (sym (ok is) ∙ kept))
find_kept test keep x ys false true is kept ok rest = ap (λ (t : Bool). cond t (Some x) (find test (filter keep ys))) is ∙ rest
find_kept test keep x ys false false is kept ok rest = rest

find-filter : {X : Type 0} (test keep : X → Bool) → ((x : X) → test x ≡ true → keep x ≡ true) → (ys : List X) → find test (filter keep ys) ≡ find test ys
find-filter test keep ok [] = refl
find-filter test keep ok (x ∷ ys) = find_kept test keep x ys (test x) (keep x) refl refl (ok x) (find-filter test keep ok ys)

-- A test of one key: of an item that passes it, others have the key where they pass it too.
abbrev pub OfKey : {X : Type 0} → (X → X → Bool) → (X → Bool) → Type 0
OfKey {X} same test = (x y : X) → test y ≡ true → same x y ≡ test x

find_by : {X : Type 0} (same : X → X → Bool) (test : X → Bool) → OfKey same test → (x : X) (xs ys : List X) (b : Bool) →
    test x ≡ b → find test ys ≡ find test xs → cond b (Some x) (find test (filter (λ y. not (same x y)) ys)) ≡ cond b (Some x) (find test xs)
find_by same test key x xs ys true e h = refl
find_by same test key x xs ys false e h =
    find-filter test (λ y. not (same x y)) (λ y is. ap not (key x y is ∙ e)) ys ∙ h

pub find-firsts : {X : Type 0} (same : X → X → Bool) (test : X → Bool) → OfKey same test → (xs : List X) → find test (firsts same xs) ≡ find test xs
find-firsts same test key [] = refl
find-firsts same test key (x ∷ xs) = find_by same test key x xs (firsts same xs) (test x) refl (find-firsts same test key xs)

-- ---- places

pub place_kept_by : {X : Type 0} (test : X → Bool) (ys zs : List X) (b : Bool) →
    (b || list_any test ys) ≡ true → (list_any test ys ≡ true → position_or_len test (ys ++ zs) ≡ position_or_len test ys) →
    cond (not b) (1 + position_or_len test (ys ++ zs)) 0 ≡ cond (not b) (1 + position_or_len test ys) 0
place_kept_by test ys zs true e rest = refl
place_kept_by test ys zs false e rest = ap (λ (n : ℕ). 1 + n) (rest e)

pub place_kept : {X : Type 0} (test : X → Bool) (ys zs : List X) → list_any test ys ≡ true → position_or_len test (ys ++ zs) ≡ position_or_len test ys
place_kept test [] zs e = absurd (true≢false (sym e))
place_kept test (y ∷ ys) zs e = place_kept_by test ys zs (test y) e (place_kept test ys zs)

none_before_by : {X : Type 0} (test : X → Bool) (ys : List X) (m : ℕ) (b : Bool) → (b || list_any test ys) ≡ false → (list_any test ys ≡ false → m ≡ length ys) → cond (not b) (1 + m) 0 ≡ suc (length ys)
none_before_by test ys m true e rest = absurd (true≢false e)
none_before_by test ys m false e rest = let same = rest e in omega (arith, same)

pub none_before : {X : Type 0} (test : X → Bool) (ys : List X) → list_any test ys ≡ false → position_or_len test ys ≡ length ys
none_before test [] e = refl
none_before test (y ∷ ys) e = none_before_by test ys (position_or_len test ys) (test y) e (none_before test ys)

place_after : {X : Type 0} (test : X → Bool) (ys : List X) (x : X) → list_any test ys ≡ false → test x ≡ true → position_or_len test (ys ++ x ∷ []) ≡ length ys
place_after test [] x e is = ap (λ (t : Bool). cond (not t) (1 + 0) 0) is
place_after test (y ∷ ys) x e is =
    none_before_by test ys (position_or_len test (ys ++ x ∷ [])) (test y) e (λ f. place_after test ys x f is)

any_last : {X : Type 0} (test : X → Bool) (ys : List X) (x : X) → test x ≡ true → list_any test (ys ++ x ∷ []) ≡ true
any_last test [] x is = ap (λ (t : Bool). t || false) is
any_last test (y ∷ ys) x is = or_right (test y) (list_any test (ys ++ x ∷ [])) (any_last test ys x is)

any_kept : {X : Type 0} (test : X → Bool) (ys zs : List X) → list_any test ys ≡ true → list_any test (ys ++ zs) ≡ true
any_kept test ys zs e = list_any-append test ys zs ∙ or_left (list_any test ys) (list_any test zs) e

new_place : {X : Type 0} (test : X → Bool) (ys : List X) (x : X) (b : Bool) → list_any test ys ≡ b → test x ≡ true → position test (cond b ys (ys ++ x ∷ [])) ≡ Some (position_or_len test ys)
new_place test ys x true e is = position_is test ys e
new_place test ys x false e is =
    position_is test (ys ++ x ∷ []) (any_last test ys x is) ∙ ap (λ (n : ℕ). Some n) (place_after test ys x e is ∙ sym (none_before test ys e))

-- One more item stands where its key was, or after the table.
pub place-push : {X : Type 0} {same : X → X → Bool} (eqv : IsEquivalence same) → (xs : List X) (x : X) → position (same x) (firsts same (xs ++ x ∷ [])) ≡ Some (position_or_len (same x) (firsts same xs))
place-push {X} {same} eqv xs x =
    ap (position (same x)) (firsts-push eqv xs x) ∙ new_place (same x) (firsts same xs) x (list_any (same x) (firsts same xs)) refl (eqv.refl x)

old_place : {X : Type 0} (test : X → Bool) (ys : List X) (x : X) (b : Bool) → list_any test ys ≡ true → position test (cond b ys (ys ++ x ∷ [])) ≡ position test ys
old_place test ys x true e = refl
old_place test ys x false e =
    position_is test (ys ++ x ∷ []) (any_kept test ys (x ∷ []) e) ∙ (ap (λ (n : ℕ). Some n) (place_kept test ys (x ∷ []) e) ∙ sym (position_is test ys e))

-- A key that is there keeps its place.
pub place-stays : {X : Type 0} {same : X → X → Bool} (eqv : IsEquivalence same) → (test : X → Bool) (xs : List X) (x : X) →
    list_any test (firsts same xs) ≡ true → position test (firsts same (xs ++ x ∷ [])) ≡ position test (firsts same xs)
place-stays {X} {same} eqv test xs x e =
    ap (position test) (firsts-push eqv xs x) ∙ old_place test (firsts same xs) x (list_any (same x) (firsts same xs)) e

-- ---- at names

by_name : (key : ℕ → List ℕ) → IsEquivalence (λ a b. bytes_eq (key a) (key b))
by_name key = on_texts_equal key

key_test : (key : ℕ → List ℕ) (k : List ℕ) → OfKey (λ a b. bytes_eq (key a) (key b)) (λ x. bytes_eq k (key x))
key_test key k x y e =
    let same : k ≡ key y = (bytes_eq-Decides k (key y)).0 e in
    ap (bytes_eq (key x)) (sym same) ∙ nat_list_eq_equiv.symm (key x) k

pub names_appear : NamesAppear
names_appear key xs =
    record {
      one_more = λ x. firsts-push (by_name key) xs x;
      place = λ x. place-push (by_name key) xs x;
      stays = λ x k e. place-stays (by_name key) (λ y. bytes_eq k (key y)) xs x e;
      found = λ k. find-firsts (λ a b. bytes_eq (key a) (key b)) (λ x. bytes_eq k (key x)) (key_test key k) xs;
      once = firsts-apart (λ a b. bytes_eq (key a) (key b)) xs;
    }
