-- Lists: tests of some item, what holds of each, and lengths.
use Rattle.std.proofs.Common.{◌≡◌, ℕ, zero, suc, ◌+◌, ◌≤◌, ◌<◌, Bool, true, false, cond, ◌&&◌, ◌||◌, List, [], ◌∷◌, ◌++◌, map, length, filter, flat_map, filter_map, find, Option, Some, None, refl, ap, ◌∙◌, arith}
use Rattle.std.specs.List.{list_any, range_with_len, enumerate_from, cons_option, AllByRecursion}
use Rattle.std.proofs.Math.Bool.{or-true}
use Rattle.std.proofs.lemmas.List.Folds.{list_any-append}

-- ---- whether some item passes

pub any_map : {X Y : Type 0} (test : Y → Bool) (f : X → Y) (xs : List X) → list_any test (map f xs) ≡ list_any (λ x. test (f x)) xs
any_map test f [] = refl
any_map test f (x ∷ xs) = ap (λ (b : Bool). test (f x) || b) (any_map test f xs)

pub any_filter : {X : Type 0} (test keep : X → Bool) (xs : List X) → list_any test (filter keep xs) ≡ list_any (λ x. keep x && test x) xs
any_filter test keep [] = refl
any_filter test keep (x ∷ xs) = kept test (keep x) x (filter keep xs) ∙ ap (λ (b : Bool). (keep x && test x) || b) (any_filter test keep xs)
  where
    kept : {X : Type 0} (test : X → Bool) (b : Bool) (x : X) (ys : List X) → list_any test (cond b (x ∷ ys) ys) ≡ ((b && test x) || list_any test ys)
    kept test true x ys = refl
    kept test false x ys = refl

pub any_flat_map : {X Y : Type 0} (test : Y → Bool) (f : X → List Y) (xs : List X) → list_any test (flat_map f xs) ≡ list_any (λ x. list_any test (f x)) xs
any_flat_map test f [] = refl
any_flat_map test f (x ∷ xs) = list_any-append test (f x) (flat_map f xs) ∙ ap (λ (b : Bool). list_any test (f x) || b) (any_flat_map test f xs)

pub any_agree : {X : Type 0} (f g : X → Bool) → ((x : X) → f x ≡ g x) → (xs : List X) → list_any f xs ≡ list_any g xs
any_agree f g same [] = refl
any_agree f g same (x ∷ xs) = ap (λ (b : Bool). b || list_any f xs) (same x) ∙ ap (λ (b : Bool). g x || b) (any_agree f g same xs)

pub any_weaker : {X : Type 0} (f g : X → Bool) → ((x : X) → f x ≡ true → g x ≡ true) → (xs : List X) → list_any f xs ≡ true → list_any g xs ≡ true
any_weaker f g more [] h = h
any_weaker f g more (x ∷ xs) h = step (f x) refl (any_weaker f g more xs) h
  where
    step : (b : Bool) → f x ≡ b → (list_any f xs ≡ true → list_any g xs ≡ true) → b || list_any f xs ≡ true → g x || list_any g xs ≡ true
    step true e later h = ap (λ b. b || list_any g xs) (more x e)
    step false e later h = ap (λ b. g x || b) (later h) ∙ or-true (g x)

pub find_agree : {X : Type 0} (p q : X → Bool) → ((x : X) → p x ≡ q x) → (xs : List X) → find p xs ≡ find q xs
find_agree p q same [] = refl
find_agree {X} p q same (x ∷ xs) = ap (λ (b : Bool). cond b (Some x) (find p xs)) (same x) ∙ ap (λ (o : Option X). cond (q x) (Some x) o) (find_agree p q same xs)

pub none_found : {X : Type 0} (test : X → Bool) (xs : List X) → find test xs ≡ None → AllByRecursion (λ x. test x ≡ false) xs
none_found test [] e = tt
none_found {X} test (x ∷ xs) e = step (test x) refl e (none_found test xs)
  where
    step : (b : Bool) → test x ≡ b → cond b (Some x) (find test xs) ≡ None → (find test xs ≡ None → AllByRecursion (λ y. test y ≡ false) xs) → (test x ≡ false) × AllByRecursion (λ y. test y ≡ false) xs
    step true is other later = absurd cc
    step false is other later = (is, later other)

-- ---- what holds of each

pub all_joined : {X : Type 0} (P : X → Type 0) (xs ys : List X) → AllByRecursion P xs → AllByRecursion P ys → AllByRecursion P (xs ++ ys)
all_joined P [] ys a b = b
all_joined P (x ∷ xs) ys a b = (a.0, all_joined P xs ys a.1 b)

pub all_front : {X : Type 0} (P : X → Type 0) (xs ys : List X) → AllByRecursion P (xs ++ ys) → AllByRecursion P xs
all_front P [] ys h = tt
all_front P (x ∷ xs) ys h = (h.0, all_front P xs ys h.1)

pub all_back : {X : Type 0} (P : X → Type 0) (xs ys : List X) → AllByRecursion P (xs ++ ys) → AllByRecursion P ys
all_back P [] ys h = h
all_back P (x ∷ xs) ys h = all_back P xs ys h.1

pub all_weaker : {X : Type 0} (P Q : X → Type 0) → ((x : X) → P x → Q x) → (xs : List X) → AllByRecursion P xs → AllByRecursion Q xs
all_weaker P Q f [] h = tt
all_weaker P Q f (x ∷ xs) h = (f x h.0, all_weaker P Q f xs h.1)

pub all_kept : {X : Type 0} (P : X → Type 0) (keep : X → Bool) (xs : List X) → AllByRecursion P xs → AllByRecursion P (filter keep xs)
all_kept P keep [] h = tt
all_kept {X} P keep (x ∷ xs) h = step (keep x) (all_kept P keep xs h.1)
  where
    step : (b : Bool) → AllByRecursion P (filter keep xs) → AllByRecursion P (cond b (x ∷ filter keep xs) (filter keep xs))
    step true rest = (h.0, rest)
    step false rest = rest

-- ---- lists that functions make

pub map_agree : {A B : Type 0} (f g : A → B) → ((x : A) → f x ≡ g x) → (xs : List A) → map f xs ≡ map g xs
map_agree f g same [] = refl
map_agree f g same (x ∷ xs) = ap (λ y. y ∷ map f xs) (same x) ∙ ap (λ ys. g x ∷ ys) (map_agree f g same xs)

pub range-push : (a n : ℕ) → range_with_len a (suc n) ≡ range_with_len a n ++ (a + n) ∷ []
range-push a zero = ap (λ (m : ℕ). m ∷ []) (omega arith)
range-push a (suc n) =
    ap (λ (t : List ℕ). a ∷ t) (range-push (a + 1) n) ∙ ap (λ (m : ℕ). a ∷ (range_with_len (a + 1) n ++ m ∷ [])) (omega arith)

pub map_range_agree : {X : Type 0} (f g : ℕ → X) (n from : ℕ) → ((x : ℕ) → from ≤ x → x < from + n → f x ≡ g x) → map f (range_with_len from n) ≡ map g (range_with_len from n)
map_range_agree f g zero from h = refl
map_range_agree f g (suc n) from h =
    ap (λ y. y ∷ map f (range_with_len (from + 1) n)) (h from (omega arith) (omega arith))
    ∙ ap (λ ys. g from ∷ ys) (map_range_agree f g n (from + 1) (λ x low high. h x (omega arith) (omega arith)))

pub length-map-enumerate_from : {X Y : Type 0} (f : ℕ × X → Y) (b : ℕ) (xs : List X) → length (map f (enumerate_from b xs)) ≡ length xs
length-map-enumerate_from f b [] = refl
length-map-enumerate_from f b (x ∷ xs) = ap suc (length-map-enumerate_from f (b + 1) xs)

pub length-filter_map : {X Y : Type 0} (f : X → Option Y) (xs : List X) → length (filter_map f xs) ≤ length xs
length-filter_map f [] = omega arith
length-filter_map {X} {Y} f (x ∷ xs) = step (f x) (length-filter_map f xs)
  where
    step : (o : Option Y) → length (filter_map f xs) ≤ length xs → length (cons_option o (filter_map f xs)) ≤ suc (length xs)
    step (Some y) few = omega arith
    step None few = omega arith
