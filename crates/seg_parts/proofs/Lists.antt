-- Lists that grow by one item.
use Rattle.std.specs.Prelude.{◌≡◌, ℕ, zero, suc, drop, ◌+◌, ◌<◌, ◌≤◌, Bool, true, false, cond, map, filter, ◌||◌, Option, Some, None, Result, Ok, Err, IfOk, List, [], ◌∷◌, ◌++◌, length, take, refl}
use Rattle.std.specs.List.{enumerate_from, list_any, find, flat_map, filter_map, cons_option}
use Rattle.std.specs.Option.{option_map}
use Rattle.std.proofs.Common.{ap, sym, ◌∙◌, arith, append_assoc}
use Rattle.std.proofs.Math.ListN.{get_or}
use Rattle.std.proofs.lemmas.List.{take_more, map-append, append-nil, take-append-drop}
use Rattle.std.proofs.lemmas.List.Elements.{filter-append, filter_map-append}
use Rattle.std.proofs.lemmas.List.{length-take-le}

pub enumerate-push : {X : Type 0} (s : ℕ) (xs : List X) (x : X) → enumerate_from s (xs ++ x ∷ []) ≡ enumerate_from s xs ++ (s + length xs, x) ∷ []
enumerate-push {X} s [] x = ap (λ (n : ℕ). let e : ℕ × X = (n, x) in e ∷ []) (omega arith)
enumerate-push {X} s (y ∷ ys) x =
    let first : ℕ × X = (s, y) in
    ap (λ (t : List (ℕ × X)). first ∷ t) (enumerate-push (s + 1) ys x)
    ∙ ap (λ (n : ℕ). let e : ℕ × X = (n, x) in first ∷ (enumerate_from (s + 1) ys ++ e ∷ [])) (omega arith)

pub take-push : {X : Type 0} (xs : List X) (i : ℕ) (x : X) → i < length xs → x ≡ get_or xs i x → take (i + 1) xs ≡ take i xs ++ x ∷ []
take-push {X} xs i x there is = take_more xs i x there ∙ ap (λ (y : X). take i xs ++ y ∷ []) (sym is)

pub enumerate-more : {X : Type 0} (s : ℕ) (xs : List X) (i : ℕ) (x : X) → i < length xs → x ≡ get_or xs i x → enumerate_from s (take (i + 1) xs) ≡ enumerate_from s (take i xs) ++ (s + i, x) ∷ []
enumerate-more {X} s xs i x there is =
    ap (enumerate_from s) (take-push xs i x there is) ∙ enumerate-push s (take i xs) x
    ∙ ap (λ (n : ℕ). let e : ℕ × X = (s + n, x) in enumerate_from s (take i xs) ++ e ∷ []) (length-take-le i xs (omega arith))

one_by : {X Y : Type 0} (f : X → Y) (x : X) (b : Bool) → map f (cond b (x ∷ []) []) ≡ cond b (f x ∷ []) []
one_by f x true = refl
one_by f x false = refl

-- What is made of those numbered items that pass, with one more item.
pub picked-more : {X Y : Type 0} (f : ℕ × X → Y) (p : ℕ × X → Bool) (s : ℕ) (xs : List X) (i : ℕ) (x : X) → i < length xs → x ≡ get_or xs i x →
    map f (filter p (enumerate_from s (take (i + 1) xs))) ≡ map f (filter p (enumerate_from s (take i xs))) ++ cond (p (s + i, x)) (f (s + i, x) ∷ []) []
picked-more {X} {Y} f p s xs i x there is =
    let one : ℕ × X = (s + i, x) in
    let before : List (ℕ × X) = enumerate_from s (take i xs) in
    ap (λ (t : List (ℕ × X)). map f (filter p t)) (enumerate-more s xs i x there is)
    ∙ ap (map f) (filter-append p before (one ∷ []))
    ∙ map-append f (filter p before) (filter p (one ∷ []))
    ∙ ap (λ (t : List Y). map f (filter p before) ++ t) (one_by f one (p one))

pub picked-in : {X Y : Type 0} (f : ℕ × X → Y) (p : ℕ × X → Bool) (s : ℕ) (base now next : List Y) (xs : List X) (i : ℕ) (x : X) (y : Y) → i < length xs → x ≡ get_or xs i x → p (s + i, x) ≡ true → y ≡ f (s + i, x) →
    now ≡ base ++ map f (filter p (enumerate_from s (take i xs))) → next ≡ now ++ y ∷ [] → next ≡ base ++ map f (filter p (enumerate_from s (take (i + 1) xs)))
picked-in {X} {Y} f p s base now next xs i x y there is passes value e grown =
    let before : List Y = map f (filter p (enumerate_from s (take i xs))) in
    grown ∙ ap (λ (t : List Y). t ++ y ∷ []) e ∙ append_assoc base before (y ∷ []) ∙ ap (λ (v : Y). base ++ (before ++ v ∷ [])) value
    ∙ ap (λ (b : Bool). base ++ (before ++ cond b (f (s + i, x) ∷ []) [])) (sym passes) ∙ ap (λ (t : List Y). base ++ t) (sym (picked-more f p s xs i x there is))

pub picked-out : {X Y : Type 0} (f : ℕ × X → Y) (p : ℕ × X → Bool) (s : ℕ) (base now : List Y) (xs : List X) (i : ℕ) (x : X) → i < length xs → x ≡ get_or xs i x → p (s + i, x) ≡ false →
    now ≡ base ++ map f (filter p (enumerate_from s (take i xs))) → now ≡ base ++ map f (filter p (enumerate_from s (take (i + 1) xs)))
picked-out {X} {Y} f p s base now xs i x there is fails e =
    let before : List Y = map f (filter p (enumerate_from s (take i xs))) in
    e ∙ ap (λ (t : List Y). base ++ t) (sym (append-nil before))
    ∙ ap (λ (b : Bool). base ++ (before ++ cond b (f (s + i, x) ∷ []) [])) (sym fails) ∙ ap (λ (t : List Y). base ++ t) (sym (picked-more f p s xs i x there is))

-- ---- searches in lists of other items

pub any_mapped : {X Y : Type 0} (p : Y → Bool) (f : X → Y) (xs : List X) → list_any (λ x. p (f x)) xs ≡ list_any p (map f xs)
any_mapped p f [] = refl
any_mapped p f (x ∷ xs) = ap (λ (b : Bool). p (f x) || b) (any_mapped p f xs)

found_by : {X Y : Type 0} (f : X → Y) (x : X) (b : Bool) (o : Option X) → option_map f (cond b (Some x) o) ≡ cond b (Some (f x)) (option_map f o)
found_by f x true o = refl
found_by f x false o = refl

pub find_mapped : {X Y : Type 0} (p : Y → Bool) (f : X → Y) (xs : List X) → option_map f (find (λ x. p (f x)) xs) ≡ find p (map f xs)
find_mapped p f [] = refl
find_mapped {X} {Y} p f (x ∷ xs) =
    found_by f x (p (f x)) (find (λ y. p (f y)) xs) ∙ ap (λ (o : Option Y). cond (p (f x)) (Some (f x)) o) (find_mapped p f xs)

-- One more of numbered items, each with a value.
pub each-more : {X Y : Type 0} (f : ℕ × X → Y) (s : ℕ) (base now next : List Y) (xs : List X) (i : ℕ) (x : X) (y : Y) → i < length xs → x ≡ get_or xs i x → y ≡ f (s + i, x) →
    now ≡ base ++ map f (enumerate_from s (take i xs)) → next ≡ now ++ y ∷ [] → next ≡ base ++ map f (enumerate_from s (take (i + 1) xs))
each-more {X} {Y} f s base now next xs i x y there is value e grown =
    let before : List (ℕ × X) = enumerate_from s (take i xs) in
    let one : ℕ × X = (s + i, x) in
    grown ∙ ap (λ (t : List Y). t ++ y ∷ []) e ∙ append_assoc base (map f before) (y ∷ []) ∙ ap (λ (v : Y). base ++ (map f before ++ v ∷ [])) value
    ∙ ap (λ (t : List Y). base ++ t) (sym (ap (map f) (enumerate-more s xs i x there is) ∙ map-append f before (one ∷ [])))

pub ok_by : {A E : Type 0} {P Q : A → Type 0} (r : Result A E) → ((x : A) → P x → Q x) → IfOk r P → IfOk r Q
ok_by (Ok x) f h = f x h
ok_by (Err e) f h = tt

pub filter-each : {X Y Z : Type 0} (p : Z → Bool) (f : Y → List Z) (g : X → Y) (xs : List X) → filter p (flat_map f (map g xs)) ≡ flat_map (λ x. filter p (f (g x))) xs
filter-each p f g [] = refl
filter-each {X} {Y} {Z} p f g (x ∷ xs) =
    filter-append p (f (g x)) (flat_map f (map g xs)) ∙ ap (λ (t : List Z). filter p (f (g x)) ++ t) (filter-each p f g xs)

pub take_all : {X : Type 0} (xs : List X) (n : ℕ) → length xs ≤ n → take n xs ≡ xs
take_all [] zero h = refl
take_all [] (suc n) h = refl
take_all (x ∷ xs) zero h = absurd (omega arith)
take_all {X} (x ∷ xs) (suc n) h = ap (λ (t : List X). x ∷ t) (take_all xs n (omega arith))

-- An item with those before it and those after it.
pub split-at : {X : Type 0} (xs : List X) (i : ℕ) (x : X) → i < length xs → x ≡ get_or xs i x → xs ≡ take i xs ++ x ∷ drop (i + 1) xs
split-at {X} xs i x there is =
    sym (take-append-drop (i + 1) xs) ∙ ap (λ (t : List X). t ++ drop (i + 1) xs) (take-push xs i x there is) ∙ append_assoc (take i xs) (x ∷ []) (drop (i + 1) xs)

-- ---- those that have a value

filter_map-more : {X Y : Type 0} (h : X → Option Y) (xs : List X) (i : ℕ) (x : X) → i < length xs → x ≡ get_or xs i x → filter_map h (take (i + 1) xs) ≡ filter_map h (take i xs) ++ cons_option (h x) []
filter_map-more {X} {Y} h xs i x there is =
    ap (filter_map h) (take_more xs i x there ∙ ap (λ (y : X). take i xs ++ y ∷ []) (sym is)) ∙ filter_map-append h (take i xs) (x ∷ [])

pub added : {X Y : Type 0} (h : X → Option Y) (base now next : List Y) (xs : List X) (i : ℕ) (x : X) (y : Y) → i < length xs → x ≡ get_or xs i x → h x ≡ Some y → now ≡ base ++ filter_map h (take i xs) → next ≡ now ++ y ∷ [] → next ≡ base ++ filter_map h (take (i + 1) xs)
added {X} {Y} h base now next xs i x y there is value e f =
    f ∙ ap (λ (t : List Y). t ++ y ∷ []) e ∙ append_assoc base (filter_map h (take i xs)) (y ∷ [])
    ∙ ap (λ (t : List Y). base ++ t) (sym (filter_map-more h xs i x there is ∙ ap (λ (o : Option Y). filter_map h (take i xs) ++ cons_option o []) value))

pub passed : {X Y : Type 0} (h : X → Option Y) (base now : List Y) (xs : List X) (i : ℕ) (x : X) → i < length xs → x ≡ get_or xs i x → h x ≡ None → now ≡ base ++ filter_map h (take i xs) → now ≡ base ++ filter_map h (take (i + 1) xs)
passed {X} {Y} h base now xs i x there is none e =
    e ∙ ap (λ (t : List Y). base ++ t) (sym (filter_map-more h xs i x there is ∙ (ap (λ (o : Option Y). filter_map h (take i xs) ++ cons_option o []) none ∙ append-nil (filter_map h (take i xs)))))
