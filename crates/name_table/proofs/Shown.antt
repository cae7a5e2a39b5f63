-- The entries of a table by the bytes of their names: places, look-ups and one more name.
use Rattle.std.specs.Prelude.{◌≡◌, ℕ, suc, ◌+◌, Bool, true, false, cond, not, ◌||◌, List, [], ◌∷◌, ◌++◌, Option, Some, None, map, length, bytes_eq, nat_lt, position, is_some, refl}
use Rattle.std.specs.List.{find, list_any, position_or_len}
use Rattle.std.specs.Option.{option_map}
use Rattle.std.specs.Map.{lookup, keys_of}
use Rattle.std.proofs.Common.{ap, sym, ◌∙◌, arith, true≢false}
use Rattle.std.proofs.lemmas.Bool.{lt-ltb}
use Rattle.std.proofs.lemmas.Bool.Decides.{nat_tests}
use Rattle.std.proofs.lemmas.List.{length-map}
use Rattle.indexmap.specs.IndexMap.{insert_entry}
use Rattle.std.specs.Cmp.Lexicographic.{nat_list_eq_equiv}
use Rattle.std.proofs.lemmas.Slice.Eq.{bytes_eq-Decides}
use Rattle.name_table.specs.Entries.{is_named, value_named, with_value}

abbrev pub shown : {K V : Type 0} → (K → List ℕ) → List (K × V) → List (List ℕ × V)
shown bytes es = map (λ e. (bytes e.0, e.1)) es

-- A test of keys is one of their bytes.
abbrev pub TestsBytes : {K : Type 0} → (K → List ℕ) → (K → Bool) → List ℕ → Type 0
TestsBytes {K} bytes test name = (k : K) → test k ≡ bytes_eq name (bytes k)

-- ---- places

pub place-shown : {K V : Type 0} (bytes : K → List ℕ) (test : K → Bool) (name : List ℕ) → TestsBytes bytes test name → (es : List (K × V)) →
    position_or_len test (keys_of es) ≡ position_or_len (is_named {V = V} name) (shown bytes es)
place-shown bytes test name same [] = refl
place-shown {K} {V} bytes test name same (e ∷ es) =
    ap (λ (b : Bool). cond (not b) (1 + position_or_len test (keys_of es)) 0) (same e.0)
    ∙ ap (λ (n : ℕ). cond (not (bytes_eq name (bytes e.0))) (1 + n) 0) (place-shown bytes test name same es)

pub position-shown : {K V : Type 0} (bytes : K → List ℕ) (test : K → Bool) (name : List ℕ) → TestsBytes bytes test name → (es : List (K × V)) →
    position test (keys_of es) ≡ position (is_named {V = V} name) (shown bytes es)
position-shown {K} {V} bytes test name same es =
    let len : length (keys_of es) ≡ length (shown bytes es) = length-map es (λ e. e.0) ∙ sym (length-map es (λ e. (bytes e.0, e.1))) in
    ap (λ (n : ℕ). cond (nat_lt n (length (keys_of es))) (Some n) None) (place-shown bytes test name same es)
    ∙ ap (λ (n : ℕ). cond (nat_lt (position_or_len (is_named {V = V} name) (shown bytes es)) n) (Some (position_or_len (is_named {V = V} name) (shown bytes es))) None) len

-- ---- look-ups

mapped : {A B : Type 0} (f : A → B) (b : Bool) (x : A) (o : Option A) → cond b (Some (f x)) (option_map f o) ≡ option_map f (cond b (Some x) o)
mapped f true x o = refl
mapped f false x o = refl

pub lookup-shown : {K V : Type 0} (bytes : K → List ℕ) (test : K → Bool) (name : List ℕ) → TestsBytes bytes test name → (es : List (K × V)) →
    lookup test es ≡ value_named name (shown bytes es)
lookup-shown bytes test name same [] = refl
lookup-shown {K} {V} bytes test name same (e ∷ es) =
    ap (λ (b : Bool). cond b (Some e.1) (lookup test es)) (same e.0)
    ∙ ap (λ (o : Option V). cond (bytes_eq name (bytes e.0)) (Some e.1) o) (lookup-shown bytes test name same es)
    ∙ mapped (λ (q : List ℕ × V). q.1) (bytes_eq name (bytes e.0)) (bytes e.0, e.1) (find (is_named name) (shown bytes es))

-- ---- whether a name is there

any_by : {X : Type 0} (p : X → Bool) (xs : List X) (b : Bool) → list_any p xs ≡ nat_lt (position_or_len p xs) (length xs) →
    (b || list_any p xs) ≡ nat_lt (cond (not b) (1 + position_or_len p xs) 0) (suc (length xs))
any_by p xs true e = sym (lt-ltb 0 (suc (length xs)) (omega arith))
any_by p xs false e = e ∙ one_less (position_or_len p xs) (length xs)
  where
    one_less : (a b : ℕ) → nat_lt a b ≡ nat_lt (1 + a) (suc b)
    one_less a b = grind (arith, nat_tests)

pub any-place : {X : Type 0} (p : X → Bool) (xs : List X) → list_any p xs ≡ nat_lt (position_or_len p xs) (length xs)
any-place p [] = refl
any-place p (x ∷ xs) = any_by p xs (p x) (any-place p xs)

some_by : (b : Bool) (n i : ℕ) → Some i ≡ cond b (Some n) None → (b ≡ true) × (i ≡ n)
some_by true n i e = (refl, cc)
some_by false n i e = absurd (true≢false (ap is_some e))

none_by : (b : Bool) (n : ℕ) → None ≡ cond b (Some n) None → b ≡ false
none_by true n e = absurd (true≢false (sym (ap is_some e)))
none_by false n e = refl

-- A name that is found is there, and its place is that of a further item of the name.
pub there : {X : Type 0} (p : X → Bool) (xs : List X) (i : ℕ) → Some i ≡ position p xs → (list_any p xs ≡ true) × (i ≡ position_or_len p xs)
there p xs i e =
    let both = some_by (nat_lt (position_or_len p xs) (length xs)) (position_or_len p xs) i e in
    (any-place p xs ∙ both.0, both.1)

after_by : {X : Type 0} (p : X → Bool) (xs : List X) (b : Bool) → (b || list_any p xs) ≡ false → (list_any p xs ≡ false → length xs ≡ position_or_len p xs) → suc (length xs) ≡ cond (not b) (1 + position_or_len p xs) 0
after_by p xs true e rest = absurd (true≢false e)
after_by p xs false e rest = let same = rest e in omega (arith, same)

pub after : {X : Type 0} (p : X → Bool) (xs : List X) → list_any p xs ≡ false → length xs ≡ position_or_len p xs
after p [] e = refl
after p (x ∷ xs) e = after_by p xs (p x) e (after p xs)

-- A name that is not found is not there.
pub not_there : {X : Type 0} (p : X → Bool) (xs : List X) → None ≡ position p xs → list_any p xs ≡ false
not_there p xs e = any-place p xs ∙ none_by (nat_lt (position_or_len p xs) (length xs)) (position_or_len p xs) e

-- ---- one more name

new_by : {V : Type 0} (name : List ℕ) (v : V) (e : List ℕ × V) (es : List (List ℕ × V)) (b : Bool) → (b || list_any (is_named name) es) ≡ false →
    (list_any (is_named name) es ≡ false → with_value es name v ≡ es ++ (name, v) ∷ []) → cond b ((e.0, v) ∷ es) (e ∷ with_value es name v) ≡ (e ∷ es) ++ (name, v) ∷ []
new_by name v e es true none rest = absurd (true≢false none)
new_by {V} name v e es false none rest = ap (λ (t : List (List ℕ × V)). e ∷ t) (rest none)

-- A name that is not there goes last.
pub new-value : {V : Type 0} (name : List ℕ) (v : V) (es : List (List ℕ × V)) → list_any (is_named name) es ≡ false → with_value es name v ≡ es ++ (name, v) ∷ []
new-value name v [] none = refl
new-value name v (e ∷ es) none = new_by name v e es (bytes_eq name e.0) none (new-value name v es)

-- ---- another value

abbrev pub TestsPairs : {K : Type 0} → (K → K → Bool) → (K → List ℕ) → Type 0
TestsPairs {K} eq bytes = (x y : K) → eq x y ≡ bytes_eq (bytes x) (bytes y)

set_by : {K V : Type 0} (eq : K → K → Bool) (bytes : K → List ℕ) (e : K × V) (es : List (K × V)) (k : K) (v : V) (b : Bool) → shown bytes (insert_entry eq es k v) ≡ with_value (shown bytes es) (bytes k) v →
    shown bytes (cond b ((e.0, v) ∷ es) (e ∷ insert_entry eq es k v)) ≡ cond b ((bytes e.0, v) ∷ shown bytes es) ((bytes e.0, e.1) ∷ with_value (shown bytes es) (bytes k) v)
set_by eq bytes e es k v true rest = refl
set_by {K} {V} eq bytes e es k v false rest = ap (λ (t : List (List ℕ × V)). (bytes e.0, e.1) ∷ t) rest

pub set-shown : {K V : Type 0} (eq : K → K → Bool) (bytes : K → List ℕ) → TestsPairs eq bytes → (es : List (K × V)) (k : K) (v : V) → shown bytes (insert_entry eq es k v) ≡ with_value (shown bytes es) (bytes k) v
set-shown eq bytes same [] k v = refl
set-shown {K} {V} eq bytes same (e ∷ es) k v =
    set_by eq bytes e es k v (eq k e.0) (set-shown eq bytes same es k v)
    ∙ ap (λ (b : Bool). cond b ((bytes e.0, v) ∷ shown bytes es) ((bytes e.0, e.1) ∷ with_value (shown bytes es) (bytes k) v)) (same k e.0)

-- ---- what is found after another value

found_here : (b : Bool) {V : Type 0} (v w : V) (o : Option V) → cond b (Some v) o ≡ cond b (Some v) (cond b (Some w) o)
found_here true v w o = refl
found_here false v w o = refl

found_there : (b c : Bool) {V : Type 0} (v w : V) (o : Option V) → (b ≡ true → c ≡ true → ⊥) → cond b (Some w) (cond c (Some v) o) ≡ cond c (Some v) (cond b (Some w) o)
found_there true true v w o apart = absurd (apart refl refl)
found_there true false v w o apart = refl
found_there false c v w o apart = refl

first_value : {V : Type 0} (name : List ℕ) (e : List ℕ × V) (es : List (List ℕ × V)) → value_named name (e ∷ es) ≡ cond (bytes_eq name e.0) (Some e.1) (value_named name es)
first_value {V} name e es = sym (mapped (λ (q : List ℕ × V). q.1) (bytes_eq name e.0) e (find (is_named name) es))

value_by : {V : Type 0} (other name : List ℕ) (v : V) (e : List ℕ × V) (es : List (List ℕ × V)) (b : Bool) → bytes_eq name e.0 ≡ b → value_named other (with_value es name v) ≡ cond (bytes_eq name other) (Some v) (value_named other es) →
    value_named other (cond b ((e.0, v) ∷ es) (e ∷ with_value es name v)) ≡ cond (bytes_eq name other) (Some v) (value_named other (e ∷ es))
value_by {V} other name v e es true is rest =
    let same : name ≡ e.0 = (bytes_eq-Decides name e.0).0 is in
    let test : bytes_eq name other ≡ bytes_eq other e.0 = nat_list_eq_equiv.symm name other ∙ ap (bytes_eq other) same in
    first_value other (e.0, v) es
    ∙ found_here (bytes_eq other e.0) v e.1 (value_named other es)
    ∙ ap (λ (t : Bool). cond t (Some v) (cond (bytes_eq other e.0) (Some e.1) (value_named other es))) (sym test)
    ∙ ap (λ (o : Option V). cond (bytes_eq name other) (Some v) o) (sym (first_value other e es))
value_by {V} other name v e es false is rest =
    first_value other e (with_value es name v)
    ∙ ap (λ (o : Option V). cond (bytes_eq other e.0) (Some e.1) o) rest
    ∙ found_there (bytes_eq other e.0) (bytes_eq name other) v e.1 (value_named other es)
    (λ at named. true≢false (sym ((bytes_eq-Decides name e.0).1 ((bytes_eq-Decides name other).0 named ∙ (bytes_eq-Decides other e.0).0 at)) ∙ is))
    ∙ ap (λ (o : Option V). cond (bytes_eq name other) (Some v) o) (sym (first_value other e es))

-- A name's value after one name was given another.
pub value-set : {V : Type 0} (other name : List ℕ) (v : V) (es : List (List ℕ × V)) → value_named other (with_value es name v) ≡ cond (bytes_eq name other) (Some v) (value_named other es)
value-set {V} other name v [] =
    first_value other (name, v) [] ∙ ap (λ (t : Bool). cond t (Some v) None) (nat_list_eq_equiv.symm other name)
value-set other name v (e ∷ es) = value_by other name v e es (bytes_eq name e.0) refl (value-set other name v es)

-- ---- a name that keeps its first value

any_by_value : {V : Type 0} (b any : Bool) (v : V) (o : Option V) → any ≡ is_some o → (b || any) ≡ is_some (cond b (Some v) o)
any_by_value true any v o rest = refl
any_by_value false any v o rest = rest

-- A name is there where it has a value.
pub any-value : {V : Type 0} (name : List ℕ) (es : List (List ℕ × V)) → list_any (is_named name) es ≡ is_some (value_named name es)
any-value name [] = refl
any-value {V} name (e ∷ es) =
    any_by_value (bytes_eq name e.0) (list_any (is_named name) es) e.1 (value_named name es) (any-value name es) ∙ ap is_some (sym (first_value name e es))

kept_by : {V : Type 0} (name : List ℕ) (v first : V) (e : List ℕ × V) (es : List (List ℕ × V)) (b : Bool) → bytes_eq name e.0 ≡ b → cond b (Some e.1) (value_named name es) ≡ Some first →
    (value_named name es ≡ Some first → with_value (with_value es name v) name first ≡ es) → with_value (cond b ((e.0, v) ∷ es) (e ∷ with_value es name v)) name first ≡ e ∷ es
kept_by {V} name v first e es true is had rest =
    let same : e.1 ≡ first = cc in
    ap (λ (b : Bool). cond b ((e.0, first) ∷ es) ((e.0, v) ∷ with_value es name first)) is ∙ ap (λ (w : V). (e.0, w) ∷ es) (sym same)
kept_by {V} name v first e es false is had rest =
    ap (λ (b : Bool). cond b ((e.0, first) ∷ with_value es name v) (e ∷ with_value (with_value es name v) name first)) is
    ∙ ap (λ (t : List (List ℕ × V)). e ∷ t) (rest had)

-- A name that is given another value and then the one that it had keeps it.
pub kept-value : {V : Type 0} (name : List ℕ) (v first : V) (es : List (List ℕ × V)) → value_named name es ≡ Some first → with_value (with_value es name v) name first ≡ es
kept-value name v first [] had = absurd (true≢false (sym (ap is_some had)))
kept-value name v first (e ∷ es) had = kept_by name v first e es (bytes_eq name e.0) refl (sym (first_value name e es) ∙ had) (kept-value name v first es)
