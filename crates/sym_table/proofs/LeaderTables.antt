-- Tables of names with a module's number: one more name, and the first module of a name.
use Rattle.std.specs.Prelude.{◌≡◌, ℕ, ◌+◌, ◌<◌, Bool, true, false, cond, ◌||◌, List, [], ◌∷◌, ◌++◌, Option, Some, None, length, take, find, is_some, bytes_eq, refl}
use Rattle.std.specs.List.{list_any, position_from}
use Rattle.std.specs.Option.{option_map, option_or}
use Rattle.std.specs.Cmp.Lexicographic.{nat_list_eq_equiv}
use Rattle.std.proofs.Common.{ap, sym, ◌∙◌, arith, true≢false}
use Rattle.std.proofs.Math.ListN.{get_or}
use Rattle.std.proofs.Math.Bool.{or-false}
use Rattle.std.proofs.lemmas.List.{take_more, length-take-le}
use Rattle.std.proofs.lemmas.List.Folds.{find-append, list_any-append}
use Rattle.std.proofs.lemmas.Slice.Eq.{bytes_eq-Decides}
use Rattle.name_table.specs.Entries.{is_named, value_named, with_entry}
use Rattle.sym_table.specs.Leading.{given}

-- ---- one more name

-- The value, where the test holds.
abbrev pub when : {V : Type 0} → Bool → V → Option V
when test value = cond test (Some value) None

has_value : {V : Type 0} (name : List ℕ) (es : List (List ℕ × V)) → list_any (is_named name) es ≡ is_some (value_named name es)
has_value name [] = refl
has_value {V} name (e ∷ es) = by (is_named name e) (find (is_named name) es) (list_any (is_named name) es) (has_value name es)
  where
    by : (b : Bool) (o : Option (List ℕ × V)) (c : Bool) → c ≡ is_some (option_map (λ (x : List ℕ × V). x.1) o) → (b || c) ≡ is_some (option_map (λ (x : List ℕ × V). x.1) (cond b (Some e) o))
    by true o c h = refl
    by false o c h = h

or_self : {V : Type 0} (o : Option V) (b : Bool) (v : V) → (b ≡ true → is_some o ≡ true) → o ≡ option_or o (when b v)
or_self (Some x) b v h = refl
or_self None true v h = absurd (true≢false (sym (h refl)))
or_self None false v h = refl

pub map-or : {X Y : Type 0} (f : X → Y) (a b : Option X) → option_map f (option_or a b) ≡ option_or (option_map f a) (option_map f b)
map-or f None b = refl
map-or f (Some x) b = refl

pub map-when : {X Y : Type 0} (f : X → Y) (b : Bool) (x : X) → option_map f (when b x) ≡ when b (f x)
map-when f true x = refl
map-when f false x = refl

entry_by : {V : Type 0} (name n : List ℕ) (v : V) (es : List (List ℕ × V)) (b : Bool) → list_any (is_named n) es ≡ b → value_named name (cond b es (es ++ (n, v) ∷ [])) ≡ option_or (value_named name es) (when (bytes_eq n name) v)
entry_by {V} name n v es true e =
    or_self (value_named name es) (bytes_eq n name) v
    (λ is. ap (λ (m : List ℕ). is_some (value_named m es)) (sym ((bytes_eq-Decides n name).0 is)) ∙ (sym (has_value n es) ∙ e))
entry_by {V} name n v es false e =
    let value : (List ℕ × V) → V = λ x. x.1 in
    ap (option_map value) (find-append (is_named name) es ((n, v) ∷ []))
    ∙ map-or value (find (is_named name) es) (when (bytes_eq name n) (n, v))
    ∙ ap (λ (o : Option V). option_or (value_named name es) o) (map-when value (bytes_eq name n) (n, v) ∙ ap (λ (b : Bool). when b v) (nat_list_eq_equiv.symm name n))

pub more_entry : {V : Type 0} (name n : List ℕ) (v : V) (es : List (List ℕ × V)) → value_named name (with_entry es n v) ≡ option_or (value_named name es) (when (bytes_eq n name) v)
more_entry name n v es = entry_by name n v es (list_any (is_named n) es) refl

-- ---- given values

pub given_twice : (o : Option ℕ) (a b : Bool) (v : ℕ) → option_or (option_or o (given a v)) (given b v) ≡ option_or o (given (a || b) v)
given_twice (Some x) a b v = refl
given_twice None true b v = refl
given_twice None false b v = refl

pub not_given : (o : Option ℕ) (v : ℕ) → o ≡ option_or o (given false v)
not_given None v = refl
not_given (Some x) v = refl

pub some_given : (o : Option ℕ) (b : Bool) (v : ℕ) → is_some (option_or o (given b v)) ≡ (is_some o || b)
some_given None true v = refl
some_given None false v = refl
some_given (Some x) b v = refl

-- ---- one more item of a list

pub any-more : {X : Type 0} (test : X → Bool) (xs : List X) (i : ℕ) (x : X) → i < length xs → x ≡ get_or xs i x → list_any test (take (i + 1) xs) ≡ (list_any test (take i xs) || test x)
any-more {X} test xs i x below is =
    ap (list_any test) (take_more xs i x below ∙ ap (λ (y : X). take i xs ++ y ∷ []) (sym is))
    ∙ list_any-append test (take i xs) (x ∷ [])
    ∙ ap (λ (b : Bool). list_any test (take i xs) || b) (or-false (test x))

-- A name's value where the next item has the name.
pub item_given : {X : Type 0} (test : X → Bool) (xs : List X) (i : ℕ) (x : X) (old now new : Option ℕ) (b : Bool) (v : ℕ) → i < length xs → x ≡ get_or xs i x →
    now ≡ option_or old (given (list_any test (take i xs)) v) → new ≡ option_or now (given b v) → test x ≡ b → new ≡ option_or old (given (list_any test (take (i + 1) xs)) v)
item_given test xs i x old now new b v below is before after same =
    after ∙ ap (λ (o : Option ℕ). option_or o (given b v)) before ∙ given_twice old (list_any test (take i xs)) b v
    ∙ ap (λ (c : Bool). option_or old (given c v)) (sym (any-more test xs i x below is ∙ ap (λ (c : Bool). list_any test (take i xs) || c) same))

-- ---- the first place

position-snoc : {X : Type 0} (test : X → Bool) (s : ℕ) (xs : List X) (x : X) → position_from test s (xs ++ x ∷ []) ≡ option_or (position_from test s xs) (given (test x) (s + length xs))
position-snoc test s [] x = ap (λ (n : ℕ). given (test x) n) (omega arith)
position-snoc {X} test s (y ∷ ys) x =
    ap (λ (o : Option ℕ). cond (test y) (Some s) o) (position-snoc test (s + 1) ys x)
    ∙ by (test y) (position_from test (s + 1) ys) (given (test x) (s + 1 + length ys))
    ∙ ap (λ (n : ℕ). option_or (cond (test y) (Some s) (position_from test (s + 1) ys)) (given (test x) n)) (omega arith)
  where
    by : (b : Bool) (o p : Option ℕ) → cond b (Some s) (option_or o p) ≡ option_or (cond b (Some s) o) p
    by true o p = refl
    by false o p = refl

-- One more module.
pub position-more : {X : Type 0} (test : X → Bool) (xs : List X) (i : ℕ) (x : X) → i < length xs → x ≡ get_or xs i x → position_from test 0 (take (i + 1) xs) ≡ option_or (position_from test 0 (take i xs)) (given (test x) i)
position-more {X} test xs i x below is =
    ap (position_from test 0) (take_more xs i x below ∙ ap (λ (y : X). take i xs ++ y ∷ []) (sym is))
    ∙ position-snoc test 0 (take i xs) x
    ∙ ap (λ (n : ℕ). option_or (position_from test 0 (take i xs)) (given (test x) n)) (let len = length-take-le i xs (omega arith) in let all : 0 + length (take i xs) ≡ i = omega (arith, len) in all)

-- A place is there where some item passes.
pub some_place : {X : Type 0} (test : X → Bool) (s : ℕ) (xs : List X) → is_some (position_from test s xs) ≡ list_any test xs
some_place test s [] = refl
some_place test s (x ∷ xs) = by (test x) (position_from test (s + 1) xs) (list_any test xs) (some_place test (s + 1) xs)
  where
    by : (b : Bool) (o : Option ℕ) (c : Bool) → is_some o ≡ c → is_some (cond b (Some s) o) ≡ (b || c)
    by true o c h = refl
    by false o c h = h
