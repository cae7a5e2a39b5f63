-- An index of names: what is found in it after one more name.
use Rattle.std.proofs.Common.{◌≡◌, ℕ, ◌∙◌, Bool, true, false, cond, List, [], ◌∷◌, map, find, bytes_eq, Option, Some, option_map, refl, sym, ap, if◌then◌else◌}
use Rattle.std.proofs.lemmas.Bool.{both_ways}
use Rattle.std.proofs.lemmas.Slice.Eq.{bytes_eq-Decides}
use Rattle.std.specs.Map.{lookup}
use Rattle.indexmap.specs.IndexMap.{insert_entry}
use Rattle.lx_types.specs.Parts.{ordinal_named}
use Rattle.lx_types.proofs.Bools.{same_test}

-- an index' entries by the bytes of their names
abbrev pub shown : {K : Type 0} → (K → List ℕ) → List (K × ℕ) → List (List ℕ × ℕ)
shown bytes es = map (λ e. (bytes e.0, e.1)) es

option_map-cond : {A B : Type 0} (f : A → B) (b : Bool) (x : A) (o : Option A) → option_map f (cond b (Some x) o) ≡ cond b (Some (f x)) (option_map f o)
option_map-cond f true x o = refl
option_map-cond f false x o = refl

pub ordinal_named-cons : (bytes : List ℕ) (ordinal : ℕ) (rest : List (List ℕ × ℕ)) (q : List ℕ) →
    ordinal_named ((bytes, ordinal) ∷ rest) q ≡ cond (bytes_eq bytes q) (Some ordinal) (ordinal_named rest q)
ordinal_named-cons bytes ordinal rest q = option_map-cond (λ n. n.1) (bytes_eq bytes q) (bytes, ordinal) (find (λ n. bytes_eq n.0 q) rest)

-- a look-up by a test of the bytes
pub lookup-shown : {K : Type 0} (bytes : K → List ℕ) (test : K → Bool) (q : List ℕ) → ((k : K) → test k ≡ bytes_eq (bytes k) q) → (es : List (K × ℕ)) →
    lookup test es ≡ ordinal_named (shown bytes es) q
lookup-shown bytes test q same [] = refl
lookup-shown bytes test q same (e ∷ es) =
    ap (λ b. cond b (Some e.1) (lookup test es)) (same e.0)
    ∙ ap (λ o. cond (bytes_eq (bytes e.0) q) (Some e.1) o) (lookup-shown bytes test q same es)
    ∙ sym (ordinal_named-cons (bytes e.0) e.1 (shown bytes es) q)

twice_so : {A : Type 0} (b : Bool) (x y z : A) → cond b x z ≡ cond b x (cond b y z)
twice_so true x y z = refl
twice_so false x y z = refl

never_both : {A : Type 0} (b c : Bool) (x y z : A) → (b ≡ true → c ≡ true → ⊥) → cond c y (cond b x z) ≡ cond b x (cond c y z)
never_both true true x y z apart = absurd (apart refl refl)
never_both true false x y z apart = refl
never_both false true x y z apart = refl
never_both false false x y z apart = refl

-- ---- bytes are compared either way round

pub bytes_eq-sym : (xs ys : List ℕ) → bytes_eq xs ys ≡ bytes_eq ys xs
bytes_eq-sym xs ys =
    same_test (bytes_eq xs ys) (bytes_eq ys xs)
    (λ e. (bytes_eq-Decides ys xs).1 (sym ((bytes_eq-Decides xs ys).0 e)))
    (λ e. (bytes_eq-Decides xs ys).1 (sym ((bytes_eq-Decides ys xs).0 e)))

-- ---- one more name

abbrev pub HasBytes : {K : Type 0} → (K → K → Bool) → (K → List ℕ) → Type 0
HasBytes {K} eq bytes = (x y : K) → eq x y ≡ bytes_eq (bytes x) (bytes y)

-- the entry after which the name may stand already
inserted : {K : Type 0} (eq : K → K → Bool) (bytes : K → List ℕ) → HasBytes eq bytes → (e : K × ℕ) (es : List (K × ℕ)) (k : K) (v : ℕ) (q : List ℕ) →
    ordinal_named (shown bytes (insert_entry eq es k v)) q ≡ cond (bytes_eq (bytes k) q) (Some v) (ordinal_named (shown bytes es) q) → (b : Bool) → eq k e.0 ≡ b →
    ordinal_named (shown bytes (if b then (e.0, v) ∷ es else e ∷ insert_entry eq es k v)) q ≡ cond (bytes_eq (bytes k) q) (Some v) (ordinal_named (shown bytes (e ∷ es)) q)
inserted eq bytes has e es k v q rest true is =
    let same : bytes k ≡ bytes e.0 = (bytes_eq-Decides (bytes k) (bytes e.0)).0 (sym (has k e.0) ∙ is) in
    let old : Option ℕ = ordinal_named (shown bytes es) q in
    ordinal_named-cons (bytes e.0) v (shown bytes es) q
    ∙ twice_so (bytes_eq (bytes e.0) q) (Some v) (Some e.1) old
    ∙ ap (λ o. cond (bytes_eq (bytes e.0) q) (Some v) o) (sym (ordinal_named-cons (bytes e.0) e.1 (shown bytes es) q))
    ∙ ap (λ bs. cond (bytes_eq bs q) (Some v) (ordinal_named (shown bytes (e ∷ es)) q)) (sym same)
inserted eq bytes has e es k v q rest false is =
    let old : Option ℕ = ordinal_named (shown bytes es) q in
    ordinal_named-cons (bytes e.0) e.1 (shown bytes (insert_entry eq es k v)) q
    ∙ ap (λ o. cond (bytes_eq (bytes e.0) q) (Some e.1) o) rest
    ∙ never_both (bytes_eq (bytes k) q) (bytes_eq (bytes e.0) q) (Some v) (Some e.1) old
    (λ of_new of_old. both_ways (eq k e.0) is
    (has k e.0 ∙ (bytes_eq-Decides (bytes k) (bytes e.0)).1 ((bytes_eq-Decides (bytes k) q).0 of_new ∙ sym ((bytes_eq-Decides (bytes e.0) q).0 of_old))))
    ∙ ap (λ o. cond (bytes_eq (bytes k) q) (Some v) o) (sym (ordinal_named-cons (bytes e.0) e.1 (shown bytes es) q))

pub insert_shown : {K : Type 0} (eq : K → K → Bool) (bytes : K → List ℕ) → HasBytes eq bytes → (es : List (K × ℕ)) (k : K) (v : ℕ) (q : List ℕ) →
    ordinal_named (shown bytes (insert_entry eq es k v)) q ≡ cond (bytes_eq (bytes k) q) (Some v) (ordinal_named (shown bytes es) q)
insert_shown eq bytes has [] k v q = ordinal_named-cons (bytes k) v [] q
insert_shown eq bytes has (e ∷ es) k v q = inserted eq bytes has e es k v q (insert_shown eq bytes has es k v q) (eq k e.0) refl
