-- The table of import pairs: one more pair, and the place of one.
use Rattle.std.specs.Prelude.{◌≡◌, ℕ, ◌+◌, Bool, true, false, cond, not, ◌||◌, List, [], ◌∷◌, ◌++◌, Option, Some, None, map, length, nat_lt, position, is_some, refl}
use Rattle.std.specs.List.{list_any, position_or_len}
use Rattle.std.specs.Map.{keys_of, lookup}
use Rattle.std.proofs.Common.{ap, sym, ◌∙◌}
use Rattle.std.proofs.lemmas.List.{length-map}
use Rattle.indexmap.specs.IndexMap.{insert_entry}

abbrev pub viewed : {K V W : Type 0} → (K → W) → List (K × V) → List W
viewed view es = map (λ e. view e.0) es

place_viewed : {K V W : Type 0} (view : K → W) (eq : K → Bool) (test : W → Bool) → ((k : K) → eq k ≡ test (view k)) → (es : List (K × V)) → position_or_len eq (keys_of es) ≡ position_or_len test (viewed view es)
place_viewed view eq test same [] = refl
place_viewed {K} {V} {W} view eq test same (e ∷ es) =
    ap (λ (b : Bool). cond (not b) (1 + position_or_len eq (keys_of es)) 0) (same e.0)
    ∙ ap (λ (n : ℕ). cond (not (test (view e.0))) (1 + n) 0) (place_viewed view eq test same es)

pub position_viewed : {K V W : Type 0} (view : K → W) (eq : K → Bool) (test : W → Bool) → ((k : K) → eq k ≡ test (view k)) → (es : List (K × V)) → position eq (keys_of es) ≡ position test (viewed view es)
position_viewed {K} {V} {W} view eq test same es =
    let len : length (keys_of es) ≡ length (viewed view es) = length-map es (λ e. e.0) ∙ sym (length-map es (λ e. view e.0)) in
    ap (λ (n : ℕ). cond (nat_lt n (length (keys_of es))) (Some n) None) (place_viewed view eq test same es)
    ∙ ap (λ (n : ℕ). cond (nat_lt (position_or_len test (viewed view es)) n) (Some (position_or_len test (viewed view es))) None) len

-- ---- one more pair

some_by : {V : Type 0} (b any : Bool) (v : V) (o : Option V) → is_some o ≡ any → is_some (cond b (Some v) o) ≡ (b || any)
some_by true any v o rest = refl
some_by false any v o rest = rest

-- A key has a value where a key that is there tests alike.
pub some_viewed : {K V W : Type 0} (view : K → W) (eq : K → Bool) (test : W → Bool) → ((k : K) → eq k ≡ test (view k)) → (es : List (K × V)) → is_some (lookup eq es) ≡ list_any test (viewed view es)
some_viewed view eq test same [] = refl
some_viewed {K} {V} {W} view eq test same (e ∷ es) =
    some_by (eq e.0) (list_any test (viewed view es)) e.1 (lookup eq es) (some_viewed view eq test same es)
    ∙ ap (λ (b : Bool). b || list_any test (viewed view es)) (same e.0)

inserted : {K V W : Type 0} (view : K → W) (e : K × V) (es more : List (K × V)) (k : K) (v : V) (b any : Bool) →
    viewed view more ≡ cond any (viewed view es) (viewed view es ++ view k ∷ []) →
    viewed view (cond b ((e.0, v) ∷ es) (e ∷ more)) ≡ cond (b || any) (viewed view (e ∷ es)) (viewed view (e ∷ es) ++ view k ∷ [])
inserted view e es more k v true any rest = refl
inserted {K} {V} {W} view e es more k v false true rest = ap (λ (t : List W). view e.0 ∷ t) rest
inserted {K} {V} {W} view e es more k v false false rest = ap (λ (t : List W). view e.0 ∷ t) rest

-- One more key goes last, unless one that tests alike is there.
pub insert_viewed : {K V W : Type 0} (view : K → W) (eq : K → K → Bool) (test : W → Bool) (k : K) (v : V) → ((x : K) → eq k x ≡ test (view x)) → (es : List (K × V)) →
    viewed view (insert_entry eq es k v) ≡ cond (list_any test (viewed view es)) (viewed view es) (viewed view es ++ view k ∷ [])
insert_viewed view eq test k v same [] = refl
insert_viewed {K} {V} {W} view eq test k v same (e ∷ es) =
    inserted view e es (insert_entry eq es k v) k v (eq k e.0) (list_any test (viewed view es)) (insert_viewed view eq test k v same es)
    ∙ ap (λ (b : Bool). cond (b || list_any test (viewed view es)) (viewed view (e ∷ es)) (viewed view (e ∷ es) ++ view k ∷ [])) (same e.0)
