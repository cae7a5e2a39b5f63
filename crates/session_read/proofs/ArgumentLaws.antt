-- A statement whose arguments are as many as it has, of which none is too long.
use Rattle.std.proofs.Common.{◌≡◌, ℕ, Bool, true, false, cond, List, [], ◌∷◌, Option, Some, None, option_map, refl, sym, ap, subst, ◌∙◌}
use Rattle.std.specs.Prelude.{◌&&◌, not}
use Rattle.std.specs.List.{list_any}
use Rattle.std.proofs.lemmas.Bool.{or_from}
use Rattle.session_model.specs.Statements.{is_long, word_count, by_count, three_words, five_words, Reading}
use Rattle.session_read.specs.declared.keyword.TwoWords.{TwoWords}
use Rattle.session_read.specs.declared.keyword.TwoWords.TheVariants as two
use Rattle.session_read.specs.declared.keyword.PlaceWord.{PlaceWord}
use Rattle.session_read.specs.declared.keyword.PlaceWord.TheVariants as place
use Rattle.session_read.specs.declared.keyword.BytesWord.{BytesWord}
use Rattle.session_read.specs.declared.keyword.BytesWord.TheVariants as bytes
use Rattle.session_read.specs.Arguments.{Two, Three, Four, one_of, two_of, three_of, four_of}
use Rattle.session_read.specs.Keywords.{two_spelled, place_spelled, bytes_spelled}

-- what a value shows that is there where a test fails
record Taken {A B : Type 0} (t : Bool) (o : Option A) (f : A → B) (y : B) : Type 0 where
  test : t ≡ false
  it : A
  is : o ≡ Some it
  gives : f it ≡ y

taken : {A B : Type 0} (t : Bool) (o : Option A) (f : A → B) (y : B) → cond t None (option_map f o) ≡ Some y → Taken t o f y
taken true o f y h = absurd (let no : ⊥ = cc in no)
taken false None f y h = absurd (let no : ⊥ = cc in no)
taken false (Some x) f y h = record { test = refl; it = x; is = refl; gives = (let same : f x ≡ y = cc in same) }

taken-one : (t : Bool) (x y : List ℕ) → cond t None (Some x) ≡ Some y → (t ≡ false) × (x ≡ y)
taken-one true x y h = absurd (let no : ⊥ = cc in no)
taken-one false x y h = (let same : x ≡ y = cc in (refl, same))

one-parts : (long : Bool) (ws : List (List ℕ)) (a : List ℕ) → one_of long ws ≡ Some a → (ws ≡ a ∷ []) × (is_long a && not long ≡ false)
one-parts long [] a h = absurd (let no : ⊥ = cc in no)
one-parts long (x ∷ []) a h =
    let it = taken-one (is_long x && not long) x a h in
    (ap (λ w. w ∷ []) it.1, sym (ap (λ w. is_long w && not long) it.1) ∙ it.0)
one-parts long (x ∷ y ∷ ws) a h = absurd (let no : ⊥ = cc in no)

record TwoParts (long : Bool) (ws : List (List ℕ)) (a : Two) : Type 0 where
  is : ws ≡ a.first ∷ a.second ∷ []
  first : is_long a.first ≡ false
  second : is_long a.second && not long ≡ false

two-parts : (long : Bool) (ws : List (List ℕ)) (a : Two) → two_of long ws ≡ Some a → TwoParts long ws a
two-parts long [] a h = absurd (let no : ⊥ = cc in no)
two-parts long (x ∷ ws) a h =
    let t = taken (is_long x) (one_of long ws) (λ b. record { first = x; second = b }) a h in
    let one = one-parts long ws t.it t.is in
    subst (λ a. TwoParts long (x ∷ ws) a) t.gives (record { is = ap (λ ws. x ∷ ws) one.0; first = t.test; second = one.1 })

record ThreeParts (long : Bool) (ws : List (List ℕ)) (a : Three) : Type 0 where
  is : ws ≡ a.first ∷ a.second ∷ a.third ∷ []
  first : is_long a.first ≡ false
  second : is_long a.second ≡ false
  third : is_long a.third && not long ≡ false

three-parts : (long : Bool) (ws : List (List ℕ)) (a : Three) → three_of long ws ≡ Some a → ThreeParts long ws a
three-parts long [] a h = absurd (let no : ⊥ = cc in no)
three-parts long (x ∷ ws) a h =
    let t = taken (is_long x) (two_of long ws) (λ two. record { first = x; second = two.first; third = two.second }) a h in
    let p = two-parts long ws t.it t.is in
    subst (λ a. ThreeParts long (x ∷ ws) a) t.gives (record { is = ap (λ ws. x ∷ ws) p.is; first = t.test; second = p.first; third = p.second })

record FourParts (long : Bool) (ws : List (List ℕ)) (a : Four) : Type 0 where
  is : ws ≡ a.name ∷ a.object ∷ a.offset ∷ a.last ∷ []
  name : is_long a.name ≡ false
  object : is_long a.object ≡ false
  offset : is_long a.offset ≡ false
  last : is_long a.last && not long ≡ false

four-parts : (long : Bool) (ws : List (List ℕ)) (a : Four) → four_of long ws ≡ Some a → FourParts long ws a
four-parts long [] a h = absurd (let no : ⊥ = cc in no)
four-parts long (x ∷ ws) a h =
    let t = taken (is_long x) (three_of long ws) (λ three. record { name = x; object = three.first; offset = three.second; last = three.third }) a h in
    let p = three-parts long ws t.it t.is in
    subst (λ a. FourParts long (x ∷ ws) a) t.gives (record { is = ap (λ ws. x ∷ ws) p.is; name = t.test; object = p.first; offset = p.second; last = p.third })

-- ---- such arguments are counted right

and-true : (a : Bool) → a && true ≡ false → a ≡ false
and-true true h = h
and-true false h = refl

pub three-short : (a b : List ℕ) → is_long a ≡ false → is_long b ≡ false → list_any is_long (a ∷ b ∷ []) ≡ false
three-short a b h k = or_from (is_long a) _ h (or_from (is_long b) _ k refl)

pub counted : (t : Bool) (x y : Reading) → t ≡ false → cond t x y ≡ y
counted true x y h = absurd (let no : ⊥ = cc in no)
counted false x y h = refl

pub two-counted : (w : TwoWords) (a b : List ℕ) → is_long a ≡ false → is_long b && true ≡ false
    → by_count (word_count (two_spelled w)) (two_spelled w ∷ a ∷ b ∷ []) ≡ three_words (two_spelled w) a b
two-counted two.Failing a b h k = counted (list_any is_long (a ∷ b ∷ [])) _ _ (three-short a b h (and-true (is_long b) k))
two-counted two.Query a b h k = counted (list_any is_long (a ∷ b ∷ [])) _ _ (three-short a b h (and-true (is_long b) k))

pub two-read : (w : TwoWords) (ws : List (List ℕ)) (a : Two) → two_of false ws ≡ Some a
    → by_count (word_count (two_spelled w)) (two_spelled w ∷ ws) ≡ three_words (two_spelled w) a.first a.second
two-read w ws a h =
    let p = two-parts false ws a h in
    ap (λ ws. by_count (word_count (two_spelled w)) (two_spelled w ∷ ws)) p.is ∙ two-counted w a.first a.second p.first p.second

pub place-counted : (w : PlaceWord) (a b c d : List ℕ) → is_long a ≡ false → is_long b ≡ false → is_long c ≡ false → is_long d && true ≡ false
    → by_count (word_count (place_spelled w)) (place_spelled w ∷ a ∷ b ∷ c ∷ d ∷ []) ≡ five_words (place_spelled w) a b c d
place-counted place.Touch a b c d h k l m = counted _ _ _ (or_from (list_any is_long (a ∷ b ∷ c ∷ [])) (is_long d && true) (or_from (is_long a) _ h (three-short b c k l)) m)
place-counted place.Peek a b c d h k l m = counted _ _ _ (or_from (list_any is_long (a ∷ b ∷ c ∷ [])) (is_long d && true) (or_from (is_long a) _ h (three-short b c k l)) m)
place-counted place.Shared a b c d h k l m = counted _ _ _ (or_from (list_any is_long (a ∷ b ∷ c ∷ [])) (is_long d && true) (or_from (is_long a) _ h (three-short b c k l)) m)

pub place-read : (w : PlaceWord) (ws : List (List ℕ)) (a : Four) → four_of false ws ≡ Some a
    → by_count (word_count (place_spelled w)) (place_spelled w ∷ ws) ≡ five_words (place_spelled w) a.name a.object a.offset a.last
place-read w ws a h =
    let p = four-parts false ws a h in
    ap (λ ws. by_count (word_count (place_spelled w)) (place_spelled w ∷ ws)) p.is ∙ place-counted w a.name a.object a.offset a.last p.name p.object p.offset p.last

pub bytes-counted : (w : BytesWord) (a b c d : List ℕ) → is_long a ≡ false → is_long b ≡ false → is_long c ≡ false → is_long d && false ≡ false
    → by_count (word_count (bytes_spelled w)) (bytes_spelled w ∷ a ∷ b ∷ c ∷ d ∷ []) ≡ five_words (bytes_spelled w) a b c d
bytes-counted bytes.Write a b c d h k l m = counted _ _ _ (or_from (list_any is_long (a ∷ b ∷ c ∷ [])) (is_long d && false) (or_from (is_long a) _ h (three-short b c k l)) m)
bytes-counted bytes.Debug a b c d h k l m = counted _ _ _ (or_from (list_any is_long (a ∷ b ∷ c ∷ [])) (is_long d && false) (or_from (is_long a) _ h (three-short b c k l)) m)

pub bytes-read : (w : BytesWord) (ws : List (List ℕ)) (a : Four) → four_of true ws ≡ Some a
    → by_count (word_count (bytes_spelled w)) (bytes_spelled w ∷ ws) ≡ five_words (bytes_spelled w) a.name a.object a.offset a.last
bytes-read w ws a h =
    let p = four-parts true ws a h in
    ap (λ ws. by_count (word_count (bytes_spelled w)) (bytes_spelled w ∷ ws)) p.is ∙ bytes-counted w a.name a.object a.offset a.last p.name p.object p.offset p.last
