-- Sources that share no byte, by the numbers of their bytes.
use Rattle.std.proofs.Common.{◌≡◌, ℕ, suc, ◌+◌, ◌-◌, ◌<◌, ◌≤◌, Bool, true, false, ◌||◌, List, ◌∷◌, [], ◌++◌, length, take, drop, replicate, get_or, length-drop, ℤ, pos, negsuc, ◌+ℤ◌, ◌≤ℤ◌, refl, sym, subst, ap, ◌∙◌, inl, inr, ◌⊎◌, arith}
use Rattle.std.specs.Prelude.{All, AllPairs, IsTrue, slice_index_or}
use Rattle.std.specs.List.{list_any}
use Rattle.std.proofs.lemmas.Int.{ints}
use Rattle.std.proofs.lemmas.Bool.{cases_lt, both_ways}
use Rattle.std.proofs.lemmas.Bool.Decides.{nat_tests}
use Rattle.std.proofs.lemmas.List.{take_more, get_or-replicate, length-replicate, get_or-take, get_or-drop, get_or_default, length-take-le}
use Rattle.std.proofs.lemmas.List.Elements.{All-take, All-get_or}
use Rattle.std.proofs.lemmas.List.Folds.{list_any_at, list_any_more, list_any_none, Any-from_list_any}
use Rattle.std.proofs.lemmas.List.Quantifiers.{all_pairs_push}
use Rattle.std.proofs.Math.Bool.{or_comm}
use Rattle.lx_types.specs.declared.fix.Fix.{Fix}
use Rattle.lx_types.specs.declared.fix.Source.{Source}
use Rattle.lx_types.specs.declared.fix.Source.TheVariants.{Byte, Sel, Far16, Off16, Far32, Off32, Self32}
use Rattle.lx_model.specs.Sources.{source_size}
use Rattle.lx_model.specs.RecordSpelling.{OffsetFits}
use Rattle.lx_fixrec.specs.Writable.{AreApart}
use Rattle.writable_images.specs.Bytes.{first_byte, is_in}

abbrev pub Fits : Fix → Type 0
Fits f = OffsetFits f.source f.offset

abbrev pub has_byte : ℕ → Fix → Bool
has_byte k f = is_in (first_byte f.offset) (source_size f.source) k

-- ---- one source

size_is : (s : Source) → (0 < source_size s) × (source_size s ≤ 6)
size_is Byte = (omega arith, omega arith)
size_is Sel = (omega arith, omega arith)
size_is Far16 = (omega arith, omega arith)
size_is Off16 = (omega arith, omega arith)
size_is Far32 = (omega arith, omega arith)
size_is Off32 = (omega arith, omega arith)
size_is Self32 = (omega arith, omega arith)

pub first_is : (s : Source) (z : ℤ) → OffsetFits s z → pos (first_byte z) ≡ z +ℤ pos 5
first_is s (pos n) fits = refl
first_is s (negsuc n) fits = let size = size_is s in omega (arith, ints, size.1, fits)

pub in_room : (s : Source) (z : ℤ) → OffsetFits s z → first_byte z + source_size s ≤ 4106
in_room s (pos n) fits = let size = size_is s in omega (arith, size.1, fits)
in_room s (negsuc n) fits = let size = size_is s in omega (arith, size.1, fits)

is_in_gives : (a n k : ℕ) → is_in a n k ≡ true → (a ≤ k) × (k < a + n)
is_in_gives a n k h = (grind (arith, nat_tests), grind (arith, nat_tests))

is_in_at : (a n k : ℕ) → a ≤ k → k < a + n → is_in a n k ≡ true
is_in_at a n k low high = grind (arith, nat_tests)

-- ---- two sources

before : (a b n : ℕ) (z w : ℤ) → pos a ≡ z +ℤ pos 5 → pos b ≡ w +ℤ pos 5 → a + n ≤ b → (z +ℤ pos n) ≤ℤ w
before a b n z w p q h = omega (arith, ints)

before_so : (a b n : ℕ) (z w : ℤ) → pos a ≡ z +ℤ pos 5 → pos b ≡ w +ℤ pos 5 → (z +ℤ pos n) ≤ℤ w → a + n ≤ b
before_so a b n z w p q h = omega (arith, ints)

over : (a m b n : ℕ) → 0 < m → 0 < n → ((k : ℕ) → b ≤ k → k < b + n → is_in a m k ≡ false) → (a + m ≤ b) ⊎ (b + n ≤ a)
over a m b n some more none = by_order (cases_lt b a)
  where
    by_end : b < a → (a < b + n) ⊎ (b + n ≤ a) → (a + m ≤ b) ⊎ (b + n ≤ a)
    by_end less (inl within) = absurd (both_ways (is_in a m a) (none a (omega arith) within) (is_in_at a m a (omega arith) (omega arith)))
    by_end less (inr beyond) = inr beyond

    by_begin : a ≤ b → (b < a + m) ⊎ (a + m ≤ b) → (a + m ≤ b) ⊎ (b + n ≤ a)
    by_begin up (inl within) = absurd (both_ways (is_in a m b) (none b (omega arith) (omega arith)) (is_in_at a m b up within))
    by_begin up (inr beyond) = inl beyond

    by_order : (b < a) ⊎ (a ≤ b) → (a + m ≤ b) ⊎ (b + n ≤ a)
    by_order (inl less) = by_end less (cases_lt a (b + n))
    by_order (inr up) = by_begin up (cases_lt b (a + m))

-- where no byte of g is one of f, the two are apart
apart_unless : (f g : Fix) → Fits f → Fits g → ((k : ℕ) → first_byte g.offset ≤ k → k < first_byte g.offset + source_size g.source → has_byte k f ≡ false) → AreApart f g
apart_unless f g here there none = by (over (first_byte f.offset) (source_size f.source) (first_byte g.offset) (source_size g.source) (size_is f.source).0 (size_is g.source).0 none)
  where
    p : pos (first_byte f.offset) ≡ f.offset +ℤ pos 5
    p = first_is f.source f.offset here

    q : pos (first_byte g.offset) ≡ g.offset +ℤ pos 5
    q = first_is g.source g.offset there

    by : (first_byte f.offset + source_size f.source ≤ first_byte g.offset) ⊎ (first_byte g.offset + source_size g.source ≤ first_byte f.offset) → AreApart f g
    by (inl h) = inl (before (first_byte f.offset) (first_byte g.offset) (source_size f.source) f.offset g.offset p q h)
    by (inr h) = inr (before (first_byte g.offset) (first_byte f.offset) (source_size g.source) g.offset f.offset q p h)

-- a byte of both
one_byte : (f g : Fix) → Fits f → Fits g → AreApart f g → (k : ℕ) → has_byte k f ≡ true → has_byte k g ≡ true → ⊥
one_byte f g here there apart k inf ing = by apart
  where
    p : pos (first_byte f.offset) ≡ f.offset +ℤ pos 5
    p = first_is f.source f.offset here

    q : pos (first_byte g.offset) ≡ g.offset +ℤ pos 5
    q = first_is g.source g.offset there

    first : (first_byte f.offset ≤ k) × (k < first_byte f.offset + source_size f.source)
    first = is_in_gives (first_byte f.offset) (source_size f.source) k inf

    second : (first_byte g.offset ≤ k) × (k < first_byte g.offset + source_size g.source)
    second = is_in_gives (first_byte g.offset) (source_size g.source) k ing

    by : AreApart f g → ⊥
    by (inl h) = let e = before_so (first_byte f.offset) (first_byte g.offset) (source_size f.source) f.offset g.offset p q h in omega (arith, e, first.1, second.0)
    by (inr h) = let e = before_so (first_byte g.offset) (first_byte f.offset) (source_size g.source) g.offset f.offset q p h in omega (arith, e, second.1, first.0)

-- ---- the bytes that sources have taken

abbrev pub Marks : List Bool → List Fix → Type 0
Marks taken fs = (k : ℕ) → k < length taken → slice_index_or taken k false ≡ list_any (has_byte k) fs

pub marks_none : (n : ℕ) → Marks (replicate n false) []
marks_none n k there = get_or-replicate n k false false (omega (arith, there, length-replicate n false))

pub pairs_none : AllPairs AreApart []
pairs_none i j d before there = absurd (omega (arith, before, there))

pub marks_more : (old new : List Bool) (fs : List Fix) (i : ℕ) (d f : Fix) (a n : ℕ) → i < length fs → f ≡ slice_index_or fs i d → a ≡ first_byte f.offset → n ≡ source_size f.source
    → length new ≡ length old → ((k : ℕ) → k < length old → slice_index_or new k false ≡ (is_in a n k || slice_index_or old k false)) → Marks old (take i fs) → Marks new (take (i + 1) fs)
marks_more old new fs i d f a n there is begin size len after marks k within =
    let inside : k < length old = omega (arith, within, len) in
    after k inside
    ∙ ap (λ (m : ℕ). is_in m n k || slice_index_or old k false) begin
    ∙ ap (λ (m : ℕ). is_in (first_byte f.offset) m k || slice_index_or old k false) size
    ∙ ap (λ b. has_byte k f || b) (marks k inside)
    ∙ or_comm (has_byte k f) (list_any (has_byte k) (take i fs))
    ∙ ap (λ g. list_any (has_byte k) (take i fs) || has_byte k g) is
    ∙ sym (list_any_more (has_byte k) fs i d there)

none_at : {X : Type 0} (p : X → Bool) (fs : List X) (j : ℕ) (d : X) → j < length fs → list_any p fs ≡ false → p (slice_index_or fs j d) ≡ false
none_at p fs j d there none = by (p (slice_index_or fs j d)) refl
  where
    by : (b : Bool) → p (slice_index_or fs j d) ≡ b → p (slice_index_or fs j d) ≡ false
    by false e = e
    by true e = absurd (both_ways (list_any p fs) none (list_any_at p fs j d there e))

-- a source of which no byte is taken stands apart from those that took bytes
pub apart_more : (taken : List Bool) (fs : List Fix) (i : ℕ) (d f : Fix) (a n : ℕ) → i < length fs → f ≡ slice_index_or fs i d → a ≡ first_byte f.offset → n ≡ source_size f.source → All Fits fs
    → length taken ≡ 4106 → Marks taken (take i fs) → ((k : ℕ) → a ≤ k → k < a + n → slice_index_or taken k false ≡ false) → AllPairs AreApart (take i fs) → AllPairs AreApart (take (i + 1) fs)
apart_more taken fs i d f a n there is begin size each len marks free pairs =
    let here : Fits f = subst Fits (sym is) (All-get_or Fits fs i d there each) in
    let front : take (i + 1) fs ≡ take i fs ++ f ∷ [] = take_more fs i d there ∙ ap (λ y. take i fs ++ y ∷ []) (sym is) in
    let room = in_room f.source f.offset here in
    subst (AllPairs AreApart) (sym front) (all_pairs_push AreApart (take i fs) f pairs (λ j e before.
    apart_unless (get_or (take i fs) j e) f (All-get_or Fits (take i fs) j e before (All-take Fits i fs each)) here (λ k low high.
    none_at (has_byte k) (take i fs) j e before (sym (marks k (omega (arith, len, room, high))) ∙ free k (omega (arith, begin, low)) (omega (arith, begin, size, high))))))

-- a source with a taken byte does not
pub not_apart : (taken : List Bool) (fs : List Fix) (i : ℕ) (d f : Fix) (a n : ℕ) (free : Bool) → i < length fs → f ≡ slice_index_or fs i d → a ≡ first_byte f.offset → n ≡ source_size f.source → All Fits fs
    → length taken ≡ 4106 → Marks taken (take i fs) → free ≡ false → (((k : ℕ) → a ≤ k → k < a + n → slice_index_or taken k false ≡ false) → free ≡ true)
    → AllPairs AreApart fs → false ≡ true
not_apart taken fs i d f a n free there is begin size each len marks shared told pairs =
    sym shared ∙ told (λ k low high. by k (omega (arith, begin, low)) (omega (arith, begin, size, high)) (slice_index_or taken k false) refl)
  where
    here : Fits f
    here = subst Fits (sym is) (All-get_or Fits fs i d there each)

    room : first_byte f.offset + source_size f.source ≤ 4106
    room = in_room f.source f.offset here

    clash : (k : ℕ) → first_byte f.offset ≤ k → k < first_byte f.offset + source_size f.source → list_any (has_byte k) (take i fs) ≡ true → ⊥
    clash k low high some =
        let found = Any-from_list_any (has_byte k) (take i fs) some in
        let j = found.0 in
        let front : length (take i fs) ≡ i = length-take-le i fs (omega (arith, there)) in
        let early : j < i = omega (arith, front, found.2) in
        let same : slice_index_or fs j found.1 ≡ found.1 = sym (get_or-take i fs j found.1 early) ∙ found.3 in
        one_byte (slice_index_or fs j d) (slice_index_or fs i d)
        (All-get_or Fits fs j d (omega (arith, early, there)) each)
        (All-get_or Fits fs i d there each)
        (pairs j i d early there) k
        (subst (λ g. has_byte k g ≡ true) (sym (get_or_default fs j d found.1 (omega (arith, early, there)) ∙ same)) found.4)
        (subst (λ g. has_byte k g ≡ true) is (is_in_at (first_byte f.offset) (source_size f.source) k low high))

    by : (k : ℕ) → first_byte f.offset ≤ k → k < first_byte f.offset + source_size f.source → (b : Bool) → slice_index_or taken k false ≡ b → slice_index_or taken k false ≡ false
    by k low high false e = e
    by k low high true e = absurd (clash k low high (sym (marks k (omega (arith, len, room, high))) ∙ e))

-- ---- a part of the bytes

part_at : (xs : List Bool) (a n k : ℕ) → a ≤ k → k < a + n → slice_index_or (take (a + n - a) (drop a xs)) (k - a) false ≡ slice_index_or xs k false
part_at xs a n k low high =
    get_or-take (a + n - a) (drop a xs) (k - a) false (omega (arith, low, high))
    ∙ get_or-drop a xs (k - a) false
    ∙ ap (λ (j : ℕ). slice_index_or xs j false) (let e : a + (k - a) ≡ k = omega (arith, low) in e)

only_false : (p : Bool → Bool) → p true ≡ true → (b : Bool) → p b ≡ false → b ≡ false
only_false p holds true h = absurd (both_ways (p true) h holds)
only_false p holds false h = refl

-- no byte of a part is taken where a search for a taken one finds none
pub free_part : (p : Bool → Bool) → p true ≡ true → p false ≡ false → (xs : List Bool) (a n : ℕ) (r : Bool) → r ≡ list_any p (take (a + n - a) (drop a xs)) → a + n ≤ length xs
    → r ≡ false → (k : ℕ) → a ≤ k → k < a + n → slice_index_or xs k false ≡ false
free_part p holds fails xs a n r is within none k low high =
    let size : length (take (a + n - a) (drop a xs)) ≡ n = length-take-le (a + n - a) (drop a xs) (let e = length-drop a xs in omega (arith, e, within)) ∙ (let e : a + n - a ≡ n = omega arith in e) in
    sym (part_at xs a n k low high)
    ∙ only_false p holds (slice_index_or (take (a + n - a) (drop a xs)) (k - a) false)
    (none_at p (take (a + n - a) (drop a xs)) (k - a) false (omega (arith, size, low, high)) (sym is ∙ none))

pub part_free : (p : Bool → Bool) → p true ≡ true → p false ≡ false → (xs : List Bool) (a n : ℕ) (r : Bool) → r ≡ list_any p (take (a + n - a) (drop a xs)) → a + n ≤ length xs
    → ((k : ℕ) → a ≤ k → k < a + n → slice_index_or xs k false ≡ false) → r ≡ false
part_free p holds fails xs a n r is within none =
    let size : length (take (a + n - a) (drop a xs)) ≡ n = length-take-le (a + n - a) (drop a xs) (let e = length-drop a xs in omega (arith, e, within)) ∙ (let e : a + n - a ≡ n = omega arith in e) in
    is ∙ list_any_none p (take (a + n - a) (drop a xs)) (λ j d there.
    ap p (get_or_default (take (a + n - a) (drop a xs)) j d false there
    ∙ ap (λ (i : ℕ). slice_index_or (take (a + n - a) (drop a xs)) i false) (let e : j ≡ a + j - a = omega arith in e)
    ∙ part_at xs a n (a + j) (omega arith) (omega (arith, there, size))
    ∙ none (a + j) (omega arith) (omega (arith, there, size)))
    ∙ fails)

-- ---- what a test tells

pub no_by : {P : Type 0} (b : Bool) → b ≡ false → (P → b ≡ true) → (false ≡ true → P) × (P → false ≡ true)
no_by b is tells = (λ e. absurd (both_ways false refl e), λ p. sym is ∙ tells p)
