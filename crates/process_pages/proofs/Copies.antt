-- Bytes that are copied out of pages and put into them.
use Rattle.std.proofs.Common.{◌≡◌, ℕ, zero, suc, ◌+◌, ◌-◌, ◌/◌, ◌%◌, ◌<◌, ◌≤◌, ◌==◌, Bool, false, cond, List, [], ◌∷◌, drop, map, length, Some, None, get_or, inl, inr, refl, sym, ap, ◌∙◌, arith, slice_index, ◌*◌, ◌&&◌, true, get_or-set_same, get_or-set_other, set, ◌≢◌}
use Rattle.process_pages.proofs.Words.{All, All-weaker, byte_by, bytes_at, bytes_under, cases_eq, cases_lt, eq-eqb, find, get_or-drop, get_or-take}
use Rattle.process_pages.proofs.Words.{get_or_default, is_mapped_at, IsPlaced, last_put, length-drop, length-take, Mapped, mid_of, nat_tests, over_page, page}
use Rattle.process_pages.proofs.Words.{PageId, PageOf, PagePlaces, pages_over, Parts, place_in, range_with_len, ReachedResidence, replaced, residence_in}
use Rattle.process_pages.proofs.Words.{writes_to, Written, written_over}
use Rattle.process_pages.proofs.Positions.{position_kept}

-- ---- bytes that are copied out of pages, run by run

-- a list with these numbers in turn
pub numbers_from : (f : ℕ → ℕ) (a : ℕ) (xs : List ℕ) → ((k : ℕ) → k < length xs → get_or xs k 0 ≡ f (a + k)) → xs ≡ map f (range_with_len a (length xs))
numbers_from f a [] h = refl
numbers_from f a (x ∷ xs) h =
    let first : x ≡ f a = h 0 (omega arith) ∙ ap f (omega arith) in
    let rest = numbers_from f (a + 1) xs (λ k u. h (suc k) (omega arith) ∙ ap f (omega arith)) in
    ap (λ (y : ℕ). y ∷ xs) first ∙ ap (λ (ys : List ℕ). f a ∷ ys) rest

-- ---- a run

in_page : (at within j : ℕ) → within ≡ at % 4096 → within + j < 4096 → ((at + j) / 4096 ≡ at / 4096) × ((at + j) % 4096 ≡ within + j)
in_page at within j e u = (omega arith, omega arith)

before_run : (place : ℕ) (run before : List ℕ) (k : ℕ) → k < place → replaced place run before k ≡ slice_index before k
before_run place run before k u = grind (arith, nat_tests)

in_run : (place : ℕ) (run before : List ℕ) (k : ℕ) → place ≤ k → k < place + length run → replaced place run before k ≡ slice_index run (k - place)
in_run place run before k u v = grind (arith, nat_tests)

-- what stands after a run was copied, as far as it goes
pub run_copied :
    (rows : PagePlaces) (mapped : List Mapped) (object offset done len within : ℕ) (bytes run before after : List ℕ) → within ≡ (offset + done) % 4096 → within + len ≤ 4096 →
    bytes ≡ bytes_at mapped (place_in rows (page object ((offset + done) / 4096))) → length run ≡ len → ((j : ℕ) → j < len → slice_index run j ≡ slice_index bytes (within + j)) →
    ((k : ℕ) → slice_index after k ≡ replaced done run before k) → ((i : ℕ) → i < done → slice_index before i ≡ byte_by rows mapped object (offset + i)) →
    (i : ℕ) → i < done + len → slice_index after i ≡ byte_by rows mapped object (offset + i)
run_copied rows mapped object offset done len within bytes run before after w fits is long cut put old i u = elim (cases_lt i done) as (λ _. slice_index after i ≡ byte_by rows mapped object (offset + i)) [
  | inl earlier ↦ put i ∙ before_run done run before i earlier ∙ old i earlier
  | inr here ↦
      let j : ℕ = i - done in
      let at : offset + done + (i - done) ≡ offset + i = omega arith in
      let same = in_page (offset + done) within (i - done) w (omega arith) in
      put i ∙ in_run done run before i here (omega (arith, long)) ∙ cut (i - done) (omega arith) ∙ ap (λ (bs : List ℕ). slice_index bs (within + (i - done))) is
      ∙ ap (λ (q : ℕ). slice_index (bytes_at mapped (place_in rows (page object q))) (within + (i - done))) (sym same.0)
      ∙ ap (λ (r : ℕ). slice_index (bytes_at mapped (place_in rows (page object ((offset + done + (i - done)) / 4096)))) r) (sym same.1)
      ∙ ap (λ (x : ℕ). byte_by rows mapped object x) at
]

-- ---- a run in one page

pub some_bytes : (l : ℕ) → (suc l == 0) ≡ false
some_bytes l = grind (arith, nat_tests)

-- what lies in one page covers that page alone
pub found_in_page : (p : ℕ → Bool) (offset len : ℕ) → offset % 4096 + len ≤ 4096 → p (offset / 4096) ≡ false → find p (pages_over offset len) ≡ None
found_in_page p offset zero u e = refl
found_in_page p offset (suc l) u e =
    let one : (offset + suc l - 1) / 4096 + 1 - offset / 4096 ≡ 1 = omega arith in
    ap (λ b. find p (cond b [] (range_with_len (offset / 4096) ((offset + suc l - 1) / 4096 + 1 - offset / 4096)))) (some_bytes l)
    ∙ ap (λ n. find p (range_with_len (offset / 4096) n)) one ∙ ap (λ b. cond b (Some (offset / 4096)) None) e

pub run_in_page :
    (rows : PagePlaces) (mapped : List Mapped) (object offset within len : ℕ) (bytes run : List ℕ) → within ≡ offset % 4096 → within + len ≤ 4096 → bytes ≡ bytes_at mapped (place_in rows (page object (offset / 4096))) →
    length run ≡ len → ((j : ℕ) → j < len → slice_index run j ≡ slice_index bytes (within + j)) → run ≡ map (byte_by rows mapped object) (range_with_len offset len)
run_in_page rows mapped object offset within len bytes run w fits is long cut =
    numbers_from (byte_by rows mapped object) offset run by_place ∙ ap (λ (n : ℕ). map (byte_by rows mapped object) (range_with_len offset n)) long
  where
    by_place : (k : ℕ) → k < length run → slice_index run k ≡ byte_by rows mapped object (offset + k)
    by_place k u =
        let same = in_page offset within k w (omega (arith, long)) in
        cut k (omega (arith, long)) ∙ ap (λ (bs : List ℕ). slice_index bs (within + k)) is
        ∙ ap (λ (q : ℕ). slice_index (bytes_at mapped (place_in rows (page object q))) (within + k)) (sym same.0)
        ∙ ap (λ (r : ℕ). slice_index (bytes_at mapped (place_in rows (page object ((offset + k) / 4096)))) r) (sym same.1)

-- a part of the bytes of a page
pub cut_length : (within len : ℕ) (bytes : List ℕ) → length bytes ≡ 4096 → within + len ≤ 4096 → length (mid_of within (within + len - within) bytes) ≡ len
cut_length within len bytes long fits = omega (arith, long, fits, length-take (within + len - within) (drop within bytes), length-drop within bytes)

pub cut_of : (within len : ℕ) (bytes : List ℕ) (j : ℕ) → j < len → slice_index (mid_of within (within + len - within) bytes) j ≡ slice_index bytes (within + j)
cut_of within len bytes j u = get_or-take (within + len - within) (drop within bytes) j 0 (omega arith) ∙ get_or-drop within bytes j 0

-- ---- writes that are put into pages

-- ---- one page

shifted : {X : Type 0} (f : ℕ → X) (a s n : ℕ) → map f (range_with_len (a + s) n) ≡ map (λ i. f (a + i)) (range_with_len s n)
shifted f a s zero = refl
shifted f a s (suc n) =
    let next : a + s + 1 ≡ a + (s + 1) = omega arith in
    ap (λ (t : ℕ). f (a + s) ∷ map f (range_with_len t n)) next ∙ ap (λ xs. f (a + s) ∷ xs) (shifted f a (s + 1) n)

pub under_is_over : (w : Written) (q : PageId) (before : List ℕ) → w.object ≡ q.object → length before ≡ 4096 → bytes_under (w ∷ []) q.object (q.page * 4096) before ≡ over_page w q before
under_is_over w q before same long =
    let only : writes_to q.object (w ∷ []) ≡ w ∷ [] = ap (λ b. cond b (w ∷ []) []) (eq-eqb w.object q.object same) in
    let start : q.page * 4096 ≡ q.page * 4096 + 0 = omega arith in
    ap (λ (ws : List Written). map (λ x. last_put ws x (slice_index before (x - q.page * 4096))) (range_with_len (q.page * 4096) (length before))) only
    ∙ ap (λ (n : ℕ). map (λ x. last_put (w ∷ []) x (slice_index before (x - q.page * 4096))) (range_with_len (q.page * 4096) n)) long
    ∙ ap (λ (a : ℕ). map (λ x. last_put (w ∷ []) x (slice_index before (x - q.page * 4096))) (range_with_len a 4096)) start
    ∙ shifted (λ x. last_put (w ∷ []) x (slice_index before (x - q.page * 4096))) (q.page * 4096) 0 4096
    ∙ after 0 4096
  where
    after : (s n : ℕ) → map (λ i. last_put (w ∷ []) (q.page * 4096 + i) (slice_index before (q.page * 4096 + i - q.page * 4096))) (range_with_len s n) ≡ map (λ i. last_put (w ∷ []) (q.page * 4096 + i) (slice_index before i)) (range_with_len s n)
    after s zero = refl
    after s (suc n) =
        let back : q.page * 4096 + s - q.page * 4096 ≡ s = omega arith in
        ap (λ (i : ℕ). last_put (w ∷ []) (q.page * 4096 + s) (slice_index before i) ∷ map (λ i. last_put (w ∷ []) (q.page * 4096 + i) (slice_index before (q.page * 4096 + i - q.page * 4096))) (range_with_len (s + 1) n)) back
        ∙ ap (λ (xs : List ℕ). last_put (w ∷ []) (q.page * 4096 + s) (slice_index before s) ∷ xs) (after (s + 1) n)

-- ---- all pages

-- the first k of a list's items are mapped, and the others are as they were
abbrev pub AreMapped : {X : Type 0} → (X → X) → ℕ → List X → List X → Type 0
AreMapped {X} f k xs ys =
    ((i : ℕ) (d : X) → i < k → i < length ys → get_or xs i d ≡ f (get_or ys i d)) × ((i : ℕ) (d : X) → k ≤ i → get_or xs i d ≡ get_or ys i d)

pub mapped_more : {X : Type 0} (f : X → X) (xs ys : List X) (k : ℕ) (e y : X) → length xs ≡ length ys → k < length ys → y ≡ f (get_or xs k e) → AreMapped f k xs ys → AreMapped f (k + 1) (set xs k y) ys
mapped_more f xs ys k e y long within is all =
    let there : k < length xs = omega (arith, long, within) in (
      λ i d u v. elim (cases_eq i k) as (λ _. get_or (set xs k y) i d ≡ f (get_or ys i d)) [
        | inl same ↦
            ap (λ (j : ℕ). get_or (set xs k y) j d) same ∙ get_or-set_same xs k y d there ∙ is ∙ ap f (get_or_default xs k e d there ∙ all.1 k d (omega arith))
            ∙ ap (λ (j : ℕ). f (get_or ys j d)) (sym same)
        | inr other ↦ get_or-set_other xs k i y d other ∙ all.0 i d (omega (arith, other, u)) v
      ],
      λ i d u. let other : i ≢ k = omega (arith, u) in get_or-set_other xs k i y d other ∙ all.1 i d (omega (arith, u)),
    )

pub mapped_by_index : {X : Type 0} (f : X → X) (xs ys : List X) → length xs ≡ length ys → ((i : ℕ) (d : X) → i < length ys → get_or xs i d ≡ f (get_or ys i d)) → xs ≡ map f ys
mapped_by_index f [] [] e h = refl
mapped_by_index f [] (y ∷ ys) e h = absurd (omega (arith, e))
mapped_by_index f (x ∷ xs) [] e h = absurd (omega (arith, e))
mapped_by_index f (x ∷ xs) (y ∷ ys) e h = ap (λ z. z ∷ xs) (h 0 x (omega arith)) ∙ ap (λ zs. f y ∷ zs) (mapped_by_index f xs ys (omega (arith, e)) (λ i d u. h (suc i) d (omega arith)))

pub of_stays : (serial : ℕ) (w : Written) (p : Mapped) → (written_over serial w p).of ≡ p.of
of_stays serial w p = by_test ((p.of.serial == serial) && (p.of.page.object == w.object))
  where
    by_test : (b : Bool) → (cond b (record p { bytes = over_page w p.of.page p.bytes }) p).of ≡ p.of
    by_test true = refl
    by_test false = refl

pub pages_stay : (serial : ℕ) (w : Written) (ps : List Mapped) → map (λ (p : Mapped). p.of) (map (written_over serial w) ps) ≡ map (λ (p : Mapped). p.of) ps
pages_stay serial w [] = refl
pages_stay serial w (p ∷ ps) = ap (λ (t : PageOf). t ∷ map (λ (p : Mapped). p.of) (map (written_over serial w) ps)) (of_stays serial w p) ∙ ap (λ (ts : List PageOf). p.of ∷ ts) (pages_stay serial w ps)

pub placed_written : (lib : List Parts) (mapped : List Mapped) (serial : ℕ) (w : Written) (residences : List ReachedResidence) → All (IsPlaced lib mapped) residences → All (IsPlaced lib (map (written_over serial w) mapped)) residences
placed_written lib mapped serial w residences all =
    All-weaker (IsPlaced lib mapped) (IsPlaced lib (map (written_over serial w) mapped))
    (λ s is. record {
      within = is.within;
      cover = is.cover;
      places = λ o n there inside.
          is.places o n there inside
          ∙ sym (position_kept (is_mapped_at (residence_in s).serial (page o n)) (written_over serial w) (λ p. ap (λ (t : PageOf). is_mapped_at (residence_in s).serial (page o n) (record p { of = t })) (of_stays serial w p)) mapped);
    }) residences all
