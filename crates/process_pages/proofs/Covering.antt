-- Writes that are put into the pages that they cover, one page after another.
use Rattle.std.proofs.Common.{◌≡◌, ◌≢◌, ℕ, ◌+◌, ◌-◌, ◌*◌, ◌/◌, ◌<◌, ◌≤◌, ◌==◌, ◌&&◌, ◌⊎◌, Bool, true, false, cond, List, [], ◌∷◌, map, length, Option, Some, None, get_or, set, inl, inr, refl, sym, ap, ◌∙◌, arith, slice_index, length-set, get_or-set_same, get_or-set_other}
use Rattle.process_pages.proofs.Words.{All, and-true, cases_eq, cases_lt, cases_order, first_or, get_or-map, get_or_default, is_mapped_at, is_page, IsFound}
use Rattle.process_pages.proofs.Words.{last_put, le-leb, length-map, lt-leb, map-map, map_fixed, Mapped, nat_lt, nat_tests, over_page, page, PageId, PageOf}
use Rattle.process_pages.proofs.Words.{PagePlaces, position, position-Some, put_at, range_with_len, slice_get, slice_get_past, StandOnce, Written, written_at}
use Rattle.process_pages.proofs.Words.{written_over}
use Rattle.process_pages.proofs.Copies.{mapped_by_index, numbers_from, of_stays}
use Rattle.process_pages.proofs.Placing.{is_not, none_passes}
use Rattle.process_pages.proofs.Positions.{is_less, is_not_less, position_kept}
use Rattle.std.specs.List.{cons_option}

-- ---- lists

-- two functions that agree on the items
maps_alike : {X : Type 0} (f g : X → X) (xs : List X) → All (λ x. f x ≡ g x) xs → map f xs ≡ map g xs
maps_alike f g xs all = mapped_by_index g (map f xs) xs (length-map xs f) (λ i d u. get_or-map f xs i d d u ∙ all i d u)

-- ---- a page that a write does not reach

nothing_put : (w : Written) (x : ℕ) → (x < w.offset) ⊎ (w.offset + length w.bytes ≤ x) → put_at x w ≡ None
nothing_put w x (inl before) = ap (λ b. cond b (slice_get w.bytes (x - w.offset)) None) (lt-leb w.offset x before)
nothing_put w x (inr past) =
    ap (λ b. cond b (slice_get w.bytes (x - w.offset)) None) (le-leb w.offset x (omega (arith, past))) ∙ slice_get_past w.bytes (x - w.offset) (omega (arith, past))

-- the write begins after the page of this number, or ends before it
abbrev Misses : Written → ℕ → Type 0
Misses w n = ((n + 1) * 4096 ≤ w.offset) ⊎ (w.offset + length w.bytes ≤ n * 4096)

byte_missed : (w : Written) (n i : ℕ) → Misses w n → i < 4096 → put_at (n * 4096 + i) w ≡ None
byte_missed w n i (inl before) u = nothing_put w (n * 4096 + i) (inl (omega (arith, before, u)))
byte_missed w n i (inr past) u = nothing_put w (n * 4096 + i) (inr (omega (arith, past)))

page_missed : (w : Written) (q : PageId) (bytes : List ℕ) → length bytes ≡ 4096 → Misses w q.page → over_page w q bytes ≡ bytes
page_missed w q bytes long misses =
    let f : ℕ → ℕ = λ i. last_put (w ∷ []) (q.page * 4096 + i) (slice_index bytes i) in
    ap (λ (n : ℕ). map f (range_with_len 0 n)) (sym long)
    ∙ sym (numbers_from f 0 bytes (λ k u. sym (ap (λ (o : Option ℕ). first_or (slice_index bytes k) (cons_option o [])) (byte_missed w q.page k misses (omega (arith, u, long)))) ∙ ap f (omega arith)))

missed : (serial : ℕ) (w : Written) (x : Mapped) → length x.bytes ≡ 4096 → Misses w x.of.page.page → written_over serial w x ≡ x
missed serial w x long misses = by_test ((x.of.serial == serial) && (x.of.page.object == w.object))
  where
    by_test : (b : Bool) → cond b (record x { bytes = over_page w x.of.page x.bytes }) x ≡ x
    by_test true = ap (λ (bytes : List ℕ). record x { bytes = bytes }) (page_missed w x.of.page x.bytes long misses)
    by_test false = refl

-- ---- one page

stays_at : (serial : ℕ) (p : PageId) (w : Written) (x : Mapped) → is_mapped_at serial p x ≡ false → written_at serial p w x ≡ x
stays_at serial p w x e = ap (λ b. cond b (record x { bytes = over_page w x.of.page x.bytes }) x) e

-- the page that passes
pub page_at : (serial : ℕ) (p : PageId) (x : Mapped) → is_mapped_at serial p x ≡ true → (x.of.serial ≡ serial) × (x.of.page.object ≡ p.object) × (x.of.page.page ≡ p.page)
page_at serial p x e = grind (arith, nat_tests)

same_of : (serial : ℕ) (p : PageId) (x y : Mapped) → is_mapped_at serial p x ≡ true → is_mapped_at serial p y ≡ true → x.of ≡ y.of
same_of serial p x y e f =
    let a = page_at serial p x e in
    let b = page_at serial p y f in
    let made : ℕ → ℕ → ℕ → PageOf = λ s o n. record { serial = s; page = page o n } in
    ap (λ (s : ℕ). made s x.of.page.object x.of.page.page) (a.0 ∙ sym b.0) ∙ ap (λ (o : ℕ). made y.of.serial o x.of.page.page) (a.1 ∙ sym b.1)
    ∙ ap (made y.of.serial y.of.page.object) (a.2 ∙ sym b.2)

others_fail : (serial : ℕ) (p : PageId) (pages : List Mapped) (i k : ℕ) (d : Mapped) → StandOnce pages → i < length pages → k < length pages → i ≢ k → is_mapped_at serial p (get_or pages k d) ≡ true →
    is_mapped_at serial p (get_or pages i d) ≡ false
others_fail serial p pages i k d once u v differ e = by_test (is_mapped_at serial p (get_or pages i d)) refl
  where
    by_test : (b : Bool) → is_mapped_at serial p (get_or pages i d) ≡ b → b ≡ false
    by_test true f =
        let same = same_of serial p (get_or pages i d) (get_or pages k d) f e in
        elim (cases_order i k) as (λ _. true ≡ false) [
          | inl here ↦ absurd (differ here)
          | inr other ↦ elim other as (λ _. true ≡ false) [ inl before ↦ absurd (once i k d before v same) | inr after ↦ absurd (once k i d after u (sym same)) ]
        ]
    by_test false f = refl

-- the page that has a place
pub put_there : (serial : ℕ) (p : PageId) (w : Written) (pages : List Mapped) (k : ℕ) (e y : Mapped) → StandOnce pages → position (is_mapped_at serial p) pages ≡ Some k →
    y ≡ record (get_or pages k e) { bytes = over_page w (get_or pages k e).of.page (get_or pages k e).bytes } → set pages k y ≡ map (written_at serial p w) pages
put_there serial p w pages k e y once found is =
    let there = position-Some (is_mapped_at serial p) pages k e found in
    let x = get_or pages k e in
    let at : (d : Mapped) → x ≡ get_or pages k d = λ d. get_or_default pages k e d there.0 in
    mapped_by_index (written_at serial p w) (set pages k y) pages (length-set pages k y)
    (λ i d u. elim (cases_eq i k) as (λ _. get_or (set pages k y) i d ≡ written_at serial p w (get_or pages i d)) [
      | inl same ↦
          ap (λ (j : ℕ). get_or (set pages k y) j d) same ∙ get_or-set_same pages k y d there.0 ∙ is
          ∙ sym (ap (λ b. cond b (record x { bytes = over_page w x.of.page x.bytes }) x) there.1) ∙ ap (written_at serial p w) (at d ∙ ap (λ (j : ℕ). get_or pages j d) (sym same))
      | inr other ↦
          get_or-set_other pages k i y d other
          ∙ sym (stays_at serial p w (get_or pages i d) (others_fail serial p pages i k d once u there.0 other (ap (is_mapped_at serial p) (sym (at d)) ∙ there.1)))
    ])

-- a page that has none
pub put_nowhere : (serial : ℕ) (p : PageId) (w : Written) (pages : List Mapped) → position (is_mapped_at serial p) pages ≡ None → pages ≡ map (written_at serial p w) pages
put_nowhere serial p w pages none = sym (map_fixed (written_at serial p w) pages (λ i d u. stays_at serial p w (get_or pages i d) (none_passes (is_mapped_at serial p) pages i d none u)))

-- ---- one page after another

-- the pages below this number have the write
abbrev pub below : ℕ → ℕ → Written → Mapped → Mapped
below n serial w x = cond (nat_lt x.of.page.page n) (written_over serial w x) x

is_below : (n serial : ℕ) (w : Written) (x : Mapped) → x.of.page.page < n → below n serial w x ≡ written_over serial w x
is_below n serial w x u = ap (λ b. cond b (written_over serial w x) x) (is_less x.of.page.page n u)

is_not_below : (n serial : ℕ) (w : Written) (x : Mapped) → n ≤ x.of.page.page → below n serial w x ≡ x
is_not_below n serial w x u = ap (λ b. cond b (written_over serial w x) x) (is_not_less x.of.page.page n u)

other_number : (serial object n : ℕ) (x : Mapped) → x.of.page.page ≢ n → is_mapped_at serial (page object n) x ≡ false
other_number serial object n x differ =
    let other : (x.of.page.page == n) ≡ false = grind (arith, nat_tests) in
    is_not (x.of.serial == serial) (is_page x.of.page (page object n)) (is_not (x.of.page.object == object) (x.of.page.page == n) other)

one_more : (n serial : ℕ) (w : Written) (x : Mapped) → written_at serial (page w.object n) w (below n serial w x) ≡ below (n + 1) serial w x
one_more n serial w x = elim (cases_order x.of.page.page n) as (λ _. put (below n serial w x) ≡ below (n + 1) serial w x) [
  | inl same ↦
      let own : (x.of.page.page == n) ≡ true = grind (arith, nat_tests) in
      ap put (is_not_below n serial w x (omega (arith, same)))
      ∙ ap (λ b. cond ((x.of.serial == serial) && b) (record x { bytes = over_page w x.of.page x.bytes }) x) (ap (λ b. (x.of.page.object == w.object) && b) own ∙ and-true (x.of.page.object == w.object))
      ∙ sym (is_below (n + 1) serial w x (omega (arith, same)))
  | inr other ↦ elim other as (λ _. put (below n serial w x) ≡ below (n + 1) serial w x) [
    | inl before ↦
        let differ : (written_over serial w x).of.page.page ≢ n = λ e. absurd (let same : x.of.page.page ≡ n = ap (λ (t : PageOf). t.page.page) (sym (of_stays serial w x)) ∙ e in omega (arith, same, before)) in
        ap put (is_below n serial w x before) ∙ stays_at serial (page w.object n) w (written_over serial w x) (other_number serial w.object n (written_over serial w x) differ)
        ∙ sym (is_below (n + 1) serial w x (omega (arith, before)))
    | inr after ↦
        ap put (is_not_below n serial w x (omega (arith, after))) ∙ stays_at serial (page w.object n) w x (other_number serial w.object n x (omega (arith, after)))
        ∙ sym (is_not_below (n + 1) serial w x (omega (arith, after)))
  ]
]
  where
    put : Mapped → Mapped
    put = written_at serial (page w.object n) w

-- what is put into the page of the next number
pub put_next : (n serial : ℕ) (w : Written) (pages : List Mapped) → map (written_at serial (page w.object n) w) (map (below n serial w) pages) ≡ map (below (n + 1) serial w) pages
put_next n serial w pages =
    map-map (written_at serial (page w.object n) w) (below n serial w) pages
    ∙ maps_alike (λ x. written_at serial (page w.object n) w (below n serial w x)) (below (n + 1) serial w) pages (λ i d u. one_more n serial w (get_or pages i d))

-- before the first page that the write covers, and after the last
pub none_yet : (n serial : ℕ) (w : Written) (pages : List Mapped) → All (λ x. length x.bytes ≡ 4096) pages → n ≡ w.offset / 4096 → pages ≡ map (below n serial w) pages
none_yet n serial w pages whole e = sym (map_fixed (below n serial w) pages (λ i d u. at (get_or pages i d) (whole i d u)))
  where
    at : (x : Mapped) → length x.bytes ≡ 4096 → below n serial w x ≡ x
    at x long = elim (cases_lt x.of.page.page n) as (λ _. below n serial w x ≡ x) [
      | inl before ↦ is_below n serial w x before ∙ missed serial w x long (inl (omega (arith, before, e)))
      | inr after ↦ is_not_below n serial w x after
    ]

pub all_put : (n serial : ℕ) (w : Written) (pages : List Mapped) → All (λ x. length x.bytes ≡ 4096) pages → w.offset + length w.bytes ≤ n * 4096 → map (below n serial w) pages ≡ map (written_over serial w) pages
all_put n serial w pages whole past = maps_alike (below n serial w) (written_over serial w) pages (λ i d u. at (get_or pages i d) (whole i d u))
  where
    at : (x : Mapped) → length x.bytes ≡ 4096 → below n serial w x ≡ written_over serial w x
    at x long = elim (cases_lt x.of.page.page n) as (λ _. below n serial w x ≡ written_over serial w x) [
      | inl before ↦ is_below n serial w x before
      | inr after ↦ is_not_below n serial w x after ∙ sym (missed serial w x long (inr (omega (arith, after, past))))
    ]

-- ---- where the pages stand meanwhile

below_of : (n serial : ℕ) (w : Written) (x : Mapped) → (below n serial w x).of ≡ x.of
below_of n serial w x = by_test (nat_lt x.of.page.page n)
  where
    by_test : (b : Bool) → (cond b (written_over serial w x) x).of ≡ x.of
    by_test true = of_stays serial w x
    by_test false = refl

pub still_found : (n serial : ℕ) (w : Written) (rows : PagePlaces) (pages : List Mapped) (p : PageId) → IsFound serial rows pages p → IsFound serial rows (map (below n serial w) pages) p
still_found n serial w rows pages p found =
    found ∙ sym (position_kept (is_mapped_at serial p) (below n serial w) (λ x. ap (λ (t : PageOf). is_mapped_at serial p (record x { of = t })) (below_of n serial w x)) pages)

-- pages that stay where they are
pub once_stays : (f : Mapped → Mapped) → ((x : Mapped) → (f x).of ≡ x.of) → (pages : List Mapped) → StandOnce pages → StandOnce (map f pages)
once_stays f same pages once = λ i j d u v e.
    let long = length-map pages f in
    let at : (k : ℕ) → k < length pages → (get_or (map f pages) k d).of ≡ (get_or pages k d).of = λ k w. ap (λ (x : Mapped). x.of) (get_or-map f pages k d d w) ∙ same (get_or pages k d) in
    once i j d u (omega (arith, v, long)) (sym (at i (omega (arith, u, v, long))) ∙ e ∙ at j (omega (arith, v, long)))

pub still_once : (n serial : ℕ) (w : Written) (pages : List Mapped) → StandOnce pages → StandOnce (map (below n serial w) pages)
still_once n serial w pages once = once_stays (below n serial w) (below_of n serial w) pages once
