-- Pages of residences, each of which stands once: they stay so.
use Rattle.std.proofs.Common.{◌≡◌, ◌&&◌, ◌+◌, ◌*◌, ◌<◌, ◌≤◌, ◌==◌, ◌||◌, ◌++◌, ℕ, suc, Bool, true, false, cond, List, [], ◌∷◌, map, filter, length, None, get_or, refl, ap, ◌∙◌, arith}
use Rattle.process_pages.proofs.Words.{All, All-filter, All-head, All-map, All-push, All-tail, All-weaker, all_pairs_push, AllPairs-filter, ArePagesOf}
use Rattle.process_pages.proofs.Words.{filter_passes, is_mapped_at, last_put, length-filter, length-map-range_with_len, list_any, list_any-append}
use Rattle.process_pages.proofs.Words.{list_any_at, Mapped, nat_tests, over_page, PageOf, pages_with, position, ResidenceFor, slice_index, Written}
use Rattle.process_pages.proofs.Words.{written_over}
use Rattle.std.proofs.lemmas.List.Sums.{count_by-le-length}
use Rattle.process_pages.proofs.Copies.{of_stays}
use Rattle.process_pages.proofs.Covering.{once_stays}
use Rattle.process_pages.proofs.Placing.{none_passes}

-- ---- lists that are filtered

filter_all : {X : Type 0} (p : X → Bool) (xs : List X) → All (λ x. p x ≡ true) xs → filter p xs ≡ xs
filter_all p [] all = refl
filter_all p (x ∷ xs) all =
    ap (λ b. cond b (x ∷ filter p xs) (filter p xs)) (All-head (λ y. p y ≡ true) x xs all) ∙ ap (λ ys. x ∷ ys) (filter_all p xs (All-tail (λ y. p y ≡ true) x xs all))

fewer : {X : Type 0} (p : X → Bool) (xs : List X) → length (filter p xs) ≤ length xs
fewer p xs = omega (arith, length-filter p xs, count_by-le-length p xs)

-- a list that is as long as before
pub filter_whole : {X : Type 0} (p : X → Bool) (xs : List X) → length xs ≤ length (filter p xs) → filter p xs ≡ xs
filter_whole p [] u = refl
filter_whole p (x ∷ xs) u = by_test (p x) refl (filter_whole p xs)
  where
    by_test : (b : Bool) → p x ≡ b → (length xs ≤ length (filter p xs) → filter p xs ≡ xs) → cond (p x) (x ∷ filter p xs) (filter p xs) ≡ x ∷ xs
    by_test true e later =
        let long : suc (length xs) ≤ suc (length (filter p xs)) = rw e at u in
        rw e (ap (λ ys. x ∷ ys) (later (omega (arith, long))))
    by_test false e later =
        let long : suc (length xs) ≤ length (filter p xs) = rw e at u in
        absurd (omega (arith, long, fewer p xs))

-- ---- pages of residences

abbrev pub is_of : List ResidenceFor → Mapped → Bool
is_of rs p = list_any (λ (r : ResidenceFor). r.serial == p.of.serial) rs

pub no_pages : (rs : List ResidenceFor) → ArePagesOf rs []
no_pages rs = record { own = λ k d u. absurd (omega (arith, u)); whole = λ k d u. absurd (omega (arith, u)); once = λ i j d u v. absurd (omega (arith, v)) }

-- all are of them
pub all_kept : (rs : List ResidenceFor) (mapped : List Mapped) → ArePagesOf rs mapped → pages_with rs mapped ≡ mapped
all_kept rs mapped are = filter_all (is_of rs) mapped are.own

-- those of some residences
pub pages_kept : (all rs : List ResidenceFor) (mapped : List Mapped) → ArePagesOf all mapped → ArePagesOf rs (pages_with rs mapped)
pages_kept all rs mapped are = record {
  own = filter_passes (is_of rs) mapped;
  whole = All-filter (is_of rs) (λ (p : Mapped). length p.bytes ≡ 4096) mapped are.whole;
  once = AllPairs-filter (λ (a b : Mapped). a.of ≡ b.of → ⊥) (is_of rs) mapped are.once;
}

-- a residence more
pub pages_joined : (rs : List ResidenceFor) (r : ResidenceFor) (mapped : List Mapped) → ArePagesOf rs mapped → ArePagesOf (rs ++ r ∷ []) mapped
pages_joined rs r mapped are = record {
  own = All-weaker (λ p. is_of rs p ≡ true) (λ p. is_of (rs ++ r ∷ []) p ≡ true)
      (λ p is. list_any-append (λ (q : ResidenceFor). q.serial == p.of.serial) rs (r ∷ []) ∙ ap (λ b. b || is_of (r ∷ []) p) is) mapped are.own;
  whole = are.whole;
  once = are.once;
}

-- a page more, which was not among them
pub pages_pushed : (rs : List ResidenceFor) (mapped : List Mapped) (x : Mapped) (k : ℕ) (d : ResidenceFor) → ArePagesOf rs mapped → k < length rs → (get_or rs k d).serial ≡ x.of.serial → length x.bytes ≡ 4096 →
    position (is_mapped_at x.of.serial x.of.page) mapped ≡ None → ArePagesOf rs (mapped ++ x ∷ [])
pages_pushed rs mapped x k d are u own long none =
    let same : (a b : ℕ) → a ≡ b → (a == b) ≡ true = λ a b e. grind (arith, nat_tests) in
    let here : is_mapped_at x.of.serial x.of.page x ≡ true = grind (arith, nat_tests) in
    record {
      own = All-push (λ p. is_of rs p ≡ true) mapped x are.own (list_any_at (λ (r : ResidenceFor). r.serial == x.of.serial) rs k d u (same _ _ own));
      whole = All-push (λ (p : Mapped). length p.bytes ≡ 4096) mapped x are.whole long;
      once = all_pairs_push (λ (a b : Mapped). a.of ≡ b.of → ⊥) mapped x are.once
          (λ i e v twice.
          let passes : is_mapped_at x.of.serial x.of.page (get_or mapped i e) ≡ true = ap (λ (t : PageOf). is_mapped_at x.of.serial x.of.page (record x { of = t })) twice ∙ here in
          let fails = none_passes (is_mapped_at x.of.serial x.of.page) mapped i e none v in
          cc);
    }

-- a write
pub pages_written : (rs : List ResidenceFor) (mapped : List Mapped) (serial : ℕ) (w : Written) → ArePagesOf rs mapped → ArePagesOf rs (map (written_over serial w) mapped)
pages_written rs mapped serial w are = record {
  own = All-map (λ p. is_of rs p ≡ true) (written_over serial w) mapped
      (All-weaker (λ p. is_of rs p ≡ true) (λ p. is_of rs (written_over serial w p) ≡ true) (λ p is. ap (λ (t : PageOf). is_of rs (record p { of = t })) (of_stays serial w p) ∙ is) mapped are.own);
  whole = All-map (λ (p : Mapped). length p.bytes ≡ 4096) (written_over serial w) mapped
      (All-weaker (λ (p : Mapped). length p.bytes ≡ 4096) (λ (p : Mapped). length (written_over serial w p).bytes ≡ 4096) long mapped are.whole);
  once = once_stays (written_over serial w) (of_stays serial w) mapped are.once;
}
  where
    long : (p : Mapped) → length p.bytes ≡ 4096 → length (written_over serial w p).bytes ≡ 4096
    long p is = by_test ((p.of.serial == serial) && (p.of.page.object == w.object))
      where
        by_test : (b : Bool) → length (cond b (record p { bytes = over_page w p.of.page p.bytes }) p).bytes ≡ 4096
        by_test true = length-map-range_with_len (λ i. last_put (w ∷ []) (p.of.page.page * 4096 + i) (slice_index p.bytes i)) 0 4096
        by_test false = is
