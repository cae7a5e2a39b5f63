-- What a mark that is taken away leaves.
use Rattle.std.proofs.Common.{◌≡◌, ◌<◌, ◌≤◌, ◌-◌, ◌∙◌, ℕ, zero, suc, Bool, true, false, List, [], length, map, get_or, set, refl, sym, ap, subst, arith, ◌⊎◌, ⊎_elim, get_or-set_other, get_or-set_same, length-set}
use Rattle.std.specs.Prelude.{◌&&◌, not}
use Rattle.std.specs.List.{filter, flat_map, list_any, range_with_len}
use Rattle.std.proofs.lemmas.Bool.{false≢true, cases_eq, cases_lt, and_from, and_left, and_right, ne_eqb, false_from_ne_true, eq-eqb}
use Rattle.std.proofs.lemmas.List.{get_or_past}
use Rattle.std.proofs.lemmas.List.Elements.{filter_agree}
use Rattle.std.proofs.lemmas.Map.Views.{any-filter_same}
use Rattle.lx_types.specs.declared.object.PageId.{PageId}
use Rattle.page_fix.specs.Fixable.{is_page}
use Rattle.page_fix.specs.Rights.{row_of, is_marked, row_pages, marked_pages}
use Rattle.page_fix.proofs.Pages.{same_page, found_in_rows, filter_twice}

-- ---- where marks are

marked_within : (row : List Bool) (n : ℕ) → get_or row n false ≡ true → n < length row
marked_within row n is = ⊎_elim (λ below. below) (λ past. absurd (false≢true (sym (get_or_past row n false past) ∙ is))) (cases_lt n (length row))

row_within : (rows : List (List Bool)) (k n : ℕ) → n < length (get_or rows k []) → k < length rows
row_within rows k n below = ⊎_elim
    (λ here. here)
    (λ past. absurd (let none : length (get_or rows k []) ≡ 0 = ap length (get_or_past rows k [] past) in omega (arith, none, below)))
    (cases_lt k (length rows))

-- a page with a mark is in its row
marked_is_there : (rows : List (List Bool)) (object n : ℕ) → get_or (row_of rows object) n false ≡ true →
    (1 ≤ object) × (object ≤ length rows) × (n < length (row_of rows object))
marked_is_there rows zero n is = absurd (false≢true (sym (get_or_past [] n false (omega arith)) ∙ is))
marked_is_there rows (suc k) n is =
    let below = marked_within (get_or rows k []) n is in
    let here = row_within rows k n below in (omega arith, omega arith, below)

pub any_marked : (rows : List (List Bool)) (p : PageId) → list_any (is_page p) (marked_pages rows) ≡ is_marked rows p
unfolding marked_pages
any_marked rows p =
    any-filter_same (is_page p) (is_marked rows) (is_marked rows p) (λ q is. ap (is_marked rows) (sym (same_page p q is)))
    (flat_map (row_pages rows) (range_with_len 1 (length rows)))
    ∙ by_mark (is_marked rows p) refl
  where
    by_mark : (b : Bool) → is_marked rows p ≡ b → (b && list_any (is_page p) (flat_map (row_pages rows) (range_with_len 1 (length rows)))) ≡ b
    by_mark true is =
        let there = marked_is_there rows p.object p.page is in
        found_in_rows p (λ object. length (row_of rows object)) (length rows) there.0 there.1 there.2
    by_mark false is = refl

-- ---- fewer marks

-- rows of the same lengths, where all marks but that of a page are the same
fewer_marks : (rows rows' : List (List Bool)) (p : PageId) → length rows' ≡ length rows →
    ((object : ℕ) → length (row_of rows' object) ≡ length (row_of rows object)) →
    ((q : PageId) → is_marked rows' q ≡ (is_marked rows q && not (is_page p q))) →
    marked_pages rows' ≡ filter (λ q. not (is_page p q)) (marked_pages rows)
unfolding marked_pages
fewer_marks rows rows' p as_many as_long same =
    ap (λ (sizes : ℕ → ℕ). filter (is_marked rows') (places sizes (length rows'))) (λ i object. as_long object i)
    ∙ ap (λ n. filter (is_marked rows') (places size n)) as_many
    ∙ filter_agree (is_marked rows') (λ q. is_marked rows q && not (is_page p q)) same (places size (length rows))
    ∙ sym (filter_twice (λ q. not (is_page p q)) (is_marked rows) (places size (length rows)))
  where
    size : ℕ → ℕ
    size object = length (row_of rows object)

    places : (ℕ → ℕ) → ℕ → List PageId
    places sizes n = flat_map (λ object. map (λ k. record { object = object; page = k }) (range_with_len 0 (sizes object))) (range_with_len 1 n)

pub unmarked_stays : (rows : List (List Bool)) (p : PageId) → is_marked rows p ≡ false → marked_pages rows ≡ filter (λ q. not (is_page p q)) (marked_pages rows)
unmarked_stays rows p none = fewer_marks rows rows p refl (λ object. refl) (λ q. by_page q (is_page p q) refl)
  where
    by_page : (q : PageId) (b : Bool) → is_page p q ≡ b → is_marked rows q ≡ (is_marked rows q && not b)
    by_page q true is = ap (is_marked rows) (sym (same_page p q is)) ∙ none ∙ sym (ap (λ b. b && false) (ap (is_marked rows) (sym (same_page p q is)) ∙ none))
    by_page q false is = grind arith

-- ---- a mark that is taken away

module _ (rows : List (List Bool)) (k n : ℕ) (here : k < length rows) where
  abbrev less : List Bool
  less = set (get_or rows k []) n false

  other_row : (object : ℕ) → (object ≡ suc k → ⊥) → row_of (set rows k less) object ≡ row_of rows object
  other_row zero apart = refl
  other_row (suc j) apart = get_or-set_other rows k j less [] (λ (e : j ≡ k). apart (ap suc e))

  own_row : (object : ℕ) → object ≡ suc k → row_of (set rows k less) object ≡ less
  own_row object is = ap (row_of (set rows k less)) is ∙ get_or-set_same rows k less [] here

  as_long : (object : ℕ) → length (row_of (set rows k less) object) ≡ length (row_of rows object)
  as_long object = ⊎_elim
      (λ is. ap length (own_row object is) ∙ length-set (get_or rows k []) n false ∙ ap (λ o. length (row_of rows o)) (sym is))
      (λ apart. ap length (other_row object apart))
      (cases_eq object (suc k))

  taken_mark : get_or less n false ≡ false
  taken_mark = ⊎_elim
      (λ below. get_or-set_same (get_or rows k []) n false false below)
      (λ past. get_or_past less n false (omega (arith, length-set (get_or rows k []) n false, past)))
      (cases_lt n (length (get_or rows k [])))

  -- the mark of each page, once that of page n of object k + 1 was taken
  unmarked : (q : PageId) → is_marked (set rows k less) q ≡ (is_marked rows q && not (is_page (record { object = suc k; page = n }) q))
  unmarked q = ⊎_elim
      (λ own. ⊎_elim
      (λ at. ap (λ row. get_or row q.page false) (own_row q.object own) ∙ ap (λ i. get_or less i false) at ∙ taken_mark
      ∙ sym (dropped (is_marked rows q) (is_page (record { object = suc k; page = n }) q) (and_from _ _ (eq-eqb (suc k) q.object (sym own)) (eq-eqb n q.page (sym at)))))
      (λ apart. ap (λ row. get_or row q.page false) (own_row q.object own) ∙ get_or-set_other (get_or rows k []) n q.page false false apart
      ∙ ap (λ object. get_or (row_of rows object) q.page false) (sym own)
      ∙ kept (is_marked rows q) (is_page (record { object = suc k; page = n }) q) (and_right _ _ (ne_eqb n q.page (λ (e : n ≡ q.page). apart (sym e)))))
      (cases_eq q.page n))
      (λ apart. ap (λ row. get_or row q.page false) (other_row q.object apart)
      ∙ kept (is_marked rows q) (is_page (record { object = suc k; page = n }) q) (and_left _ _ (ne_eqb (suc k) q.object (λ (e : suc k ≡ q.object). apart (sym e)))))
      (cases_eq q.object (suc k))
    where
      dropped : (b c : Bool) → c ≡ true → (b && not c) ≡ false
      dropped b c is = grind arith

      kept : (b c : Bool) → c ≡ false → b ≡ (b && not c)
      kept b c is = grind arith

  taken_by_place : marked_pages (set rows k less) ≡ filter (λ q. not (is_page (record { object = suc k; page = n }) q)) (marked_pages rows)
  taken_by_place = fewer_marks rows (set rows k less) (record { object = suc k; page = n }) (length-set rows k less) as_long unmarked

pub mark_is_taken : (rows : List (List Bool)) (p : PageId) → 1 ≤ p.object → p.object ≤ length rows →
    marked_pages (set rows (p.object - 1) (set (get_or rows (p.object - 1) []) p.page false)) ≡ filter (λ q. not (is_page p q)) (marked_pages rows)
mark_is_taken rows p low high =
    let number : suc (p.object - 1) ≡ p.object = omega arith in
    let Taken : PageId → Type 0 = λ x. marked_pages (set rows (p.object - 1) (set (get_or rows (p.object - 1) []) p.page false)) ≡ filter (λ q. not (is_page x q)) (marked_pages rows) in
    subst Taken (λ i. record { object = number i; page = p.page }) (taken_by_place rows (p.object - 1) p.page (omega arith))

-- the mark of a page of an object that has a row
pub mark_at : (rows : List (List Bool)) (p : PageId) → 1 ≤ p.object → get_or (get_or rows (p.object - 1) []) p.page false ≡ is_marked rows p
mark_at rows p low =
    let number : suc (p.object - 1) ≡ p.object = omega arith in
    ap (λ object. get_or (row_of rows object) p.page false) number

-- no object has this number
pub no_row : (rows : List (List Bool)) (p : PageId) → (p.object ≡ 0) ⊎ (length rows < p.object) → is_marked rows p ≡ false
no_row rows p outside = false_from_ne_true (is_marked rows p) (λ is.
    let there = marked_is_there rows p.object p.page is in
    ⊎_elim (λ (none : p.object ≡ 0). let low = there.0 in omega (arith, none, low)) (λ (past : length rows < p.object). let high = there.1 in omega (arith, past, high)) outside)
