-- The marks that rights begin with are those of the pages that are fixed once for all processes.
use Rattle.std.proofs.Common.{◌≡◌, ◌<◌, ◌≤◌, ◌+◌, ◌∙◌, ℕ, zero, suc, Bool, false, List, [], length, map, get_or, refl, sym, ap, arith, ⊎_elim}
use Rattle.std.specs.List.{filter, flat_map, list_any, range_with_len}
use Rattle.std.proofs.lemmas.Bool.{cases_lt, le-ltb, lt-leb, and_right, and_left}
use Rattle.std.proofs.lemmas.List.{get_or_past}
use Rattle.std.proofs.lemmas.List.Elements.{filter_agree}
use Rattle.std.proofs.lemmas.List.FromFn.{get_or-map-range_with_len, length-map-range_with_len}
use Rattle.lx_types.specs.Object.{pages_of}
use Rattle.lx_types.specs.Parts.{object_of}
use Rattle.lx_types.specs.declared.object.PageId.{PageId}
use Rattle.lx_types.specs.declared.parts.Parts.{Parts}
use Rattle.page_fix.specs.Fixable.{is_page, is_fixable, object_pages, fixable_pages}
use Rattle.page_fix.specs.Rights.{row_of, is_marked, row_pages, marked_pages, fixable_row}
use Rattle.page_fix.proofs.Fixables.{outside}
use Rattle.page_fix.proofs.Pages.{flat_alike, pages_to}
use Rattle.page_fix.proofs.Marked.{any_marked}

-- ---- the rows of a module

module _ (m : Parts) where
  abbrev rows : List (List Bool)
  rows = map (fixable_row m) (range_with_len 1 (length m.objects))

  row_is : (k : ℕ) → k < length m.objects → row_of rows (suc k) ≡ fixable_row m (suc k)
  row_is k here = get_or-map-range_with_len (fixable_row m) 1 (length m.objects) k (suc k) [] here (omega arith)

  row_length : (object : ℕ) → length (fixable_row m object) ≡ pages_of (object_of m object)
  unfolding fixable_row
  row_length object = length-map-range_with_len (λ n. is_fixable m (record { object = object; page = n })) 0 (pages_of (object_of m object))

  mark_in_row : (object n : ℕ) → n < pages_of (object_of m object) → get_or (fixable_row m object) n false ≡ is_fixable m (record { object = object; page = n })
  unfolding fixable_row
  mark_in_row object n below =
      get_or-map-range_with_len (λ k. is_fixable m (record { object = object; page = k })) 0 (pages_of (object_of m object)) n n false below (omega arith)

  mark_past_row : (object n : ℕ) → pages_of (object_of m object) ≤ n → get_or (fixable_row m object) n false ≡ false
  mark_past_row object n past = get_or_past (fixable_row m object) n false (let long = row_length object in omega (arith, long, past))

  -- every mark tells whether its page is fixable, and every other page is not
  mark_is : (object n : ℕ) → is_marked rows (record { object = object; page = n }) ≡ is_fixable m (record { object = object; page = n })
  mark_is zero n = get_or_past [] n false (omega arith) ∙ sym (outside m (record { object = 0; page = n }) refl)
  mark_is (suc k) n = ⊎_elim
      (λ here. ap (λ row. get_or row n false) (row_is k here) ∙ ⊎_elim
      (λ below. mark_in_row (suc k) n below)
      (λ past. mark_past_row (suc k) n past ∙ sym (outside m (record { object = suc k; page = n }) (and_right _ _ (le-ltb n (pages_of (object_of m (suc k))) past))))
      (cases_lt n (pages_of (object_of m (suc k)))))
      (λ past. ap (λ row. get_or row n false) (get_or_past rows k [] (let long = length-map-range_with_len (fixable_row m) 1 (length m.objects) in omega (arith, long, past)))
      ∙ get_or_past [] n false (omega arith)
      ∙ sym (outside m (record { object = suc k; page = n }) (and_left _ _ (and_right _ _ (lt-leb (suc k) (length m.objects) (omega arith))))))
      (cases_lt k (length m.objects))

  pages_alike : (object : ℕ) → 1 ≤ object → object < 1 + length m.objects → row_pages rows object ≡ object_pages m object
  pages_alike zero low high = absurd (omega arith)
  pages_alike (suc k) low high = ap (pages_to (suc k)) (ap length (row_is k (omega arith)) ∙ row_length (suc k))

  pub rows_are_fixable : marked_pages rows ≡ fixable_pages m
  unfolding marked_pages fixable_pages
  rows_are_fixable =
      ap (λ n. filter (is_marked rows) (flat_map (row_pages rows) (range_with_len 1 n))) (length-map-range_with_len (fixable_row m) 1 (length m.objects))
      ∙ ap (filter (is_marked rows)) (flat_alike (row_pages rows) (object_pages m) 1 (length m.objects) pages_alike)
      ∙ filter_agree (is_marked rows) (is_fixable m) (λ p. mark_is p.object p.page) (flat_map (object_pages m) (range_with_len 1 (length m.objects)))

  pub fixable_is_listed : (p : PageId) → list_any (is_page p) (fixable_pages m) ≡ is_fixable m p
  fixable_is_listed p = ap (list_any (is_page p)) (sym rows_are_fixable) ∙ any_marked rows p ∙ mark_is p.object p.page
