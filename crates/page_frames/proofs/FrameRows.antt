-- Each page that all processes share has its frame.
use Rattle.std.proofs.Common.{◌≡◌, ◌<◌, ◌-◌, ◌∙◌, ℕ, true, List, [], length, get_or, sym, ap, subst, arith}
use Rattle.std.proofs.lemmas.Bool.{cond-true}
use Rattle.std.proofs.lemmas.List.FromFn.{get_or-map-range_with_len, length-map-range_with_len}
use Rattle.lx_types.specs.Object.{pages_of, class_of}
use Rattle.lx_types.specs.Parts.{object_of}
use Rattle.lx_types.specs.Sound.{IsNumberOf}
use Rattle.lx_types.specs.declared.bases.Bases.{Bases}
use Rattle.lx_types.specs.declared.object.PageId.{PageId}
use Rattle.lx_types.specs.declared.parts.Parts.{Parts}
use Rattle.lx_model.specs.Library.{module_of}
use Rattle.page_fix.specs.Fixable.{has_shared_pages, is_fixable, IsFixable}
use Rattle.page_fix.proofs.Fixables.{fixable_so}
use Rattle.page_frames.specs.Frames.{FramePage, frame_count, frame_row, frame_rows}

module _ (lib : List Parts) (m : ℕ) (bases : Bases) (p : PageId) (may : is_fixable (module_of lib m) p ≡ true) where
  abbrev is : IsFixable (module_of lib m) p
  is = fixable_so (module_of lib m) p may

  has_row : IsNumberOf p.object (length (frame_rows lib m bases))
  unfolding frame_rows
  has_row =
      let long = length-map-range_with_len (frame_row lib m bases) 1 (length (module_of lib m).objects) in
      let low = is.object.0 in let high = is.object.1 in (low, omega (arith, long, high))

  row_is : get_or (frame_rows lib m bases) (p.object - 1) [] ≡ frame_row lib m bases p.object
  unfolding frame_rows
  row_is = get_or-map-range_with_len (frame_row lib m bases) 1 (length (module_of lib m).objects) (p.object - 1) p.object []
      (let low = is.object.0 in let high = is.object.1 in omega (arith, low, high)) (let low = is.object.0 in omega (arith, low))

  count_is : frame_count (module_of lib m) p.object ≡ pages_of (object_of (module_of lib m) p.object)
  count_is = cond-true (has_shared_pages (class_of (object_of (module_of lib m) p.object))) (pages_of (object_of (module_of lib m) p.object)) 0 is.shared

  below : p.page < frame_count (module_of lib m) p.object
  below = let page = is.page in omega (arith, count_is, page)

  abbrev frame : ℕ → FramePage
  frame n = record { library = lib; «module» = m; bases = bases; page = record { object = p.object; page = n } }

  has_frame : p.page < length (get_or (frame_rows lib m bases) (p.object - 1) [])
  unfolding frame_row
  has_frame =
      let long : length (frame_row lib m bases p.object) ≡ frame_count (module_of lib m) p.object = length-map-range_with_len frame 0 (frame_count (module_of lib m) p.object) in
      let same : length (get_or (frame_rows lib m bases) (p.object - 1) []) ≡ length (frame_row lib m bases p.object) = ap length row_is in
      omega (arith, same, long, below)

  frame_is : (other : FramePage) → get_or (get_or (frame_rows lib m bases) (p.object - 1) []) p.page other ≡ frame p.page
  unfolding frame_row
  frame_is other =
      ap (λ row. get_or row p.page other) row_is
      ∙ get_or-map-range_with_len frame 0 (frame_count (module_of lib m) p.object) p.page p.page other below (omega arith)

  -- rows that are these lead to the page's frame
  pub row_there : (rows : List (List FramePage)) → rows ≡ frame_rows lib m bases → IsNumberOf p.object (length rows)
  row_there rows same = subst (λ (rs : List (List FramePage)). IsNumberOf p.object (length rs)) (sym same) has_row

  pub frame_there : (rows : List (List FramePage)) → rows ≡ frame_rows lib m bases → p.page < length (get_or rows (p.object - 1) [])
  frame_there rows same = subst (λ (rs : List (List FramePage)). p.page < length (get_or rs (p.object - 1) [])) (sym same) has_frame

  pub frame_found : (rows : List (List FramePage)) (other : FramePage) → rows ≡ frame_rows lib m bases →
      get_or (get_or rows (p.object - 1) []) p.page other ≡ record { library = lib; «module» = m; bases = bases; page = p }
  frame_found rows other same = ap (λ (rs : List (List FramePage)). get_or (get_or rs (p.object - 1) []) p.page other) same ∙ frame_is other
