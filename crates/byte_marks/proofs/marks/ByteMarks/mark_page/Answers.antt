use Rattle.std.proofs.Common.{◌≡◌, ℕ, None, Some, ap, ◌∙◌}
use Rattle.std.specs.Prelude.{◌||◌, slice_get}
use Rattle.std.proofs.lemmas.Option.{slice_get-map, same_Some}
use Rattle.std.specs.Option.{option_map}
use Rattle.indexmap.specs.IndexMap.{Updates, values, with_value_at}
use Rattle.indexmap.proofs.CallerLemmas.{updates-with_value_at}
use Rattle.byte_marks.specs.declared.page.Page.{Page}
use Rattle.byte_marks.specs.declared.marks.PageAt.{PageAt}
use Rattle.byte_marks.specs.declared.marks.ByteMarks.{ByteMarks}
use Rattle.byte_marks.specs.Bits.{is_from, is_set}
use Rattle.byte_marks.specs.Marks.{IsPlaceOf, is_page}
use Rattle.byte_marks.proofs.Pages.{page-marked, page-stays, pages-equiv}
use Rattle.byte_marks.proofs.marks.ByteMarks.mark_page.Goals as goal

-- the page at a place
value_at : (m : ByteMarks) (at : PageAt) (place : ℕ) (h : IsPlaceOf m at place) → slice_get (values m.pages) place ≡ Some h.page
value_at m at place h = slice_get-map (λ (e : PageAt × Page). e.1) m.pages.entries place ∙ ap (option_map (λ (e : PageAt × Page). e.1)) h.entry

pub returns-in-Some-get_index_mut-clause-marks : goal.returns-in-Some-get_index_mut-clause-marks
returns-in-Some-get_index_mut-clause-marks c =
    let m = c.args.self.now in
    let at = c.args.at in
    let place = c.in-Some.place in
    let new = c.mark.new.self in
    let h : IsPlaceOf m at place = c.in-Some.ensures in
    let updates : Updates is_page m.pages (with_value_at m.pages place new) at (Some new) = updates-with_value_at m.pages place new pages-equiv c.get_index_mut.ensures.unique at h.page h.entry in
    let old : c.in-Some-get_index_mut.page.now ≡ h.page = same_Some _ _ (c.in-Some-get_index_mut.ensures.value ∙ value_at m at place h) in
    page-marked m (record { pages = with_value_at m.pages place new; last = place }) at h.page new c.args.from c.args.past updates h.found
    (λ x. c.mark.ensures x ∙ ap (λ (p : Page). is_set p.words x || is_from c.args.from c.args.past x) old)

pub returns-in-Some-get_index_mut-clause-pages : goal.returns-in-Some-get_index_mut-clause-pages
returns-in-Some-get_index_mut-clause-pages c =
    let m = c.args.self.now in
    let place = c.in-Some.place in
    let new = c.mark.new.self in
    let h : IsPlaceOf m c.args.at place = c.in-Some.ensures in
    page-stays m (record { pages = with_value_at m.pages place new; last = place }) c.args.at new (updates-with_value_at m.pages place new pages-equiv c.get_index_mut.ensures.unique c.args.at h.page h.entry)

pub returns-in_default-get_index_mut-clause-marks : goal.returns-in_default-get_index_mut-clause-marks
returns-in_default-get_index_mut-clause-marks c =
    let h : IsPlaceOf c.args.self.now c.args.at c.in-Some.place = c.in-Some.ensures in
    let none : None ≡ Some h.page = c.in_default-get_index_mut.ensures.value ∙ value_at c.args.self.now c.args.at c.in-Some.place h in
    absurd (cc)
