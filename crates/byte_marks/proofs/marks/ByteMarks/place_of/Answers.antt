use Rattle.std.proofs.Common.{◌≡◌, Some, sym, ap, ◌∙◌}
use Rattle.std.proofs.lemmas.Map.Made.{lookup_key_same}
use Rattle.indexmap.specs.IndexMap.{get}
use Rattle.byte_marks.specs.Marks.{is_page}
use Rattle.byte_marks.specs.declared.marks.PageAt.{PageAt}
use Rattle.byte_marks.proofs.Pages.{same-page}
use Rattle.byte_marks.proofs.marks.ByteMarks.place_of.Goals as goal

pub returns-then-eq : goal.returns-then-eq
returns-then-eq c =
    let page = c.in-Some.field-0-1.now in
    let same : c.in-Some.own.now ≡ c.args.at = (same-page c.in-Some.own.now c.args.at).0 (sym c.eq.ensures ∙ c.if-eq.true) in
    record {
      page = page;
      entry = sym c.in-Some.ensures.entry ∙ ap (λ (at : PageAt). Some (at, page)) same;
      found = ap (get is_page c.args.self.now.pages) (sym same) ∙ c.in-Some.ensures.value;
    }

pub returns : goal.returns
returns c =
    let page = c.in_ok-place.field-0-2.now in
    let same : c.args.at ≡ c.in_ok-place.field-0-1.now = lookup_key_same {eq = is_page} same-page c.args.at c.args.self.now.pages.entries c.in_ok-place.field-0-1.now (sym c.in_ok-place.ensures.key) in
    record {
      page = page;
      entry = c.in_ok-place.ensures.entry ∙ ap (λ (at : PageAt). Some (at, page)) (sym same);
      found = sym c.in_ok-place.ensures.value;
    }
