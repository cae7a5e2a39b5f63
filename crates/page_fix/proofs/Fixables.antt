-- Which pages are fixed once for all processes, test by test.
use Rattle.std.proofs.Common.{◌≡◌, ◌<◌, ◌∙◌, true, false, length, ap, arith}
use Rattle.std.specs.Prelude.{◌&&◌, not}
use Rattle.std.proofs.lemmas.Bool.{and_parts, and_from, ltb-true, leb-true, not-true, not_from_false}
use Rattle.lx_types.specs.Object.{class_of, pages_of}
use Rattle.lx_types.specs.Parts.{object_of, page_at}
use Rattle.lx_types.specs.Sound.{IsNumberOf}
use Rattle.lx_types.specs.declared.object.PageId.{PageId}
use Rattle.lx_types.specs.declared.parts.Parts.{Parts}
use Rattle.lx_model.specs.ModuleBytes.{is_invalid}
use Rattle.page_fix.specs.Fixable.{has_shared_pages, is_fixable, is_page_of, IsFixable}

is_there : (m : Parts) (p : PageId) → IsNumberOf p.object (length m.objects) → p.page < pages_of (object_of m p.object) → is_page_of m p ≡ true
is_there m p number page = grind (arith, number, page)

-- of a page that is there
pub fixable_by_parts : (m : Parts) (p : PageId) → IsNumberOf p.object (length m.objects) → p.page < pages_of (object_of m p.object) →
    is_fixable m p ≡ (has_shared_pages (class_of (object_of m p.object)) && not (is_invalid (page_at m p).kind))
unfolding is_fixable
fixable_by_parts m p number page =
    ap (λ there. there && has_shared_pages (class_of (object_of m p.object)) && not (is_invalid (page_at m p).kind)) (is_there m p number page)

pub fixable_so : (m : Parts) (p : PageId) → is_fixable m p ≡ true → IsFixable m p
unfolding is_fixable
fixable_so m p is =
    let valid = and_parts _ _ is in
    let shared = and_parts _ _ valid.0 in
    let page = and_parts _ _ shared.0 in
    let object = and_parts _ _ page.0 in
    record {
      object = (ltb-true 0 p.object object.0, leb-true p.object (length m.objects) object.1);
      page = ltb-true p.page (pages_of (object_of m p.object)) page.1;
      shared = shared.1;
      valid = not-true (is_invalid (page_at m p).kind) valid.1;
    }

pub fixable_only : (m : Parts) (p : PageId) → IsFixable m p → is_fixable m p ≡ true
fixable_only m p is =
    fixable_by_parts m p is.object is.page
    ∙ and_from (has_shared_pages (class_of (object_of m p.object))) (not (is_invalid (page_at m p).kind)) is.shared (not_from_false (is_invalid (page_at m p).kind) is.valid)

-- a page that is not there is none
pub outside : (m : Parts) (p : PageId) → is_page_of m p ≡ false → is_fixable m p ≡ false
unfolding is_fixable
outside m p is = ap (λ there. there && has_shared_pages (class_of (object_of m p.object)) && not (is_invalid (page_at m p).kind)) is

pub page_so : (m : Parts) (p : PageId) → is_page_of m p ≡ true → IsNumberOf p.object (length m.objects) × (p.page < pages_of (object_of m p.object))
page_so m p is =
    let page = and_parts _ _ is in
    let object = and_parts _ _ page.0 in
    ((ltb-true 0 p.object object.0, leb-true p.object (length m.objects) object.1), ltb-true p.page (pages_of (object_of m p.object)) page.1)
