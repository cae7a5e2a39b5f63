use Rattle.std.proofs.Common.{◌≡◌, ◌∙◌, ◌&&◌, ◌⊎◌, inl, inr, true, not, sym, ap}
use Rattle.process_view.proofs.Words.{and_false, Class, class_of, has_shared_pages, is_invalid, object_at}
use Rattle.process_view.proofs.Claims.{shared_by}
use Rattle.lx_types.specs.declared.object.Class.TheVariants as classes
use Rattle.process_view.proofs.spans.is_shared_page.Goals as goal

pub returns-then-is_invalid : goal.returns-then-is_invalid
returns-then-is_invalid c =
    let lib = c.args.lib.now in
    let k = class_of (object_at lib c.args.m c.args.p.object) in
    sym (shared_by lib c.args.m c.args.p c.requires.object c.requires.page ∙ ap (λ b. has_shared_pages k && not b) (sym c.is_invalid.ensures ∙ c.if-is_invalid.true) ∙ and_false (has_shared_pages k))

either : (k : Class) → (k ≡ classes.Code) ⊎ (k ≡ classes.Shared) → has_shared_pages k ≡ true
either k (inl e) = ap has_shared_pages e
either k (inr e) = ap has_shared_pages e

pub returns-in-Code : goal.returns-in-Code
returns-in-Code c =
    let lib = c.args.lib.now in
    sym
    (shared_by lib c.args.m c.args.p c.requires.object c.requires.page ∙ ap (λ (k : Class). has_shared_pages k && not (is_invalid lib c.args.m c.args.p)) (sym c.class_of.ensures)
    ∙ ap (λ b. b && not (is_invalid lib c.args.m c.args.p)) (either c.class_of.result c.in-Code.is) ∙ ap not (sym c.is_invalid.ensures ∙ c.if-is_invalid.false))

pub returns-in-Private : goal.returns-in-Private
returns-in-Private c =
    let lib = c.args.lib.now in
    sym (shared_by lib c.args.m c.args.p c.requires.object c.requires.page ∙ ap (λ (k : Class). has_shared_pages k && not (is_invalid lib c.args.m c.args.p)) (sym c.class_of.ensures ∙ c.in-Private.is))
