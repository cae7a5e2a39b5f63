-- A new page stands where none did.
use Rattle.std.proofs.Common.{◌≡◌, None, ap, sym, ◌∙◌, subst}
use Rattle.std.specs.Map.{lookup}
use Rattle.write_overlay.specs.Layered.{Pages, IsMade, is_page_at, byte_laid}
use Rattle.write_overlay.proofs.Layering.{made_still, new_page, not_there}
use Rattle.write_overlay.proofs.layers.Layers.make_page.Goals as goal
use Rattle.write_overlay.proofs.layers.Layers.make_page.Goals.{in-Some-1, in-None-1}

pub returns-in_ok-insert-clause-stay : goal.returns-in_ok-insert-clause-stay
returns-in_ok-insert-clause-stay c = λ q p made.
    let Made : Pages → Type 0 = λ pages. IsMade pages q p in
    let grown : c.match-branch-3.self ≡ c.insert.new.self.entries = elim c.match-branch-3.branch [ in-Some-1 w ↦ w.self-is | in-None-1 w ↦ w.self-is ] in
    subst Made (sym grown)
    (made_still c.self.inside.pages.entries c.insert.new.self.entries c.args.object c.args.page c.in_ok-new.field-0 (λ r k. c.in_ok-insert.ensures.updates.0 (r, k)) q p
    (subst Made (sym c.self.view_is) made))

pub returns-in_ok-insert-clause-same : goal.returns-in_ok-insert-clause-same
returns-in_ok-insert-clause-same c = λ q x.
    let grown : c.match-branch-3.self ≡ c.insert.new.self.entries = elim c.match-branch-3.branch [ in-Some-1 w ↦ w.self-is | in-None-1 w ↦ w.self-is ] in
    let none : lookup (is_page_at (c.args.object, c.args.page)) c.self.inside.pages.entries ≡ None = not_there _ c.contains_key.result c.contains_key.ensures c.if-not-contains_key.true in
    ap (λ (pages : Pages). byte_laid pages q x) grown
    ∙ new_page c.self.inside.pages.entries c.insert.new.self.entries c.args.object c.args.page c.in_ok-new.field-0 (λ r k. c.in_ok-insert.ensures.updates.0 (r, k)) none c.in_ok-new.ensures q x
    ∙ ap (λ (pages : Pages). byte_laid pages q x) c.self.view_is
