use Rattle.process_view.proofs.Words.{address, ap, base_if, List, ReachedResidence, refl, residence_with, residences_in, sym, view_of, ℕ, ◌∙◌, ◌≡◌}
use Rattle.process_view.proofs.Asking.{address_by_residence}
use Rattle.process_view.proofs.view.View.address.Goals as goal

pub returns : goal.returns
returns c =
    let spot = c.args.spot in
    let base : c.spot_base.result ≡ base_if spot (residence_with (residences_in c.self.inside.residences.items) spot.«module») =
    c.spot_base.ensures ∙ ap (λ (ss : List ReachedResidence). base_if spot (residence_with (residences_in ss) spot.«module»)) c.deref.ensures.value
    in
    rw (← c.self.view_is) (ap (λ (b : ℕ). address b spot.offset) base ∙ sym (address_by_residence (view_of c.self.inside) spot (record { residences = refl })))
