use Rattle.process_view.proofs.Words.{ap, base_if, base_of, Bases, ReachedResidence, residence_in, sym, ℕ, ◌∙◌, ◌≡◌}
use Rattle.process_view.proofs.Asking.{residence_at, no_residence}
use Rattle.process_view.proofs.reading.spot_base.Goals as goal

pub returns-in-Some : goal.returns-in-Some
returns-in-Some c =
    let spot = c.args.spot in
    let s = c.index-residences-k.result in
    let at = c.index-residences-k.is in
    let bases : c.bases.result.now ≡ (residence_in s).bases = c.bases.ensures ∙ ap (λ (t : ReachedResidence). (residence_in t).bases) (sym at) in
    let number : c.module.result ≡ (residence_in s).«module» = c.module.ensures.number ∙ ap (λ (t : ReachedResidence). (residence_in t).«module») (sym at) in
    c.base.ensures ∙ ap (λ (b : Bases). base_of b c.module.result spot.object) bases ∙ ap (λ (m : ℕ). base_of (residence_in s).bases m spot.object) number
    ∙ ap (base_if spot) (sym (residence_at c.args.residences.now spot.«module» c.in-Some.k s (sym c.residence_place.ensures ∙ c.in-Some.is) at))

pub returns-in-None : goal.returns-in-None
returns-in-None c = ap (base_if c.args.spot) (sym (no_residence c.args.residences.now c.args.spot.«module» (sym c.residence_place.ensures ∙ c.in-None.is)))
