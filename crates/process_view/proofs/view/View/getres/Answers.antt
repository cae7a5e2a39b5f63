use Rattle.process_view.proofs.Words.{ap, get_or, List, None, nowhere, Parts, resource_of, Some, sym, ℕ, ◌∙◌, ◌≡◌}
use Rattle.process_view.proofs.Asking.{getres_ended, getres_apart, getres_found, getres_reply}
use Rattle.process_view.proofs.view.View.getres.Goals as goal

pub returns-then-is_ended : goal.returns-then-is_ended
returns-then-is_ended c = getres_ended c.args.self.now c.args.«module».now c.args.ty c.args.id (sym c.is_ended.ensures ∙ c.if-is_ended.true)

pub returns-in_default : goal.returns-in_default
returns-in_default c = getres_apart c.args.self.now c.args.«module».now c.args.ty c.args.id (sym c.is_ended.ensures ∙ c.if-is_ended.false) c.in_default.ensures

pub returns-in-Some-resource_of : goal.returns-in-Some-resource_of
returns-in-Some-resource_of c =
    let v = c.args.self.now in
    let r = get_or v.residences c.in-Some.k nowhere in
    let spot : resource_of v.library r.«module» c.args.ty c.args.id ≡ Some c.in-Some-resource_of.spot =
    sym (ap (λ (l : List Parts). resource_of l r.«module» c.args.ty c.args.id) c.library.ensures)
    ∙ sym (ap (λ (m : ℕ). resource_of c.library.result.now m c.args.ty c.args.id) (c.residence_module.ensures.number nowhere)) ∙ sym c.resource_of.ensures ∙ c.in-Some-resource_of.is
    in (
      getres_found v c.args.«module».now c.args.ty c.args.id r (Some c.in-Some-resource_of.spot) (sym c.is_ended.ensures ∙ c.if-is_ended.false) (c.in-Some.ensures.residence nowhere) spot,
      getres_reply v c.args.«module».now c.args.ty c.args.id r c.in-Some-resource_of.spot (c.in-Some.ensures.named nowhere) spot,
    )

pub returns-in-None : goal.returns-in-None
returns-in-None c =
    let v = c.args.self.now in
    let r = get_or v.residences c.in-Some.k nowhere in
    let spot : resource_of v.library r.«module» c.args.ty c.args.id ≡ None =
    sym (ap (λ (l : List Parts). resource_of l r.«module» c.args.ty c.args.id) c.library.ensures)
    ∙ sym (ap (λ (m : ℕ). resource_of c.library.result.now m c.args.ty c.args.id) (c.residence_module.ensures.number nowhere)) ∙ sym c.resource_of.ensures ∙ c.in-None.is
    in
    getres_found v c.args.«module».now c.args.ty c.args.id r None (sym c.is_ended.ensures ∙ c.if-is_ended.false) (c.in-Some.ensures.residence nowhere) spot
