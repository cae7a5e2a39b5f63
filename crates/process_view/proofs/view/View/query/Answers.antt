use Rattle.process_view.proofs.Words.{ap, entry_spot, Err, get_or, List, nowhere, Ok, Parts, Some, sym, ℕ, ◌∙◌, ◌≡◌}
use Rattle.process_view.proofs.Asking.{query_ended, query_apart, query_spot, query_reply}
use Rattle.process_view.proofs.view.View.query.Goals as goal

pub returns-then-is_ended : goal.returns-then-is_ended
returns-then-is_ended c = query_ended c.args.self.now c.args.«module».now c.args.key.now (sym c.is_ended.ensures ∙ c.if-is_ended.true)

pub returns-in_default : goal.returns-in_default
returns-in_default c = query_apart c.args.self.now c.args.«module».now c.args.key.now (sym c.is_ended.ensures ∙ c.if-is_ended.false) c.in_default.ensures

pub returns-in-Ok : goal.returns-in-Ok
returns-in-Ok c =
    let v = c.args.self.now in
    let key = c.args.key.now in
    let r = get_or v.residences c.in-Some.k nowhere in
    let spot : entry_spot v.library r.«module» key ≡ Ok c.in-Ok.spot =
    sym (ap (λ (l : List Parts). entry_spot l r.«module» key) c.library.ensures) ∙ sym (ap (λ (m : ℕ). entry_spot c.library.result.now m key) (c.residence_module.ensures.number nowhere)) ∙ sym c.entry_spot.ensures ∙ c.in-Ok.is
    in (
      query_spot v c.args.«module».now key r (Ok c.in-Ok.spot) (sym c.is_ended.ensures ∙ c.if-is_ended.false) (c.in-Some.ensures.residence nowhere) spot,
      query_reply v c.args.«module».now key r c.in-Ok.spot c.address.result (c.in-Some.ensures.named nowhere) spot c.address.ensures,
    )

pub returns-in-Err : goal.returns-in-Err
returns-in-Err c =
    let v = c.args.self.now in
    let key = c.args.key.now in
    let r = get_or v.residences c.in-Some.k nowhere in
    let spot : entry_spot v.library r.«module» key ≡ Err c.in-Err.fault =
    sym (ap (λ (l : List Parts). entry_spot l r.«module» key) c.library.ensures) ∙ sym (ap (λ (m : ℕ). entry_spot c.library.result.now m key) (c.residence_module.ensures.number nowhere)) ∙ sym c.entry_spot.ensures ∙ c.in-Err.is
    in
    query_spot v c.args.«module».now key r (Err c.in-Err.fault) (sym c.is_ended.ensures ∙ c.if-is_ended.false) (c.in-Some.ensures.residence nowhere) spot ∙ ap (λ x. Some x) (sym c.refusal_of.ensures)
