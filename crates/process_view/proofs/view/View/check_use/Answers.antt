use Rattle.std.proofs.Common.{◌∙◌, Option, get_or, sym, ap}
use Rattle.process_view.proofs.Words.{nowhere, purpose_of, Refusal, residence_in, ResidenceFor, seen_process, touch_refusal, touch_refusal_by, ◌orelse◌}
use Rattle.process_view.proofs.Lookups.{place_by_residence, place_refused, span_there}
use Rattle.process_view.proofs.view.View.check_use.Goals as goal

pub returns-in-Some-outside : goal.returns-in-Some-outside
returns-in-Some-outside c =
    let v = c.args.self.now in
    let at = c.args.place.now in
    let purpose = purpose_of c.args.purpose in
    let r = get_or v.residences c.in-Some.k nowhere in
    let span = span_there v purpose at r c.library.result.now c.residence_module.result c.span_refusal-outside.result c.library.ensures (c.residence_module.ensures.number nowhere) c.span_refusal-outside.ensures in
    place_by_residence v purpose at r (sym c.is_ended.ensures ∙ c.if-is_ended.false) (c.in-Some.ensures.residence nowhere)
    ∙ ap (λ (o : Option Refusal). o orelse touch_refusal purpose (seen_process v.holding) r.serial at.object at.offset at.len) (span ∙ c.in-Some-outside.is)

pub returns-in-Some-touch_refusal : goal.returns-in-Some-touch_refusal
returns-in-Some-touch_refusal c =
    let v = c.args.self.now in
    let at = c.args.place.now in
    let purpose = purpose_of c.args.purpose in
    let s = c.reached_at.result.now in
    let span =
    span_there v purpose at (residence_in s) c.library.result.now c.residence_module.result c.span_refusal-outside.result c.library.ensures
    (c.residence_module.ensures.number (residence_in s) ∙ ap (λ (r : ResidenceFor). r.«module») (c.reached_at.ensures.is (residence_in s))) c.span_refusal-outside.ensures
    in
    place_refused v c.args.purpose at c.in-Some.k s (sym c.is_ended.ensures ∙ c.if-is_ended.false) c.in-Some.ensures c.reached_at.ensures
    ∙ ap (λ (o : Option Refusal). o orelse touch_refusal_by c.args.purpose s.places at) (span ∙ c.in_default-outside.is) ∙ sym c.touch_refusal.ensures ∙ c.in-Some-touch_refusal.is

pub returns : goal.returns
returns c =
    let v = c.args.self.now in
    let at = c.args.place.now in
    let purpose = purpose_of c.args.purpose in
    let s = c.reached_at.result.now in
    let span =
    span_there v purpose at (residence_in s) c.library.result.now c.residence_module.result c.span_refusal-outside.result c.library.ensures
    (c.residence_module.ensures.number (residence_in s) ∙ ap (λ (r : ResidenceFor). r.«module») (c.reached_at.ensures.is (residence_in s))) c.span_refusal-outside.ensures
    in (
      place_refused v c.args.purpose at c.in-Some.k s (sym c.is_ended.ensures ∙ c.if-is_ended.false) c.in-Some.ensures c.reached_at.ensures
          ∙ ap (λ (o : Option Refusal). o orelse touch_refusal_by c.args.purpose s.places at) (span ∙ c.in_default-outside.is) ∙ sym c.touch_refusal.ensures ∙ c.in_default-touch_refusal.is,
      c.in-Some.ensures,
    )
