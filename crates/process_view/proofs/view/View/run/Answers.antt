use Rattle.std.proofs.Common.{◌∙◌, List, Option, inl, map, sym, ap}
use Rattle.process_view.proofs.Words.{byte_by, Mapped, range_with_len, Refusal, residence_in, ResidenceFor, touch_refusal_by, ◌orelse◌}
use Rattle.process_view.proofs.Asking.{is_readable, readable_there, readable_bytes, run_allowed}
use Rattle.process_view.proofs.Lookups.{place_refused, span_there, never}
use Rattle.load_model.specs.Refusals as uses
use Rattle.process_view.specs.declared.purposes.Purpose.TheVariants as purposes
use Rattle.process_view.proofs.view.View.run.Goals as goal

pub returns-in_err-run-clause-run : goal.returns-in_err-run-clause-run
returns-in_err-run-clause-run c =
    let v = c.args.self.now in
    let at = c.args.place.now in
    let s = c.reached_at.result.now in
    rw c.from_residual-in_err-run.ensures
    (λ lies e.
    c.in_err-run.ensures.none lies
    (rw c.mapped.ensures (readable_there v at c.in_ok-k.k s c.reached_at.ensures (is_readable v at c.in_ok-k.k s c.in_ok-k.ensures c.reached_at.ensures (inl e)))))

pub returns-in-Some-clause-run : goal.returns-in-Some-clause-run
returns-in-Some-clause-run c = λ lies e.
    let v = c.args.self.now in
    let at = c.args.place.now in
    let s = c.reached_at.result.now in
    let span =
    span_there v uses.peek at (residence_in s) c.library.result.now c.residence_module.result c.span_refusal.result c.library.ensures
    (c.residence_module.ensures.number (residence_in s) ∙ ap (λ (r : ResidenceFor). r.«module») (c.reached_at.ensures.is (residence_in s))) c.span_refusal.ensures
    in
    absurd
    (never _ _ e
    (place_refused v purposes.Peek at c.in_ok-k.k s (sym c.is_ended.ensures ∙ c.if-is_ended.false) c.in_ok-k.ensures c.reached_at.ensures
    ∙ ap (λ (o : Option Refusal). o orelse touch_refusal_by purposes.Peek s.places at) (span ∙ c.in-Some.is)))

pub returns-in-None-clause-run : goal.returns-in-None-clause-run
returns-in-None-clause-run c =
    let v = c.args.self.now in
    let at = c.args.place.now in
    let s = c.reached_at.result.now in
    let span =
    span_there v uses.peek at (residence_in s) c.library.result.now c.residence_module.result c.span_refusal.result c.library.ensures
    (c.residence_module.ensures.number (residence_in s) ∙ ap (λ (r : ResidenceFor). r.«module») (c.reached_at.ensures.is (residence_in s))) c.span_refusal.ensures
    in
    let allowed =
    run_allowed v at c.in_ok-k.k s (sym c.is_ended.ensures ∙ c.if-is_ended.false) c.in_ok-k.ensures c.reached_at.ensures (span ∙ c.in-None.is) c.in_ok-run.ensures.mapped
    in (
      allowed,
      c.in_ok-run.ensures.bytes ∙ ap (λ (pages : List Mapped). map (byte_by s.places pages at.object) (range_with_len at.offset at.len)) c.mapped.ensures
          ∙ readable_bytes v at c.in_ok-k.k s c.in_ok-k.ensures c.reached_at.ensures (is_readable v at c.in_ok-k.k s c.in_ok-k.ensures c.reached_at.ensures (inl allowed)),
    )
