-- What of a write stands over the bytes takes their place; where nothing does, they stay.
use Rattle.std.proofs.Common.{◌≡◌, ◌≤◌, ◌-◌, inl, inr, length, get_or, ◌∙◌, ap, arith}
use Rattle.std.specs.Prelude.{◌⊎◌}
use Rattle.write_overlay.proofs.Overlays.{laid_over, laid_out}
use Rattle.write_overlay.proofs.overlay.lay_one.Goals as goal
use Rattle.write_overlay.proofs.overlay.lay_one.Goals.{else-skipped-run-via-then-skipped-run+else-place-into, else-skipped-run-via-else-skipped-run}

pub returns-then-place-into : goal.returns-then-place-into
returns-then-place-into c = λ k h.
    let skips : c.saturating_sub-skipped.result ≡ c.args.offset - c.args.write.now.offset = c.saturating_sub-skipped.ensures ∙ ap (λ n. c.args.offset - n) c.offset.ensures in
    let stands : c.saturating_sub-place.result ≡ c.args.write.now.offset - c.args.offset = c.saturating_sub-place.ensures ∙ ap (λ n. n - c.args.offset) c.offset-2.ensures in
    laid_over c.args.write.now c.args.offset k c.saturating_sub-skipped.result c.saturating_sub-place.result c.min-len.result c.bytes-run.result.now c.args.into.now c.replace.new.into
    c.bytes-run.ensures skips stands c.min-len.ensures c.if-skipped-run.true c.if-place-into.true h (c.replace.ensures k)

pub returns-else-skipped-run : goal.returns-else-skipped-run
returns-else-skipped-run c = λ k h.
    let skips : c.saturating_sub-skipped.result ≡ c.args.offset - c.args.write.now.offset = c.saturating_sub-skipped.ensures ∙ ap (λ n. c.args.offset - n) c.offset.ensures in
    let stands : c.saturating_sub-place.result ≡ c.args.write.now.offset - c.args.offset = c.saturating_sub-place.ensures ∙ ap (λ n. n - c.args.offset) c.offset-2.ensures in
    let long = ap length c.bytes-run.ensures in
    let none : (length c.args.write.now.bytes ≤ c.args.offset - c.args.write.now.offset) ⊎ (length c.args.into.now ≤ c.args.write.now.offset - c.args.offset) = elim c.else-skipped-run.branch [
      | else-skipped-run-via-then-skipped-run+else-place-into w ↦ inr (let out = w.if-place-into.false in omega (arith, out, stands))
      | else-skipped-run-via-else-skipped-run w ↦ inl (let out = w.if-skipped-run.false in omega (arith, out, skips, long))
    ]
    in
    laid_out c.args.write.now.offset c.args.offset (length c.args.into.now) k c.args.write.now.bytes (get_or c.args.into.now k 0) h none
