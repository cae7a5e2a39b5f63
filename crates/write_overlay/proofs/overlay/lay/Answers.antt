-- A write to the object is laid over those before it; a write to another changes nothing.
use Rattle.std.proofs.Common.{◌≡◌, ◌<◌, ◌+◌, length, get_or, take, take_all, sym, ◌∙◌, ap, arith}
use Rattle.load_model.specs.State.{Written}
use Rattle.load_model.specs.Memory.{last_put, put_at}
use Rattle.std.specs.Prelude.{unwrap_or}
use Rattle.write_overlay.specs.Laid.{writes_to}
use Rattle.write_overlay.proofs.Overlays.{one_more, none_more, all_under}
use Rattle.write_overlay.proofs.overlay.lay.Goals as goal
use Rattle.write_overlay.proofs.overlay.lay.Goals.{then-object, else-object}

pub loop-write-preserved : goal.loop-write-preserved
loop-write-preserved c = λ k h.
    let named = sym (ap (λ (v : Written). v.object) c.write-item.is) ∙ sym c.object.ensures in
    let so_far = c.loop-write.invariant k h in
    elim c.if-object.branch [
      | then-object w ↦
          let below : k < length c.loop-write.into = omega (arith, h, c.loop-write.auto.into) in
          ap (λ xs. get_or xs k 0) w.into-is ∙ w.lay_one.ensures k below
          ∙ ap (λ (v : Written). unwrap_or (put_at (c.args.offset + k) v) (get_or c.loop-write.into k 0)) c.write-item.is
          ∙ ap (λ b. unwrap_or (put_at (c.args.offset + k) (get_or c.args.writes.now c.loop-write.write-index c.write-item.result)) b) so_far
          ∙ sym (one_more c.args.writes.now c.args.object c.loop-write.write-index c.write-item.result (c.args.offset + k) (get_or c.args.into.now k 0) c.loop-write-test.true (named ∙ w.if-object.true))
      | else-object w ↦
          ap (λ xs. get_or xs k 0) w.into-is ∙ so_far
          ∙ sym (none_more c.args.writes.now c.args.object c.loop-write.write-index c.write-item.result (c.args.offset + k) (get_or c.args.into.now k 0) c.loop-write-test.true
          (λ e. w.if-object.false (sym named ∙ e)))
    ]

pub returns : goal.returns
returns c =
    let all : take c.loop-write.write-index c.args.writes.now ≡ c.args.writes.now = take_all c.loop-write.write-index c.args.writes.now c.loop-write-test.false in
    all_under c.args.writes.now c.args.object c.args.offset c.args.into.now c.loop-write.into c.loop-write.auto.into
    (λ k h. c.loop-write.invariant k h ∙ ap (λ ws. last_put (writes_to c.args.object ws) (c.args.offset + k) (get_or c.args.into.now k 0)) all)
