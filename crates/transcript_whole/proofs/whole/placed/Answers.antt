use Rattle.std.proofs.Common.{length, get_or, sym, ◌∙◌, ap, arith}
use Rattle.transcript_whole.specs.Drafts.{with_place}
use Rattle.transcript_whole.proofs.InPlace.{over_next}
use Rattle.transcript_whole.proofs.whole.placed.Goals as goal

pub loop-entry-preserved : goal.loop-entry-preserved
loop-entry-preserved c =
    over_next (with_place c.args.steady.now) c.args.history.items c.loop-entry.entry-items c.loop-entry.entry-index c.entry-item.result _ c.loop-entry.invariant
    (omega (arith, c.loop-entry.auto.entry-items, ap length c.deref_mut-entry-items.ensures.value)) c.entry-item.is
    ((λ i. record { pid = c.place_among-entry.ensures i; deed = (get_or c.loop-entry.entry-items c.loop-entry.entry-index c.entry-item.result).deed })
    ∙ ap (with_place c.args.steady.now) (sym c.entry-item.is))
