use Rattle.std.proofs.Common.{◌∙◌, sym}
use Rattle.comdat_core.proofs.ChosenNumbers.{numbers_stay_at, numbers_put_at}
use Rattle.comdat_core.proofs.judging.numbers_of.Goals as goal
use Rattle.comdat_core.proofs.judging.numbers_of.Goals.{then-not-contains_key+in_ok-count+in_ok-_none, else-not-contains_key}

pub loop-index-preserved : goal.loop-index-preserved
loop-index-preserved c =
    elim c.if-not-contains_key.branch [
      | then-not-contains_key+in_ok-count+in_ok-_none w ↦
          numbers_put_at c.args.input.now c.args.picks.now c.loop-index.index c.in_ok-place.place w.in_ok-count.field-0 _ c.loop-index.numbers w.insert.new.self c.if-not-contains_key.numbers c.loop-index-test.true c.in_ok-place.ensures c.loop-index.invariant
          (sym c.contains_key.ensures ∙ w.if-not-contains_key.true) w.in_ok-count.ensures w.in_ok-_none.ensures.updates.0 w.numbers-is
      | else-not-contains_key w ↦
          numbers_stay_at c.args.input.now c.args.picks.now c.loop-index.index c.in_ok-place.place _ c.loop-index.numbers c.if-not-contains_key.numbers c.loop-index-test.true c.in_ok-place.ensures c.loop-index.invariant
          (sym c.contains_key.ensures ∙ w.if-not-contains_key.false) w.numbers-is
    ]
