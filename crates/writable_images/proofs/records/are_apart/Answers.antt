use Rattle.std.proofs.Common.{refl, subst, ◌∙◌}
use Rattle.std.proofs.lemmas.List.{take_all}
use Rattle.std.specs.Prelude.{AllPairs}
use Rattle.std.proofs.lemmas.Bool.{false≢true}
use Rattle.lx_fixrec.specs.Writable.{AreApart}
use Rattle.writable_images.proofs.SourcesApart.{marks_none, pairs_none, marks_more, apart_more, not_apart}
use Rattle.writable_images.proofs.records.are_apart.Goals as goal

pub loop-fix-init : goal.loop-fix-init
loop-fix-init c = record { room = refl; marks = marks_none 4106; apart = pairs_none }

pub returns-then-not-is_free : goal.returns-then-not-is_free
returns-then-not-is_free c = (
  λ e. absurd (false≢true e),
  not_apart c.loop-fix.taken c.args.fixes.now c.loop-fix.fix-index _ _ _ _ c.is_free.result c.loop-fix-test.true refl c.first_byte-first.ensures.value c.source_size-size.ensures c.requires
      c.loop-fix.invariant.room c.loop-fix.invariant.marks c.if-not-is_free.true c.is_free.ensures.1,
)

pub loop-fix-preserved : goal.loop-fix-preserved
loop-fix-preserved c = record {
  room = c.take.auto.taken ∙ c.loop-fix.invariant.room;
  marks = marks_more c.loop-fix.taken c.take.new.taken c.args.fixes.now c.loop-fix.fix-index _ _ _ _ c.loop-fix-test.true refl c.first_byte-first.ensures.value c.source_size-size.ensures
      c.take.auto.taken c.take.ensures c.loop-fix.invariant.marks;
  apart = apart_more c.loop-fix.taken c.args.fixes.now c.loop-fix.fix-index _ _ _ _ c.loop-fix-test.true refl c.first_byte-first.ensures.value c.source_size-size.ensures c.requires
      c.loop-fix.invariant.room c.loop-fix.invariant.marks (c.is_free.ensures.0 c.if-not-is_free.false) c.loop-fix.invariant.apart;
}

pub returns : goal.returns
returns c = (
  λ _. subst (AllPairs AreApart) (take_all c.loop-fix.fix-index c.args.fixes.now c.loop-fix-test.false) c.loop-fix.invariant.apart,
  λ _. refl,
)
