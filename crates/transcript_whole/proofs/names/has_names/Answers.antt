use Rattle.std.proofs.Common.{ℕ, List, ◌∙◌, ap, subst, arith, below_more}
use Rattle.std.specs.List.{AllByRecursion}
use Rattle.check_model.specs.Told.{IsByte}
use Rattle.transcript_whole.proofs.LibraryNames.{names_apart}
use Rattle.transcript_whole.proofs.names.has_names.Goals as goal

pub loop-m-preserved : goal.loop-m-preserved
loop-m-preserved c =
    below_more _ _ c.loop-m.invariant
    (subst (λ (xs : List ℕ). AllByRecursion IsByte xs) (c.bytes.ensures.same ∙ c.name.ensures ∙ ap (λ m. m.name) c.module.ensures) c.are_bytes.ensures)

pub returns : goal.returns
returns c = record {
  bytes = λ m lt. c.loop-m.invariant m (omega (arith, lt, c.len-m-end.ensures.count, c.loop-m.auto.m-end, c.loop-m-test.false));
  apart = names_apart c.args.lib.now c.len-m-end.ensures.library;
}
