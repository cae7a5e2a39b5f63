use Rattle.std.proofs.Common.{ℕ, Bool, ◌+◌, drop, sym, ap, ◌∙◌}
use Rattle.std.specs.Prelude.{◌||◌}
use Rattle.std.specs.List.{list_any}
use Rattle.omf_model.specs.Fixups.{touches}
use Rattle.omf_fix.proofs.CopiesFound.{any-next, any-none}
use Rattle.omf_fix.proofs.blocks.meets_copies.Goals as goal

pub copies-preserved : goal.copies-preserved
copies-preserved c =
    let test : ℕ → Bool = λ x. list_any (touches c.args.seg x c.args.size) c.args.parts.now.module.fixes in
    record {
      marks = c.is_on_fix.ensures.all;
      rest = ap (λ (b : Bool). b || list_any test (drop (c.copies.next + 1) c.args.copies.now)) (sym c.if-branch.false ∙ c.in_ok-is_on_fix.ensures.on) ∙ sym (any-next test c.args.copies.now c.copies.next c.copies-test.true) ∙ c.copies.invariant.rest;
    }

pub returns-clause-meets : goal.returns-clause-meets
returns-clause-meets c =
    let test : ℕ → Bool = λ x. list_any (touches c.args.seg x c.args.size) c.args.parts.now.module.fixes in
    sym (any-none test c.args.copies.now c.copies.next c.copies-test.false) ∙ c.copies.invariant.rest
