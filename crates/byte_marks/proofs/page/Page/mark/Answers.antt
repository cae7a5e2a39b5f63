use Rattle.std.proofs.Common.{◌≡◌, ℕ, ◌-◌, ◌*◌, ◌/◌, ◌%◌, Bool, ◌||◌, ap, ◌∙◌, arith}
use Rattle.std.specs.Prelude.{◌&&◌, ◌==◌}
use Rattle.byte_marks.specs.Bits.{is_from, is_set}
use Rattle.byte_marks.proofs.Tests.{or_assoc, run-of_words}
use Rattle.byte_marks.proofs.Words.{word-marked}
use Rattle.byte_marks.proofs.page.Page.mark.Goals as goal

pub words-preserved : goal.words-preserved
words-preserved c =
    let at = c.words.at in
    let end = c.min-end.result in
    let k = at / 64 in
    let word = λ (x : ℕ). x / 64 == k && is_from (at - k * 64) (end - k * 64) (x % 64) in
    record {
      ahead = omega (arith, c.min-end.ensures);
      within = omega (arith, c.min-end.ensures);
      marked = λ x.
          word-marked c.words.self.words k (at - k * 64) (end - k * 64) c.with_all.result (omega arith) c.with_all.ensures x
          ∙ ap (λ (b : Bool). b || word x) (c.words.invariant.marked x) ∙ or_assoc (is_set c.args.self.now.words x) (is_from c.args.from at x) (word x)
          ∙ ap (λ (b : Bool). is_set c.args.self.now.words x || b) (run-of_words c.args.from at end x c.words.invariant.ahead (omega (arith, c.min-end.ensures)) (omega (arith, c.min-end.ensures)));
    }
