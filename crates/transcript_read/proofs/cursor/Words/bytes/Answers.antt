use Rattle.std.proofs.Common.{refl, sym, ◌∙◌, subst}
use Rattle.std.specs.List.{AllByRecursion}
use Rattle.lx_types.specs.Escaped.{hex_byte}
use Rattle.session_model.specs.Text.{bytes_words}
use Rattle.check_model.specs.Told.{IsByte}
use Rattle.transcript_read.specs.Words.{left_of}
use Rattle.transcript_read.specs.Taken.{SoFar, TakesAll}
use Rattle.transcript_read.proofs.Chain.{nothing_left, one_item, so_far_none}
use Rattle.transcript_read.proofs.Steps.{smaller}
use Rattle.transcript_read.proofs.cursor.Words.bytes.Goals as goal

pub loop-all-init : goal.loop-all-init
loop-all-init c =
    subst (λ xs. SoFar bytes_words IsByte xs (left_of c.args.self.now) (left_of c.args.self.now)) (sym c.new-all.ensures.items) (so_far_none bytes_words IsByte (left_of c.args.self.now))

pub loop-all-smaller : goal.loop-all-smaller
loop-all-smaller c =
    smaller hex_byte IsByte c.byte.result (left_of c.loop-all.self) (left_of c.byte.new.self) (sym c.are_left.ensures ∙ c.loop-all-test.true) c.byte.ensures

pub loop-all-preserved : goal.loop-all-preserved
loop-all-preserved c =
    subst (λ xs. SoFar bytes_words IsByte xs (left_of c.args.self.now) (left_of c.byte.new.self)) (sym c.in_ok-push.ensures.items)
    (one_item hex_byte bytes_words IsByte c.byte.result c.loop-all.all.items (left_of c.args.self.now) (left_of c.loop-all.self) (left_of c.byte.new.self) refl (λ x xs. refl)
    (sym c.are_left.ensures ∙ c.loop-all-test.true) c.byte.ensures c.loop-all.invariant)

pub returns : goal.returns
returns c =
    subst (λ xs. TakesAll bytes_words (AllByRecursion IsByte) xs (left_of c.args.self.now) (left_of c.loop-all.self)) (sym c.from_vec.ensures)
    (nothing_left bytes_words IsByte c.loop-all.all.items (left_of c.args.self.now) (left_of c.loop-all.self) refl (sym c.are_left.ensures ∙ c.loop-all-test.false) c.loop-all.invariant)
