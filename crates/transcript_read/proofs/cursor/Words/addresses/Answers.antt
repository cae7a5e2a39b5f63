use Rattle.std.proofs.Common.{refl, sym, ◌∙◌, map, subst}
use Rattle.std.specs.List.{AllByRecursion}
use Rattle.lx_types.specs.Escaped.{hex_address}
use Rattle.check_model.specs.Told.{Has32}
use Rattle.transcript_read.specs.Words.{left_of}
use Rattle.transcript_read.specs.Taken.{SoFar, TakesAll}
use Rattle.transcript_read.proofs.Chain.{nothing_left, one_item, so_far_none}
use Rattle.transcript_read.proofs.Steps.{smaller}
use Rattle.transcript_read.proofs.cursor.Words.addresses.Goals as goal

pub loop-all-init : goal.loop-all-init
loop-all-init c =
    subst (λ xs. SoFar (λ xs. map hex_address xs) Has32 xs (left_of c.args.self.now) (left_of c.args.self.now)) (sym c.new-all.ensures.items) (so_far_none (λ xs. map hex_address xs) Has32 (left_of c.args.self.now))

pub loop-all-smaller : goal.loop-all-smaller
loop-all-smaller c =
    smaller hex_address Has32 c.address.result (left_of c.loop-all.self) (left_of c.address.new.self) (sym c.are_left.ensures ∙ c.loop-all-test.true) c.address.ensures

pub loop-all-preserved : goal.loop-all-preserved
loop-all-preserved c =
    subst (λ xs. SoFar (λ xs. map hex_address xs) Has32 xs (left_of c.args.self.now) (left_of c.address.new.self)) (sym c.in_ok-push.ensures.items)
    (one_item hex_address (λ xs. map hex_address xs) Has32 c.address.result c.loop-all.all.items (left_of c.args.self.now) (left_of c.loop-all.self) (left_of c.address.new.self) refl (λ x xs. refl)
    (sym c.are_left.ensures ∙ c.loop-all-test.true) c.address.ensures c.loop-all.invariant)

pub returns : goal.returns
returns c =
    subst (λ xs. TakesAll (λ xs. map hex_address xs) (AllByRecursion Has32) xs (left_of c.args.self.now) (left_of c.loop-all.self)) (sym c.from_vec.ensures)
    (nothing_left (λ xs. map hex_address xs) Has32 c.loop-all.all.items (left_of c.args.self.now) (left_of c.loop-all.self) refl (sym c.are_left.ensures ∙ c.loop-all-test.false) c.loop-all.invariant)
