use Rattle.std.proofs.Common.{map, subst, sym, ap, ◌∙◌}
use Rattle.dump_read.specs.Taken.{State}
use Rattle.dump_read.specs.Settled.{IsPlace, TakesOne}
use Rattle.dump_read.proofs.Steps.{pieces-test, taken-one-reads, some-first, none-first}
use Rattle.dump_read.proofs.reader.Reader.one_of.Goals as goal

pub returns-in-Some-clause-one : goal.returns-in-Some-clause-one
returns-in-Some-clause-one c =
    let pieces = map (λ p. p.now) c.args.pieces.now in
    subst (λ s. TakesOne pieces c.in-Some.k c.args.self.now s) (sym c.take_one.ensures)
    (taken-one-reads pieces (pieces-test pieces c.requires) c.args.self.now c.place_of-place.result c.in-Some.k (subst (λ xs. IsPlace pieces xs c.place_of-place.result) (ap (λ (s : State). s.left) c.self.view_is) c.place_of-place.ensures) (λ p is. some-first (sym c.in-Some.is ∙ is)))

pub returns-in-None-clause-one : goal.returns-in-None-clause-one
returns-in-None-clause-one c =
    let pieces = map (λ p. p.now) c.args.pieces.now in
    subst (λ s. TakesOne pieces 0 c.args.self.now s) (sym c.take_one.ensures)
    (taken-one-reads pieces (pieces-test pieces c.requires) c.args.self.now c.place_of-place.result 0 (subst (λ xs. IsPlace pieces xs c.place_of-place.result) (ap (λ (s : State). s.left) c.self.view_is) c.place_of-place.ensures) (λ p is. none-first (sym c.in-None.is ∙ is)))
