-- One residence more has begun.
use Rattle.std.proofs.Common.{◌∷◌, ◌++◌, [], List, take, sym, ◌∙◌, ap, subst}
use Rattle.std.proofs.lemmas.List.{take_more}
use Rattle.load_model.specs.declared.deeds.Fresh.{Fresh}
use Rattle.load_model.specs.State.{Residence}
use Rattle.load_core.specs.Enters.{IsNew, AreNew}
use Rattle.load_core.specs.declared.residence_parts.ResidenceParts.{ResidenceParts}
use Rattle.load_core.proofs.Beginning.{new_more}
use Rattle.load_core.proofs.board.Board.new_residences.Goals as goal

pub loop-one-preserved : goal.loop-one-preserved
loop-one-preserved c =
    let all = c.args.fresh.now in
    let F : List Fresh → Type 0 = λ fs. AreNew c.args.self.now all fs c.push.new.self.items in
    let S : List (Residence × ResidenceParts) → Type 0 = λ ss. AreNew c.args.self.now all (take c.loop-one.one-index all ++ c.one-item.result ∷ []) ss in
    let N : List Fresh → Type 0 = λ fs. IsNew c.args.self.now fs c.one-item.result c.in_ok-begun.field-0 in
    let more = take_more all c.loop-one.one-index c.one-item.result c.loop-one-test.true ∙ ap (λ (f : Fresh). take c.loop-one.one-index all ++ f ∷ []) (sym c.one-item.is) in
    subst F (sym more)
    (subst S (sym c.in_ok-push.ensures.items)
    (new_more c.args.self.now all (take c.loop-one.one-index all) c.loop-one.rows.items c.one-item.result c.in_ok-begun.field-0 c.loop-one.invariant (subst N c.in_ok-with.ensures.fresh c.in_ok-begun.ensures)))
