-- What all share is laid over what was, and else all stands as it did.
use Rattle.std.proofs.Common.{◌≡◌, inl, inr, List, [], ◌∷◌, ◌++◌, sym, ap, subst}
use Rattle.lx_types.specs.declared.object.Class.{Class}
use Rattle.load_model.specs.State.{Written}
use Rattle.write_overlay.specs.Layered.{Lays}
use Rattle.residence_table.specs.TableLending.{with_beside}
use Rattle.load_core.specs.Shared.{shared_writes, AreLaid}
use Rattle.load_core.proofs.Using.{match_more, laid_at, none_more, laid_nothing}
use Rattle.load_core.proofs.bytes.put_shared.Goals as goal

pub returns-in-Shared : goal.returns-in-Shared
returns-in-Shared c = λ s is.
    let lent = c.beside_mut.result.now in
    let w = c.args.write.now in
    let L : List Written → Type 0 = λ more. AreLaid c.args.table.now (with_beside c.args.table.now c.args.place (record { rights = lent.rights; shared = lent.shared; layers = c.put.new.self })) c.args.place s more in
    match_more c.put.result (λ _. (writes : List Written) → Lays lent.layers writes → Lays c.put.new.self (writes ++ w ∷ [])) (λ _. L (shared_writes c.args.class w))
    (λ _. (writes : List Written) → Lays lent.layers writes → Lays c.put.new.self writes) (λ _. L [])
    (λ _ over. subst L (ap (λ k. shared_writes k w) (sym c.in-Shared.is)) (laid_at c.args.table.now c.args.place s lent c.put.new.self (w ∷ []) c.beside_mut.ensures.value is over))
    (λ _ same. laid_at c.args.table.now c.args.place s lent c.put.new.self [] c.beside_mut.ensures.value is (none_more lent.layers c.put.new.self same))
    c.put.ensures

pub returns-in-Code : goal.returns-in-Code
returns-in-Code c = λ s is.
    let L : List Written → Type 0 = λ more. AreLaid c.args.table.now c.args.table.now c.args.place s more in
    let W : Class → List Written = λ k. shared_writes k c.args.write.now in
    let none : [] ≡ shared_writes c.args.class c.args.write.now = elim c.in-Code.is [ inl e ↦ ap W (sym e) | inr e ↦ ap W (sym e) ] in
    subst L none (laid_nothing c.args.table.now c.args.place s is)
