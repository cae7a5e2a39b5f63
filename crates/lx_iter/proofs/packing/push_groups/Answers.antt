use Rattle.std.proofs.Common.{◌≡◌, ℕ, ◌/◌, ◌++◌, List, Option, length, take, sym, ap, ◌∙◌, append-nil}
use Rattle.std.proofs.lemmas.Result.{IfOk-weaker}
use Rattle.lx_model.specs.Iterated.{group_spelling, groups_spelling}
use Rattle.lx_model.specs.Packed.{groups_with}
use Rattle.lx_iter.proofs.packing.push_groups.Goals as goal

pub returns-in-Some : goal.returns-in-Some
returns-in-Some c =
    let bytes = c.args.bytes.now in
    let into = c.args.into.now.items in
    let period = c.in-Some.period in
    IfOk-weaker c.push_group.result _ _
    (λ _ pushed.
    pushed ∙ ap (λ (xs : List ℕ). into ++ xs) (sym (append-nil (group_spelling (record { times = length bytes / period; bytes = take period bytes }))))
    ∙ ap (λ (found : Option ℕ). into ++ groups_spelling (groups_with bytes found)) c.in-Some.ensures)
    c.push_group.ensures

pub returns-in-None : goal.returns-in-None
returns-in-None c =
    IfOk-weaker c.push_runs.result _ _
    (λ _ pushed. pushed ∙ ap (λ (found : Option ℕ). c.args.into.now.items ++ groups_spelling (groups_with c.args.bytes.now found)) c.in-None.ensures)
    c.push_runs.ensures
