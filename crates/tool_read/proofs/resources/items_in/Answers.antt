use Rattle.std.proofs.Common.{ℕ, List, ◌≤◌, length, subst, sym}
use Rattle.std.specs.List.{sum_by}
use Rattle.res_model.specs.declared.item.ResItem.{ResItem}
use Rattle.answer_model.specs.Loading.{file_limit}
use Rattle.tool_read.proofs.Items.{small}
use Rattle.tool_read.proofs.resources.items_in.Goals as goal

pub returns-in-Ok-clause-small : goal.returns-in-Ok-clause-small
returns-in-Ok-clause-small c =
    let P : List ResItem → Type 0 = λ items. sum_by (λ i. length i.bytes) items ≤ file_limit in
    subst P (sym c.from_vec.ensures) (small c.args.bytes.now c.in-Ok.items.items file_limit c.in-Ok.ensures c.requires)
