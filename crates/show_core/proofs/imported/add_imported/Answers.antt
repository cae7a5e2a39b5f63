use Rattle.std.specs.Prelude.{count_by, length, List}
use Rattle.std.proofs.Common.{ap, ◌∙◌}
use Rattle.std.proofs.lemmas.List.Sorted.{length_permutation}
use Rattle.lx_types.specs.declared.fix.FixTarget.{FixTarget}
use Rattle.show_model.specs.Lists.{is_import}
use Rattle.show_core.proofs.Chains.{last_count}
use Rattle.show_core.proofs.imported.add_imported.Goals as goal

pub returns : goal.returns
returns c = last_count c.add_list.result _ _ _ _ _
    (ap (λ (xs : List FixTarget). length xs) c.as_slice.ensures.value
    ∙ length_permutation _ _ c.in_ok-sort_by_key.ensures.permutation
    ∙ c.in_ok-imports.ensures
    ∙ ap (λ (xs : List FixTarget). count_by is_import xs) c.refs.ensures)
    c.add_list.ensures
