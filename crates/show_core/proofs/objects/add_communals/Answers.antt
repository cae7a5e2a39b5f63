use Rattle.std.specs.Prelude.{count_by, List}
use Rattle.std.proofs.Common.{ap, ◌∙◌}
use Rattle.obj_types.specs.declared.symbol.Ext.{Ext}
use Rattle.show_model.specs.Lists.{is_communal}
use Rattle.show_core.proofs.Chains.{last_count}
use Rattle.show_core.proofs.objects.add_communals.Goals as goal

pub returns : goal.returns
returns c = last_count c.add.result _ _ _ _ _ (c.in_ok-lines.ensures ∙ ap (λ (xs : List Ext). count_by is_communal xs) c.as_slice.ensures) c.add.ensures
