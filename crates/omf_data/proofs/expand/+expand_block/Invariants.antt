use Rattle.std.proofs.Common.{◌≡◌, ◌-◌}
use Rattle.omf_data.proofs.Expanded.{data_at}
use Rattle.omf_data.proofs.expand.+expand_block.Given as goal

abbrev pub decreases-expand_block : goal.decreases-expand_block
decreases-expand_block l = l.left

abbrev pub invariant-inner : goal.invariant-inner
invariant-inner l = data_at (l.left - 1) l.wide l.more l.into.items l.fields ≡ data_at (l.left - 1) l.wide l.count l.initial.into.items l.initial.fields

abbrev pub decreases-inner : goal.decreases-inner
decreases-inner l = l.more
