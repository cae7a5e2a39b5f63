use Rattle.std.proofs.Common.{◌∙◌, ap, sym, subst, map, List, ℕ}
use Rattle.link_model.specs.Groups.{group_names, in_group}
use Rattle.link_model.specs.Flags.{flags_of}
use Rattle.link_model.specs.Order.{segments}
use Rattle.link_model.specs.LayoutRefusals.{group_split}
use Rattle.seg_merge.specs.Membership.{AreGroupsOf}
use Rattle.seg_merge.specs.Splits.{with_flags, split_group}
use Rattle.seg_merge.proofs.SplitMarks.{answers-moved}
use Rattle.seg_merge.proofs.HeadsStand.{group-split-is}
use Rattle.seg_merge.proofs.splits.check_groups.Goals as goal

pub returns : goal.returns
returns c = λ l names groups flags one_use.
    let lists : List (List ℕ) = map (λ v. v.items) c.args.lists.now in
    let are : AreGroupsOf (in_group l) (group_names l) (segments l) lists = subst (λ (t : List (List ℕ)). AreGroupsOf (in_group l) t (segments l) lists) (sym names) groups in
    answers-moved c.check_marked.result (split_group (map (λ n. n.now) c.names.result.now) (with_flags lists c.args.flags.now)) (group_split l)
    (group-split-is l lists are one_use ∙ ap (λ (t : List (List ℕ)). split_group t (with_flags lists (map (flags_of l) (segments l)))) (names ∙ sym c.names.ensures) ∙ ap (λ (t : List ℕ). split_group (map (λ n. n.now) c.names.result.now) (with_flags lists t)) (sym flags))
    c.check_marked.ensures
