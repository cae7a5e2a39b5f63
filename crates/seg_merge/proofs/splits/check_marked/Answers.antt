use Rattle.std.proofs.Common.{sym, subst, map, length, ℕ, List, Option, Bool}
use Rattle.std.proofs.lemmas.List.{length-map}
use Rattle.seg_merge.specs.Splits.{with_flags, split_group, marked_group, HaveFlags, AreSplit}
use Rattle.seg_merge.proofs.SplitMarks.{split-is, answers-moved}
use Rattle.seg_merge.proofs.splits.check_marked.Goals as goal

pub returns : goal.returns
returns c =
    let names = map (λ n. n.now) c.args.names.now in
    let qs = with_flags (map (λ v. v.items) c.args.lists.now) c.args.flags.now in
    let known : List (Option ℕ) = c.as_slice.result.now in
    let flags : HaveFlags (length names) qs known =
    subst (λ (k : List (Option ℕ)). HaveFlags (length names) qs k) (sym c.as_slice.ensures.value)
    (subst (λ (n : ℕ). HaveFlags n qs c.in_ok-known.known.items) (sym (length-map c.args.names.now (λ n. n.now))) c.in_ok-known.ensures) in
    let split : AreSplit (length known) known qs c.as_slice-2.result.now =
    subst (λ (t : List Bool). AreSplit (length known) known qs t) (sym c.as_slice-2.ensures.value) c.in_ok-split.ensures in
    answers-moved c.check_marks.result (marked_group names c.as_slice-2.result.now) (split_group names qs) (split-is names qs known c.as_slice-2.result.now flags split) c.check_marks.ensures
