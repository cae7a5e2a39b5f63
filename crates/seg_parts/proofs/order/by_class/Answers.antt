use Rattle.std.proofs.Common.{◌∙◌, ◌<◌, sym, map, subst, bytes_eq, List, ℕ}
use Rattle.std.specs.List.{All}
use Rattle.std.specs.Cmp.Lexicographic.{nat_list_eq_equiv}
use Rattle.seg_parts.specs.Parts.{shown}
use Rattle.seg_parts.specs.Order.{class_numbers, class_count}
use Rattle.seg_parts.proofs.Tables.{places-below}
use Rattle.seg_parts.proofs.order.by_class.Goals as goal

pub gathered-requires : goal.gathered-requires
gathered-requires c =
    let below : All (λ n. n < class_count (map shown c.args.heads.now)) (class_numbers (map shown c.args.heads.now)) =
    places-below bytes_eq nat_list_eq_equiv (map (λ s. s.class) (map shown c.args.heads.now)) in
    subst (λ (ns : List ℕ). All (λ n. n < c.in_ok-classes.classes.count) ns) (sym (c.as_slice.ensures.value ∙ c.in_ok-classes.ensures.numbers))
    (subst (λ (k : ℕ). All (λ n. n < k) (class_numbers (map shown c.args.heads.now))) (sym c.in_ok-classes.ensures.count) below)
