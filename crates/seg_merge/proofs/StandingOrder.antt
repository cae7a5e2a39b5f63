-- The order in which the logical segments of a link stand, by their numbers.
use Rattle.std.specs.Prelude.{◌≡◌, ℕ, ◌-◌, ◌≤◌, List, [], ◌∷◌, ◌++◌, Some, map, length, slice_get, if◌then◌else◌}
use Rattle.std.specs.List.{concat, range_with_len}
use Rattle.std.proofs.Common.{ap, sym, ◌∙◌, arith}
use Rattle.std.proofs.lemmas.List.{length-append}
use Rattle.link_model.specs.Link.{Link}
use Rattle.link_model.specs.Parts.{Part}
use Rattle.link_model.specs.Communals.{parts}
use Rattle.link_model.specs.Order.{own_stack, own_stacks, segments, ordered}
use Rattle.seg_parts.specs.Communals.{wants_stack}
use Rattle.seg_parts.specs.LogicalSegments.{heads_of}
use Rattle.seg_parts.specs.Order.{gathered, class_numbers, class_count}
use Rattle.seg_parts.proofs.ClassOrder.{classes_in_order}
use Rattle.seg_parts.proofs.StepsAreRules.{steps_of_links}
use Rattle.seg_merge.specs.Ordered.{all_parts}
use Rattle.seg_merge.proofs.OwnStackLast.{heads-are, order-is}

module _ (l : Link) (plain all : List Part) (plain_is : plain ≡ parts l) (all_is : all ≡ plain ++ (if wants_stack l.def.kind plain then own_stack ∷ [] else [])) where
  pub all-are : all ≡ all_parts l
  all-are = all_is ∙ ap (λ (ps : List Part). ps ++ (if wants_stack l.def.kind ps then own_stack ∷ [] else [])) plain_is

  heads : heads_of all ≡ segments l ++ own_stacks l
  heads = ap heads_of all-are ∙ heads-are l

  before : length (heads_of plain) ≡ length (segments l)
  before = ap (λ (ps : List Part). length (heads_of ps)) plain_is

  pub no-fewer : length (heads_of plain) ≤ length (heads_of all)
  no-fewer = omega (arith, before, ap length heads, length-append (segments l) (own_stacks l))

  pub standing-order : (order : List ℕ) →
      order ≡ concat (gathered (class_numbers (heads_of plain)) (class_count (heads_of plain))) ++ range_with_len (length (heads_of plain)) (length (heads_of all) - length (heads_of plain)) →
      map (slice_get (heads_of all)) order ≡ map (λ (s : Part). Some s) (ordered l)
  standing-order order order_is =
      let classes : List Part → List ℕ = λ ss. concat (gathered (class_numbers ss) (class_count ss)) in
      let after : length (heads_of all) - length (heads_of plain) ≡ length (own_stacks l) = omega (arith, before, ap length heads, length-append (segments l) (own_stacks l)) in
      ap (λ (t : List ℕ). map (slice_get (heads_of all)) t) order_is
      ∙ ap (λ (hs : List Part). map (slice_get hs) (classes (heads_of plain) ++ range_with_len (length (heads_of plain)) (length (heads_of all) - length (heads_of plain)))) heads
      ∙ ap (λ (ps : List Part). map (slice_get (segments l ++ own_stacks l)) (classes (heads_of ps) ++ range_with_len (length (heads_of plain)) (length (heads_of all) - length (heads_of plain)))) plain_is
      ∙ ap (λ (n : ℕ). map (slice_get (segments l ++ own_stacks l)) (classes (segments l) ++ range_with_len n (length (heads_of all) - length (heads_of plain)))) before
      ∙ ap (λ (n : ℕ). map (slice_get (segments l ++ own_stacks l)) (classes (segments l) ++ range_with_len (length (segments l)) n)) after
      ∙ order-is l (classes (segments l)) (classes_in_order (segments l) ∙ ap (map (λ (s : Part). Some s)) (sym (steps_of_links l).by_class_is))

-- The numbers by class, and after them the others.
pub order-by : (plain all hs : List Part) (first order : List ℕ) (from to : ℕ) → hs ≡ heads_of plain → first ≡ concat (gathered (class_numbers hs) (class_count hs)) → order ≡ first ++ range_with_len from (to - from) →
    from ≡ length (heads_of plain) → to ≡ length (heads_of all) →
    order ≡ concat (gathered (class_numbers (heads_of plain)) (class_count (heads_of plain))) ++ range_with_len (length (heads_of plain)) (length (heads_of all) - length (heads_of plain))
order-by plain all hs first order from to hs_are first_is order_is from_is to_is =
    let classes : List Part → List ℕ = λ ss. concat (gathered (class_numbers ss) (class_count ss)) in
    order_is ∙ ap (λ (t : List ℕ). t ++ range_with_len from (to - from)) (first_is ∙ ap classes hs_are)
    ∙ ap (λ (n : ℕ). classes (heads_of plain) ++ range_with_len n (to - n)) from_is
    ∙ ap (λ (n : ℕ). classes (heads_of plain) ++ range_with_len (length (heads_of plain)) (n - length (heads_of plain))) to_is
