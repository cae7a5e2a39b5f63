-- The first logical segment that has a stack.
use Rattle.std.specs.Prelude.{◌≡◌, ℕ, Bool, true, false, cond, nat_lt, List, [], ◌∷◌, Option, Some, None, map, length, find, refl}
use Rattle.std.specs.List.{list_any, position, position_or_len}
use Rattle.std.specs.Option.{option_map}
use Rattle.std.proofs.Common.{ap, sym, ◌∙◌}
use Rattle.std.proofs.lemmas.List.{length-map}
use Rattle.link_model.specs.Parts.{is_stack}
use Rattle.seg_parts.specs.Parts.{shown}
use Rattle.seg_parts.proofs.Lists.{any_mapped}
use Rattle.seg_merge.specs.declared.ordered.OrderedSegment.{OrderedSegment}
use Rattle.seg_merge.specs.Ordered.{Ordered, ordered_shown}
use Rattle.seg_merge.specs.Laid.{has_stack}
use Rattle.seg_merge.proofs.RowsOfLinks.{same-place}

abbrev pub any_stack : OrderedSegment → Bool
any_stack o = list_any (λ p. is_stack (shown p)) o.parts.now

found_by : (o : OrderedSegment) (b c : Bool) (r : Option OrderedSegment) (s : Option Ordered) → b ≡ c → option_map ordered_shown r ≡ s → option_map ordered_shown (cond b (Some o) r) ≡ cond c (Some (ordered_shown o)) s
found_by o true c r s e f = ap (λ (t : Bool). cond t (Some (ordered_shown o)) s) e
found_by o false c r s e f = f ∙ ap (λ (t : Bool). cond t (Some (ordered_shown o)) s) e

pub stack-found : (os : List OrderedSegment) → option_map ordered_shown (find any_stack os) ≡ find has_stack (map ordered_shown os)
stack-found [] = refl
stack-found (o ∷ os) =
    found_by o (any_stack o) (has_stack (ordered_shown o)) (find any_stack os) (find has_stack (map ordered_shown os)) (any_mapped is_stack shown o.parts.now) (stack-found os)

tests : (os : List OrderedSegment) → map any_stack os ≡ map has_stack (map ordered_shown os)
tests [] = refl
tests (o ∷ os) =
    ap (λ (b : Bool). b ∷ map any_stack os) (any_mapped is_stack shown o.parts.now) ∙ ap (λ (t : List Bool). has_stack (ordered_shown o) ∷ t) (tests os)

pub stack-position : (os : List OrderedSegment) → position any_stack os ≡ position has_stack (map ordered_shown os)
stack-position os =
    ap (λ (n : ℕ). cond (nat_lt n (length os)) (Some n) None) (same-place any_stack has_stack os (map ordered_shown os) (tests os))
    ∙ ap (λ (n : ℕ). cond (nat_lt (position_or_len has_stack (map ordered_shown os)) n) (Some (position_or_len has_stack (map ordered_shown os))) None) (sym (length-map os ordered_shown))
