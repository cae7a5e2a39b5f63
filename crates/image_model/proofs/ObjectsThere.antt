-- The object of each row of a link is there, and its number fits the entry table.
use Rattle.std.specs.Prelude.{◌≡◌, ℕ, suc, ◌+◌, ◌≤◌, ◌<◌, Bool, true, false, List, [], ◌∷◌, Option, Some, None, map, length, is_some, unwrap_or, refl}
use Rattle.std.specs.List.{list_any, enumerate_from, position_or_len}
use Rattle.std.specs.Option.{option_map, option_map_or}
use Rattle.std.proofs.Common.{ap, sym, ◌∙◌, arith, true≢false, subst}
use Rattle.lx_types.proofs.Lists.{length-map-enumerate_from}
use Rattle.lx_types.specs.Sound.{IsNumberOf}
use Rattle.lx_types.specs.declared.limits.TheConstants.{MAX_OBJECTS}
use Rattle.link_model.specs.Link.{Link}
use Rattle.link_model.specs.Parts.{Part}
use Rattle.link_model.specs.Flags.{flags_of}
use Rattle.link_model.specs.Order.{ordered, object_key, same_object, object_heads, object_number}
use Rattle.link_model.specs.Rows.{end_in, Row, rows, stack_row, has_stack}
use Rattle.link_model.specs.Layout.{room, placed_from, first_base, objects, stack_top}
use Rattle.link_model.specs.LayoutRefusals.{lay_refusal}
use Rattle.link_model.proofs.Rules.{rules}
use Rattle.link_model.proofs.Tables.{any-firsts}
use Rattle.link_model.proofs.Members.{In, any_in, placed, position_is, all_in, found_as}
use Rattle.link_model.proofs.KeyTests.{in_one_object}
use Rattle.link_model.proofs.RowsStand.{Stands}
use Rattle.link_model.proofs.RowLimits.{objects-within, not-too-large}
use Rattle.link_model.proofs.RowsStand.{rows_stand, none_yet}

-- An object of the link, whose number fits the entry table.
pub record IsThere (l : Link) (n : ℕ) : Type 0 where
  pub number : IsNumberOf n (length (objects l))
  pub small : n ≤ MAX_OBJECTS

-- ---- a row has the number of its logical segment's object

pub row_stands : (l : Link) (r : Row) → In r (rows l) → Stands l r
unfolding rules
row_stands l r i = rows_stand l [] (ordered l) (none_yet l) (λ t j. j) r i

-- ---- such a number is that of an object

pub placed_at : (base : ℕ) (qs : List (ℕ × ℕ)) → length (placed_from base qs) ≡ length qs
placed_at base [] = refl
placed_at base (q ∷ qs) = ap suc (placed_at (base + room q.0) qs)

pub count-objects : (l : Link) → length (objects l) ≡ length (object_heads l)
unfolding rules
count-objects l =
    let f : ℕ × Part → ℕ × ℕ = λ q. (end_in q.0 (rows l), flags_of l q.1) in
    placed_at (first_base l) (map f (enumerate_from 1 (object_heads l))) ∙ length-map-enumerate_from f 1 (object_heads l)

number_there : (l : Link) (s : Part) → In s (ordered l) → IsNumberOf (object_number l s) (length (objects l))
number_there l s i =
    let test : Part → Bool = λ h. same_object (object_key l s) (object_key l h) in
    let any : list_any test (object_heads l) ≡ true = any-firsts (in_one_object l) s (ordered l) ∙ any_in test i ((in_one_object l).refl s) in
    let k : ℕ = position_or_len test (object_heads l) in
    let number : object_number l s ≡ k + 1 = ap (λ (o : Option ℕ). option_map_or (λ n. n + 1) o 0) (position_is test (object_heads l) any) in
    let below : k < length (object_heads l) = placed test (object_heads l) any in
    let count = count-objects l in
    (omega (arith, number), omega (arith, number, below, count))

-- ---- and it fits, where the layout is not refused

pub row_there : (l : Link) (r : Row) → lay_refusal l ≡ None → In r (rows l) → IsThere l r.object
row_there l r e i =
    let stands = row_stands l r i in record {
      number = subst (λ (n : ℕ). IsNumberOf n (length (objects l))) (sym stands.object) (number_there l r.segment stands.inside);
      small = all_in (λ r. r.object ≤ MAX_OBJECTS) (rows l) (objects-within (rows l) (not-too-large l e)) i;
    }

-- ---- the object of the stack

stack_by : (l : Link) (o : Option Row) (q : ℕ × ℕ) → stack_row l ≡ o → option_map (λ r. (r.object, r.end)) o ≡ Some q → lay_refusal l ≡ None → IsThere l q.0
stack_by l None q is e none = absurd (true≢false (sym (ap is_some e)))
stack_by l (Some r) q is e none =
    let found = found_as (λ (r : Row). has_stack l r.segment) (rows l) r is in
    let same : r.object ≡ q.0 = ap (λ (o : Option (ℕ × ℕ)). (unwrap_or o q).0) e in
    subst (IsThere l) same (row_there l r none found.inside)

pub stack_there : (l : Link) (q : ℕ × ℕ) → lay_refusal l ≡ None → stack_top l ≡ Some q → IsThere l q.0
unfolding stack_top
stack_there l q none e = stack_by l (stack_row l) q refl e none
