-- The layout of a link by its logical segments in order.
use Rattle.std.specs.Prelude.{◌≡◌, ℕ, ◌+◌, Bool, List, [], ◌∷◌, Some, map, slice_get, refl}
use Rattle.std.specs.List.{enumerate_from}
use Rattle.std.specs.Option.{option_map}
use Rattle.std.proofs.Common.{ap, sym, ◌∙◌}
use Rattle.std.proofs.lemmas.Simd.{map-map}
use Rattle.link_model.specs.Link.{Link}
use Rattle.link_model.specs.Parts.{Part}
use Rattle.link_model.specs.Flags.{flags_of}
use Rattle.link_model.specs.Order.{ordered, object_heads, same_object}
use Rattle.link_model.specs.Rows.{Row, rows, end_in, has_stack}
use Rattle.link_model.specs.Layout as rules
use Rattle.link_model.specs.LayoutRefusals.{too_large, too_large_in}
use Rattle.link_model.proofs.Members.{In}
use Rattle.seg_parts.specs.LogicalSegments.{heads_of}
use Rattle.seg_parts.specs.Rows.{rows_later}
use Rattle.link_types.proofs.Lists.{firsts-keys}
use Rattle.seg_parts.proofs.StepsAreRules.{rows-are, steps_of_links}
use Rattle.seg_merge.specs.Ordered.{Ordered, all_parts, ordered_in}
use Rattle.seg_merge.specs.Laid as laid
use Rattle.seg_merge.proofs.RowsOfLinks.{row-segments, find-at}
use Rattle.seg_merge.proofs.UnitsOfLinks.{units-are}

abbrev pub Got : Link → Type 0
Got l = (t : Part) → In t (ordered l) → (k : ℕ) × (slice_get (heads_of (all_parts l)) k ≡ Some t)

abbrev pub all_in : Link → List Ordered
all_in l = map (ordered_in l) (ordered l)

pub rows-in-is : (l : Link) → Got l → laid.rows_in l.def.stack (all_in l) ≡ rows l
rows-in-is l got = ap (rows_later []) (units-are l got) ∙ sym (rows-are l)

pub too-large-is : (l : Link) → Got l → too_large l ≡ too_large_in (laid.rows_in l.def.stack (all_in l))
too-large-is l got = (steps_of_links l).too_large_is ∙ ap too_large_in (sym (rows-in-is l got))

numbered : {X Y Z : Type 0} (g : ℕ × Y → Z) (f : X → Y) (s : ℕ) (xs : List X) → map g (enumerate_from s (map f xs)) ≡ map (λ q. g (q.0, f q.1)) (enumerate_from s xs)
numbered g f s [] = refl
numbered {X} {Y} {Z} g f s (x ∷ xs) = ap (λ (t : List Z). g (s, f x) ∷ t) (numbered g f (s + 1) xs)

heads_in : (l : Link) → laid.object_heads_of (all_in l) ≡ map (ordered_in l) (object_heads l)
heads_in l = sym (firsts-keys (ordered_in l) (λ (a b : Ordered). same_object a.key b.key) (ordered l))

sizes_are : (l : Link) → Got l → laid.sizes_in l.def.stack (all_in l) ≡ map (λ q. (end_in q.0 (rows l), flags_of l q.1)) (enumerate_from 1 (object_heads l))
sizes_are l got =
    ap (λ (rs : List Row). map (λ (q : ℕ × Ordered). (end_in q.0 rs, q.1.flags)) (enumerate_from 1 (laid.object_heads_of (all_in l)))) (rows-in-is l got)
    ∙ ap (λ (os : List Ordered). map (λ (q : ℕ × Ordered). (end_in q.0 (rows l), q.1.flags)) (enumerate_from 1 os)) (heads_in l)
    ∙ numbered (λ (q : ℕ × Ordered). (end_in q.0 (rows l), q.1.flags)) (ordered_in l) 1 (object_heads l)

pub objects-are : (l : Link) → Got l → rules.placed_from (laid.first_base_of l.def) (laid.sizes_in l.def.stack (all_in l)) ≡ rules.objects l
unfolding rules.objects
objects-are l got = ap (rules.placed_from (rules.first_base l)) (sizes_are l got)

pub stack-is : (l : Link) → Got l → option_map (λ (r : Row). (r.object, r.end)) (laid.stack_row_in (all_in l) (laid.rows_in l.def.stack (all_in l))) ≡ rules.stack_top l
unfolding rules.stack_top
stack-is l got =
    let p : Row → Bool = λ r. has_stack l r.segment in
    let same : map p (rows l) ≡ map laid.has_stack (all_in l) =
    sym (map-map (has_stack l) (λ (r : Row). r.segment) (rows l)) ∙ ap (map (has_stack l)) (row-segments l) ∙ sym (map-map laid.has_stack (ordered_in l) (ordered l)) in
    ap (λ (rs : List Row). option_map (λ (r : Row). (r.object, r.end)) (laid.stack_row_in (all_in l) rs)) (rows-in-is l got)
    ∙ ap (option_map (λ (r : Row). (r.object, r.end))) (sym (find-at p laid.has_stack (rows l) (all_in l) same))
