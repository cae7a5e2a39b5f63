-- One more logical segment with its object.
use Rattle.std.specs.Prelude.{◌≡◌, ℕ, ◌+◌, ◌<◌, List, [], ◌∷◌, ◌++◌, Option, map, take, length, get_or}
use Rattle.std.specs.List.{enumerate_from}
use Rattle.std.proofs.Common.{ap, sym, ◌∙◌, arith}
use Rattle.std.proofs.lemmas.List.{map-append, length-map, get_or_default}
use Rattle.seg_parts.specs.declared.rows.Unplaced as lent
use Rattle.seg_parts.specs.Parts.{shown}
use Rattle.seg_parts.specs.Placing.{unplaced_shown}
use Rattle.seg_parts.specs.Rows.{Unplaced}
use Rattle.seg_parts.proofs.Lists.{take-push, enumerate-more}
use Rattle.seg_merge.specs.declared.ordered.OrderedSegment.{OrderedSegment}
use Rattle.seg_merge.specs.Laid.{least_of, unit_at}
use Rattle.seg_merge.specs.Ordered.{Ordered, ordered_shown}
use Rattle.seg_merge.proofs.Gets.{shown-at}

pub objects-more : (objects : List ℕ) (units next : List lent.Unplaced) (i : ℕ) (u : lent.Unplaced) → i < length objects → map (λ (v : lent.Unplaced). v.object) units ≡ take i objects → next ≡ units ++ u ∷ [] → u.object ≡ get_or objects i 0 →
    map (λ (v : lent.Unplaced). v.object) next ≡ take (i + 1) objects
objects-more objects units next i u lt so_far grown is =
    ap (map (λ (v : lent.Unplaced). v.object)) grown ∙ map-append (λ (v : lent.Unplaced). v.object) units (u ∷ [])
    ∙ ap (λ (t : List ℕ). t ++ u.object ∷ []) so_far
    ∙ sym (take-push objects i u.object lt (is ∙ get_or_default objects i 0 u.object lt))

pub units-more : (ordered : List OrderedSegment) (objects : List ℕ) (stack : Option ℕ) (size : ℕ) (units next : List lent.Unplaced) (i : ℕ) (o : OrderedSegment) (u : lent.Unplaced) → i < length ordered → o ≡ get_or ordered i o →
    map unplaced_shown units ≡ map (unit_at objects stack size) (enumerate_from 0 (take i (map ordered_shown ordered))) → next ≡ units ++ u ∷ [] →
    unplaced_shown u ≡ unit_at objects stack size (i, ordered_shown o) →
    map unplaced_shown next ≡ map (unit_at objects stack size) (enumerate_from 0 (take (i + 1) (map ordered_shown ordered)))
units-more ordered objects stack size units next i o u lt is so_far grown shown =
    let os : List Ordered = map ordered_shown ordered in
    let f : ℕ × Ordered → Unplaced = unit_at objects stack size in
    let under : i < length os = omega (arith, lt, length-map ordered ordered_shown) in
    let zero_more : i ≡ 0 + i = omega arith in
    ap (map unplaced_shown) grown ∙ map-append unplaced_shown units (u ∷ [])
    ∙ ap (λ (t : List Unplaced). t ++ unplaced_shown u ∷ []) so_far
    ∙ ap (λ (v : Unplaced). map f (enumerate_from 0 (take i os)) ++ v ∷ []) (shown ∙ ap (λ (n : ℕ). f (n, ordered_shown o)) zero_more)
    ∙ sym (map-append f (enumerate_from 0 (take i os)) ((0 + i, ordered_shown o) ∷ []))
    ∙ ap (map f) (sym (enumerate-more 0 os i (ordered_shown o) under (shown-at ordered_shown ordered i o lt is)))

abbrev unit : OrderedSegment → ℕ → ℕ → Unplaced
unit o object least = record { head = shown o.head; object = object; parts = map shown o.parts.now; least = least }

pub shown-is : (o : OrderedSegment) (objects : List ℕ) (stack : Option ℕ) (size i n : ℕ) → n ≡ least_of stack size o.number →
    unplaced_shown (record { head = o.head; object = get_or objects i 0; parts = o.parts; least = n }) ≡ unit_at objects stack size (i, ordered_shown o)
shown-is o objects stack size i n e = ap (unit o (get_or objects i 0 + 1)) e
