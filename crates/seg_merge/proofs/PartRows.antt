-- The row of each part of a link, and what it says.
use Rattle.std.specs.Prelude.{◌≡◌, ℕ, ◌+◌, ◌<◌, ◌≤◌, ◌==◌, Bool, true, false, cond, ◌||◌, List, [], ◌∷◌, ◌++◌, Option, Some, None, All, map, find, take, length, get_or, nat_lt, refl}
use Rattle.std.specs.List.{enumerate_from, AllByRecursion}
use Rattle.std.proofs.Common.{ap, sym, ◌∙◌, arith, subst}
use Rattle.std.proofs.lemmas.Bool.{eq-eqb, ltb-false}
use Rattle.std.proofs.lemmas.List.{length-map, get_or-map}
use Rattle.lx_types.proofs.Lists.{none_found}
use Rattle.lx_types.proofs.Options.{mapped_none}
use Rattle.lx_types.specs.declared.limits.TheConstants.{MAX_OBJECTS}
use Rattle.link_model.specs.declared.limits.TheConstants.{MAX_MEMORY, MAX_NARROW_OBJECT}
use Rattle.link_model.specs.declared.keys.SegmentKey.{SegmentKey}
use Rattle.link_model.specs.declared.refusals.LayRefusal.TheVariants.{TooLarge}
use Rattle.link_model.specs.Link.{Link}
use Rattle.link_model.specs.Parts.{Part, segment_key, same_segment, joins}
use Rattle.link_model.specs.Order.{own_stack, ordered, object_number}
use Rattle.link_model.specs.Rows.{Row, end_in, rows, row_of, segment_end}
use Rattle.link_model.specs.LayoutRefusals.{object_limit, passes_limits, size_of_rows, too_large}
use Rattle.link_model.proofs.KeyTests.{segment_keys}
use Rattle.link_model.proofs.Members.{In, found_as, each_in}
use Rattle.seg_parts.specs.declared.rows.Placed.{Placed}
use Rattle.seg_parts.specs.LogicalSegments.{heads_of, numbers_of}
use Rattle.seg_parts.specs.Parts.{shown}
use Rattle.seg_parts.specs.Placing.{placed_shown}
use Rattle.seg_parts.specs.Rows.{row_at, row_later, rows_later}
use Rattle.seg_parts.specs.Steps.{unplaced_in}
use Rattle.seg_parts.proofs.StepsAreRules.{rows-are}
use Rattle.seg_merge.specs.Standing.{RowsStand}
use Rattle.seg_merge.proofs.UseWalk.{number-below, number-joins}

-- ---- what all rows say

each_after : (l : Link) (P : Row → Type 0) → ((at : ℕ) (s : Part) → P (row_at at (unplaced_in l s))) → (earlier : List Row) (ss : List Part) → AllByRecursion P (rows_later earlier (map (unplaced_in l) ss))
each_after l P f earlier [] = tt
each_after l P f earlier (s ∷ ss) =
    (f (end_in (object_number l s) earlier) s, each_after l P f (earlier ++ row_later earlier (unplaced_in l s) ∷ []) ss)

-- A row ends where its logical segment does.
end-is : (l : Link) (r : Row) → In r (rows l) → r.end ≡ segment_end l r.start r.segment
end-is l r i =
    each_in (λ (q : Row). q.end ≡ segment_end l q.start q.segment) (rows_later [] (map (unplaced_in l) (ordered l)))
    (each_after l (λ q. q.end ≡ segment_end l q.start q.segment) (λ at s. refl) [] (ordered l))
    (subst (λ (t : List Row). In r t) (rows-are l) i)

-- ---- limits

unnumbered : (Q : ℕ × Row → Type 0) (P : Row → Type 0) → ((q : ℕ × Row) → Q q → P q.1) → (s : ℕ) (rs : List Row) → AllByRecursion Q (enumerate_from s rs) → AllByRecursion P rs
unnumbered Q P f s [] all = tt
unnumbered Q P f s (r ∷ rs) all = (f (s, r) all.0, unnumbered Q P f (s + 1) rs all.1)

either : (a b c : Bool) → (a || b || c) ≡ false → (a ≡ false) × (c ≡ false)
either true b c e = cc
either false true c e = cc
either false false c e = (refl, e)

limit_most : (p : Part) → object_limit p ≤ MAX_MEMORY
limit_most p = by p.wide
  where
    by : (b : Bool) → cond b MAX_MEMORY MAX_NARROW_OBJECT ≤ MAX_MEMORY
    by true = omega arith
    by false = omega arith

within : (earlier : List Row) (r : Row) → passes_limits earlier r ≡ false → (r.end ≤ MAX_MEMORY) × (r.object ≤ MAX_OBJECTS)
within earlier r e =
    let two = either (nat_lt (object_limit r.segment) r.end) (nat_lt MAX_MEMORY (size_of_rows earlier)) (nat_lt MAX_OBJECTS r.object) e in
    let end = ltb-false (object_limit r.segment) r.end two.0 in
    let most = limit_most r.segment in
    (omega (arith, end, most), ltb-false MAX_OBJECTS r.object two.1)

limits : (l : Link) → too_large l ≡ None → (r : Row) → In r (rows l) → (r.end ≤ MAX_MEMORY) × (r.object ≤ MAX_OBJECTS)
limits l e r i =
    let test : ℕ × Row → Bool = λ q. passes_limits (take q.0 (rows l)) q.1 in
    each_in (λ (q : Row). (q.end ≤ MAX_MEMORY) × (q.object ≤ MAX_OBJECTS)) (rows l)
    (unnumbered (λ q. test q ≡ false) (λ q. (q.end ≤ MAX_MEMORY) × (q.object ≤ MAX_OBJECTS)) (λ q fits. within (take q.0 (rows l)) q.1 fits) 1 (rows l)
    (none_found test (enumerate_from 1 (rows l)) (mapped_none (λ (q : ℕ × Row). TooLarge q.1.segment.name) (find test (enumerate_from 1 (rows l))) e))) i

-- ---- the rows by the numbers of logical segments

module _ (l : Link) (ps : List Part) (placed : List Placed) (stand : RowsStand l ps placed) where
  pub rows-long : length placed ≡ length (heads_of ps)
  rows-long =
      sym (length-map placed (λ (r : Placed). Some (placed_shown r))) ∙ sym (ap length stand.rows_are) ∙ length-map (heads_of ps) (row_of l)

  pub row-of-head : (k : ℕ) (h : Part) (r : Placed) → k < length placed → row_of l (get_or (heads_of ps) k h) ≡ Some (placed_shown (get_or placed k r))
  row-of-head k h r lt =
      sym (get_or-map (row_of l) (heads_of ps) k h None (omega (arith, lt, rows-long)))
      ∙ ap (λ (t : List (Option Row)). get_or t k None) stand.rows_are
      ∙ get_or-map (λ (r : Placed). Some (placed_shown r)) placed k r None lt

  -- The first part of a logical segment and the segment of its row are of one key.
  pub head-key : (k : ℕ) (h : Part) (r : Placed) → k < length placed → segment_key (shown (get_or placed k r).head) ≡ segment_key (get_or (heads_of ps) k h)
  head-key k h r lt =
      let hit = found_as (λ q. joins q.segment (get_or (heads_of ps) k h)) (rows l) (placed_shown (get_or placed k r)) (row-of-head k h r lt) in
      segment_keys.equal (segment_key (shown (get_or placed k r).head)) (segment_key (get_or (heads_of ps) k h)) hit.passes

  inside : (k : ℕ) (h : Part) (r : Placed) → k < length placed → In (placed_shown (get_or placed k r)) (rows l)
  inside k h r lt =
      let hit = found_as (λ q. joins q.segment (get_or (heads_of ps) k h)) (rows l) (placed_shown (get_or placed k r)) (row-of-head k h r lt) in hit.inside

  pub row-end : (k : ℕ) (h : Part) (r : Placed) → k < length placed → (get_or placed k r).end ≡ segment_end l (get_or placed k r).start (shown (get_or placed k r).head)
  row-end k h r lt = end-is l (placed_shown (get_or placed k r)) (inside k h r lt)

  pub row-within : (k : ℕ) (h : Part) (r : Placed) → k < length placed → ((get_or placed k r).end ≤ MAX_MEMORY) × ((get_or placed k r).object + 1 ≤ MAX_OBJECTS)
  row-within k h r lt = limits l stand.none_too_large (placed_shown (get_or placed k r)) (inside k h r lt)

  pub objects-few : All (λ r. r.object < MAX_OBJECTS) placed
  objects-few = λ k r lt. let few = (row-within k own_stack r lt).1 in omega (arith, few)

  module _ (i : ℕ) (p : Part) (n : ℕ) (r : Placed) (lt : i < length ps) (is : p ≡ get_or ps i p) (at : n ≡ get_or (numbers_of ps) i 0) (row : r ≡ get_or placed n r) where
    pub number-under : n < length placed
    number-under = let under = number-below ps i 0 lt in omega (arith, under, at, rows-long)

    -- A logical segment is that of the part exactly where the number is.
    pub row-joins : (k : ℕ) (q : Placed) → k < length placed → joins (shown (get_or placed k q).head) p ≡ n == k
    row-joins k q below =
        ap (λ (t : SegmentKey). same_segment t (segment_key p)) (head-key k p q below)
        ∙ number-joins ps i 0 p lt is k p (omega (arith, below, rows-long)) ∙ ap (λ (m : ℕ). m == k) (sym at)

    pub own-joins : joins (shown r.head) p ≡ true
    own-joins = ap (λ (t : Placed). joins (shown t.head) p) row ∙ row-joins n r number-under ∙ eq-eqb n n refl

    pub row-of-part : row_of l p ≡ Some (placed_shown r)
    row-of-part =
        let joined : joins (get_or (heads_of ps) n p) p ≡ true =
        number-joins ps i 0 p lt is n p (omega (arith, number-under, rows-long)) ∙ ap (λ (m : ℕ). m == n) (sym at) ∙ eq-eqb n n refl in
        let key : segment_key (get_or (heads_of ps) n p) ≡ segment_key p = segment_keys.equal (segment_key (get_or (heads_of ps) n p)) (segment_key p) joined in
        ap (λ (k : SegmentKey). find (λ (q : Row). same_segment (segment_key q.segment) k) (rows l)) (sym key)
        ∙ row-of-head n p r number-under ∙ ap (λ (t : Placed). Some (placed_shown t)) (sym row)

    pub own-end : r.end ≡ segment_end l r.start (shown r.head)
    own-end = subst (λ (t : Placed). t.end ≡ segment_end l t.start (shown t.head)) (sym row) (row-end n p r number-under)

    pub own-within : (r.end ≤ MAX_MEMORY) × (r.object + 1 ≤ MAX_OBJECTS)
    own-within = subst (λ (t : Placed). (t.end ≤ MAX_MEMORY) × (t.object + 1 ≤ MAX_OBJECTS)) (sym row) (row-within n p r number-under)
