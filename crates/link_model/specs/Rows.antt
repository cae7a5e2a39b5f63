-- Where logical segments and their parts stand: one walk over the logical segments in order.
--
-- In an object each part stands at the least offset that its alignment divides, after the one before.
-- Common contributions of one logical segment share one start, which the greatest of their alignments
-- divides, and the next part stands after the longest.
use Rattle.std.specs.Prelude.{ℕ, ◌+◌, Bool, List, [], ◌∷◌, ◌++◌, Option, max, if◌then◌else◌, ◌==◌, filter}
use Rattle.std.specs.List.{find, fold, list_any}
use Rattle.std.specs.Int.{next_multiple_of}
use Rattle.link_model.specs.Words.{option_any}
use Rattle.link_model.specs.Link.{Link}
use Rattle.link_model.specs.Parts.{Origin, same_origin, Part, alignment, is_common, is_stack, joins}
use Rattle.link_model.specs.Order.{ordered, parts_of, object_number}

-- The least offset from `at` on that the part's alignment divides.
abbrev pub aligned : ℕ → Part → ℕ
aligned at p = next_multiple_of at (alignment p.align)

-- The end of parts that stand one after another from `at` on.
abbrev pub end_of_parts : ℕ → List Part → ℕ
end_of_parts at ps = fold (λ end p. aligned end p + p.len) at ps

abbrev pub greatest_alignment : List Part → ℕ
greatest_alignment ps = fold (λ a p. max a (alignment p.align)) 1 ps

abbrev pub longest : List Part → ℕ
longest ps = fold (λ n p. max n p.len) 0 ps

-- ---- the stack

-- Some part of the logical segment is of combine type stack.
abbrev pub has_stack : Link → Part → Bool
has_stack l s = list_any is_stack (parts_of l s)

-- The stack segment is the first such segment in order.
abbrev pub stack_segment : Link → Option Part
stack_segment l = find (has_stack l) (ordered l)

-- STACKSIZE makes the stack segment at least so many bytes long.
abbrev pub least_len : Link → Part → ℕ
least_len l s = if option_any (joins s) (stack_segment l) then l.def.stack else 0

-- ---- one logical segment

-- Its start, after what ends at `at`.
abbrev pub segment_start : Link → ℕ → Part → ℕ
segment_start l at s =
    if is_common s then next_multiple_of at (greatest_alignment (parts_of l s)) else aligned at s

-- Its end, from its start.
abbrev pub parts_end : Link → ℕ → Part → ℕ
parts_end l start s =
    if is_common s then start + longest (parts_of l s) else end_of_parts start (parts_of l s)

abbrev pub segment_end : Link → ℕ → Part → ℕ
segment_end l start s = max (parts_end l start s) (start + least_len l s)

-- ---- the walk

-- A logical segment, by its first part, in its object.
pub record Row : Type 0 where
  pub segment : Part
  pub object : ℕ
  pub start : ℕ
  pub end : ℕ

-- The end of what these rows have in an object.
abbrev pub end_in : ℕ → List Row → ℕ
end_in object rows = fold (λ end r. max end r.end) 0 (filter (λ r. r.object == object) rows)

-- The row of a logical segment after earlier rows.
abbrev pub row_after : Link → List Row → Part → Row
row_after l earlier s =
    let object = object_number l s in
    let start = segment_start l (end_in object earlier) s in
    record { segment = s; object = object; start = start; end = segment_end l start s }

abbrev pub rows_after : Link → List Row → List Part → List Row
rows_after l earlier [] = earlier
rows_after l earlier (s ∷ ss) = rows_after l (earlier ++ row_after l earlier s ∷ []) ss

unfoldable pub rows : Link → List Row
rows l = rows_after l [] (ordered l)

-- ---- look-ups

-- The row of a part's logical segment.
abbrev pub row_of : Link → Part → Option Row
row_of l p = find (λ r. joins r.segment p) (rows l)

-- The parts before the first one of an origin.
abbrev pub before : Origin → List Part → List Part
before o [] = []
before o (q ∷ qs) = if same_origin q.origin o then [] else q ∷ before o qs

-- The offset of a part in its row's object.
abbrev pub offset_in : Link → Row → Part → ℕ
offset_in l r p =
    if is_common r.segment then r.start
    else aligned (end_of_parts r.start (before p.origin (parts_of l r.segment))) p

abbrev pub stack_row : Link → Option Row
stack_row l = find (λ r. has_stack l r.segment) (rows l)
