-- The ends of objects, and their sum, with one more row.
use Rattle.std.specs.Prelude.{◌≡◌, ℕ, nat_lt, ◌+◌, ◌<◌, ◌≤◌, Bool, true, false, ◌||◌, List, [], ◌∷◌, ◌++◌, map, max, length, refl}
use Rattle.std.specs.List.{range_with_len}
use Rattle.std.proofs.Common.{ap, sym, ◌∙◌, arith, true≢false}
use Rattle.std.proofs.Math.ListN.{get_or, set}
use Rattle.std.proofs.lemmas.Bool.{le-ltb, lt-ltb}
use Rattle.std.proofs.lemmas.List.{get_or_default}
use Rattle.std.proofs.lemmas.List.FromFn.{get_or-map-range_with_len, length-map-range_with_len}
use Rattle.link_model.specs.Rows.{Row, end_in}
use Rattle.link_model.specs.LayoutRefusals.{size_of_rows, passes_limits, object_limit}
use Rattle.lx_types.specs.declared.limits.TheConstants.{MAX_OBJECTS}
use Rattle.link_model.specs.declared.limits.TheConstants.{MAX_MEMORY}
use Rattle.seg_parts.specs.declared.rows.Unplaced as lent
use Rattle.seg_parts.specs.declared.rows.Ends.{Ends}
use Rattle.seg_parts.specs.Rows.{row_at, row_later}
use Rattle.seg_parts.specs.Placing.{unplaced_shown, AreEnds, Adds}
use Rattle.link_model.proofs.RowEnds.{end-here, end-other, sum-more, end-in-sum}
use Rattle.seg_parts.proofs.Ranges.{set-range}

-- ---- the ends of all

pub ends-more : (count k : ℕ) (rs : List Row) (r : Row) (ends : List ℕ) → k < count → r.object ≡ 1 + k → ends ≡ map (λ o. end_in o rs) (range_with_len 1 count) →
    set ends k (max (get_or ends k 0) r.end) ≡ map (λ o. end_in o (rs ++ r ∷ [])) (range_with_len 1 count)
ends-more count k rs r ends below is all =
    let here : get_or ends k 0 ≡ end_in r.object rs =
    ap (λ (t : List ℕ). get_or t k 0) all ∙ get_or-map-range_with_len (λ o. end_in o rs) 1 count k r.object 0 below (sym is) in
    ap (λ (t : List ℕ). set t k (max (get_or ends k 0) r.end)) all
    ∙ set-range (λ o. end_in o rs) (λ o. end_in o (rs ++ r ∷ [])) 1 count k (max (get_or ends k 0) r.end) below
    (ap (λ (o : ℕ). end_in o (rs ++ r ∷ [])) (sym is) ∙ end-here rs r ∙ ap (λ (n : ℕ). max n r.end) (sym here))
    (λ j ne. end-other j rs r (λ e. ne (e ∙ is)))

-- ---- one more row

-- The end of the unit's object so far.
pub end-so-far : (count : ℕ) (rows : List Row) (u : lent.Unplaced) (old : Ends) → AreEnds count rows old → u.object < length old.ends.items → get_or old.ends.items u.object 0 ≡ end_in (u.object + 1) rows
end-so-far count rows u old are below =
    let len : length old.ends.items ≡ count = ap length are.each ∙ length-map-range_with_len (λ o. end_in o rows) 1 count in
    ap (λ (t : List ℕ). get_or t u.object 0) are.each
    ∙ get_or-map-range_with_len (λ o. end_in o rows) 1 count u.object (u.object + 1) 0 (omega (arith, len)) (omega arith)

pub row-here : (count : ℕ) (rows : List Row) (u : lent.Unplaced) (old : Ends) → AreEnds count rows old → u.object < length old.ends.items →
    row_at (get_or old.ends.items u.object 0) (unplaced_shown u) ≡ row_later rows (unplaced_shown u)
row-here count rows u old are below = ap (λ (n : ℕ). row_at n (unplaced_shown u)) (end-so-far count rows u old are below)

pub ends-after : (count : ℕ) (rows : List Row) (u : lent.Unplaced) (old new : Ends) (end : ℕ) → AreEnds count rows old → u.object < length old.ends.items →
    (row_later rows (unplaced_shown u)).end ≡ end → Adds old.ends.items old.sum u.object end new.ends.items new.sum → AreEnds count (rows ++ row_later rows (unplaced_shown u) ∷ []) new
ends-after count rows u old new end are below is adds =
    let r : Row = row_later rows (unplaced_shown u) in
    let len : length old.ends.items ≡ count = ap length are.each ∙ length-map-range_with_len (λ o. end_in o rows) 1 count in
    let here : get_or old.ends.items u.object 0 ≡ end_in r.object rows = end-so-far count rows u old are below in
    let longest : max (get_or old.ends.items u.object 0) end ≡ max (end_in r.object rows) r.end =
    ap (λ (n : ℕ). max n end) here ∙ ap (λ (n : ℕ). max (end_in r.object rows) n) (sym is) in
    record {
      each =
          adds.ends_are ∙ ap (λ (n : ℕ). set old.ends.items u.object (max (get_or old.ends.items u.object 0) n)) (sym is)
          ∙ ends-more count u.object rows r old.ends.items (omega (arith, len)) (omega arith) are.each;
      total = omega (arith, adds.sum_is, sum-more rows r, here, longest, are.total);
    }

pub row-found : (count : ℕ) (rows : List Row) (u : lent.Unplaced) (old : Ends) (at : ℕ) → AreEnds count rows old → u.object < length old.ends.items → at ≡ get_or old.ends.items u.object at →
    row_at at (unplaced_shown u) ≡ row_later rows (unplaced_shown u)
row-found count rows u old at are below is =
    ap (λ (n : ℕ). row_at n (unplaced_shown u)) (is ∙ get_or_default old.ends.items u.object at 0 below) ∙ row-here count rows u old are below

pub end-within : (count : ℕ) (rows : List Row) (u : lent.Unplaced) (old : Ends) → AreEnds count rows old → u.object < length old.ends.items → get_or old.ends.items u.object 0 ≤ old.sum
end-within count rows u old are below =
    let at = end-so-far count rows u old are below in
    let most = end-in-sum (u.object + 1) rows in
    omega (arith, at, most, are.total)

pub ends-length : (count : ℕ) (rows : List Row) (ends : Ends) → AreEnds count rows ends → length ends.ends.items ≡ count
ends-length count rows ends are = ap length are.each ∙ length-map-range_with_len (λ o. end_in o rows) 1 count

-- ---- limits

abbrev over : (a b c : Bool) → Bool
over a b c = a || b || c

first_over : (a b c : Bool) → a ≡ true → over a b c ≡ true
first_over true b c e = refl
first_over false b c e = absurd (true≢false (sym e))

second_over : (a b c : Bool) → b ≡ true → over a b c ≡ true
second_over true true c e = refl
second_over false true c e = refl
second_over a false c e = absurd (true≢false (sym e))

third_over : (a b c : Bool) → c ≡ true → over a b c ≡ true
third_over true true true e = refl
third_over true false true e = refl
third_over false true true e = refl
third_over false false true e = refl
third_over a b false e = absurd (true≢false (sym e))

none_over : (a b c : Bool) → a ≡ false → b ≡ false → c ≡ false → over a b c ≡ false
none_over a b c e f g = ap (λ (t : Bool). over t b c) e ∙ ap (λ (t : Bool). over false t c) f ∙ g

pub past-end : (rows : List Row) (r : Row) → object_limit r.segment < r.end → passes_limits (rows ++ r ∷ []) r ≡ true
past-end rows r h =
    first_over (nat_lt (object_limit r.segment) r.end) (nat_lt MAX_MEMORY (size_of_rows (rows ++ r ∷ []))) (nat_lt MAX_OBJECTS r.object) (lt-ltb (object_limit r.segment) r.end h)

pub past-memory : (rows : List Row) (r : Row) → MAX_MEMORY < size_of_rows (rows ++ r ∷ []) → passes_limits (rows ++ r ∷ []) r ≡ true
past-memory rows r h =
    second_over (nat_lt (object_limit r.segment) r.end) (nat_lt MAX_MEMORY (size_of_rows (rows ++ r ∷ []))) (nat_lt MAX_OBJECTS r.object) (lt-ltb MAX_MEMORY (size_of_rows (rows ++ r ∷ [])) h)

pub past-objects : (rows : List Row) (r : Row) → MAX_OBJECTS < r.object → passes_limits (rows ++ r ∷ []) r ≡ true
past-objects rows r h =
    third_over (nat_lt (object_limit r.segment) r.end) (nat_lt MAX_MEMORY (size_of_rows (rows ++ r ∷ []))) (nat_lt MAX_OBJECTS r.object) (lt-ltb MAX_OBJECTS r.object h)

pub within-limits : (rows : List Row) (r : Row) → r.end ≤ object_limit r.segment → size_of_rows (rows ++ r ∷ []) ≤ MAX_MEMORY → r.object ≤ MAX_OBJECTS → passes_limits (rows ++ r ∷ []) r ≡ false
within-limits rows r e f g =
    none_over (nat_lt (object_limit r.segment) r.end) (nat_lt MAX_MEMORY (size_of_rows (rows ++ r ∷ []))) (nat_lt MAX_OBJECTS r.object)
    (le-ltb (object_limit r.segment) r.end e) (le-ltb MAX_MEMORY (size_of_rows (rows ++ r ∷ [])) f) (le-ltb MAX_OBJECTS r.object g)
