-- The walk over logical segments: what a row more adds, and what the first one past a limit decides.
use Rattle.std.specs.Prelude.{◌≡◌, ℕ, zero, suc, ◌+◌, ◌≤◌, Bool, true, false, cond, List, [], ◌∷◌, ◌++◌, Option, Some, None, map, length, take, find, refl}
use Rattle.std.specs.List.{enumerate_from}
use Rattle.std.specs.Option.{option_map, option_or}
use Rattle.std.proofs.Common.{Vec, Global, ap, sym, ◌∙◌, arith, append_assoc, subst}
use Rattle.std.proofs.lemmas.List.{map-append, append-nil, length-append}
use Rattle.link_model.specs.declared.limits.TheConstants.{MAX_MEMORY}
use Rattle.link_model.specs.declared.refusals.LayRefusal.TheVariants.{TooLarge}
use Rattle.link_model.specs.Rows.{Row}
use Rattle.link_model.specs.LayoutRefusals.{passes_limits, too_large_in}
use Rattle.seg_parts.specs.declared.rows.Placed.{Placed}
use Rattle.seg_parts.specs.declared.rows.Ends.{Ends}
use Rattle.seg_parts.specs.Rows.{Unplaced, row_later, rows_later, past_limits}
use Rattle.seg_parts.specs.Placing.{placed_shown, AreEnds, StandIn}

-- What stands after some of the logical segments.
pub record Walked (count : ℕ) (us : List Unplaced) (placed : List Placed) (ends : Ends) : Type 0 where
  pub rows_are : map placed_shown placed ≡ rows_later [] us
  pub none_past : past_limits [] (rows_later [] us) ≡ None
  pub ends_are : AreEnds count (rows_later [] us) ends
  pub few : ends.sum ≤ MAX_MEMORY

pub rows-append : (earlier : List Row) (us vs : List Unplaced) → rows_later earlier (us ++ vs) ≡ rows_later earlier us ++ rows_later (earlier ++ rows_later earlier us) vs
rows-append earlier [] vs = ap (λ (t : List Row). rows_later t vs) (sym (append-nil earlier))
rows-append earlier (u ∷ us) vs =
    let r : Row = row_later earlier u in
    ap (λ (t : List Row). r ∷ t) (rows-append (earlier ++ r ∷ []) us vs
    ∙ ap (λ (t : List Row). rows_later (earlier ++ r ∷ []) us ++ rows_later t vs) (append_assoc earlier (r ∷ []) (rows_later (earlier ++ r ∷ []) us)))

past_by : (b : Bool) (r : Row) (one two rest : Option Row) → one ≡ option_or two rest → cond b (Some r) one ≡ option_or (cond b (Some r) two) rest
past_by true r one two rest e = refl
past_by false r one two rest e = e

pub past-append : (earlier rs ss : List Row) → past_limits earlier (rs ++ ss) ≡ option_or (past_limits earlier rs) (past_limits (earlier ++ rs) ss)
past-append earlier [] ss = ap (λ (t : List Row). past_limits t ss) (sym (append-nil earlier))
past-append earlier (r ∷ rs) ss =
    past_by (passes_limits (earlier ++ r ∷ []) r) r (past_limits (earlier ++ r ∷ []) (rs ++ ss)) (past_limits (earlier ++ r ∷ []) rs) (past_limits (earlier ++ r ∷ rs) ss)
    (past-append (earlier ++ r ∷ []) rs ss ∙ ap (λ (t : List Row). option_or (past_limits (earlier ++ r ∷ []) rs) (past_limits t ss)) (append_assoc earlier (r ∷ []) rs))

-- ---- the first that passes a limit, as the rules find it

take_front : {X : Type 0} (xs ys : List X) (n : ℕ) → n ≡ length xs → take n (xs ++ ys) ≡ xs
take_front [] ys zero e = refl
take_front [] ys (suc n) e = absurd (omega (arith, e))
take_front (x ∷ xs) ys zero e = absurd (omega (arith, e))
take_front {X} (x ∷ xs) ys (suc n) e = ap (λ (t : List X). x ∷ t) (take_front xs ys n (omega (arith, e)))

found_past : (b : Bool) (n : ℕ) (r : Row) (one : Option (ℕ × Row)) (two : Option Row) → option_map (λ (q : ℕ × Row). q.1) one ≡ two → option_map (λ (q : ℕ × Row). q.1) (cond b (Some (n, r)) one) ≡ cond b (Some r) two
found_past true n r one two e = refl
found_past false n r one two e = e

found_from : (all earlier rs : List Row) (n : ℕ) → all ≡ earlier ++ rs → n ≡ length earlier + 1 →
    option_map (λ (q : ℕ × Row). q.1) (find (λ q. passes_limits (take q.0 all) q.1) (enumerate_from n rs)) ≡ past_limits earlier rs
found_from all earlier [] n e at = refl
found_from all earlier (r ∷ rs) n e at =
    let one : earlier ++ r ∷ rs ≡ (earlier ++ r ∷ []) ++ rs = sym (append_assoc earlier (r ∷ []) rs) in
    let len : length (earlier ++ r ∷ []) ≡ length earlier + 1 = length-append earlier (r ∷ []) ∙ omega arith in
    let front : take n all ≡ earlier ++ r ∷ [] = ap (take n) (e ∙ one) ∙ take_front (earlier ++ r ∷ []) rs n (omega (arith, at, len)) in
    found_past (passes_limits (take n all) r) n r (find (λ q. passes_limits (take q.0 all) q.1) (enumerate_from (n + 1) rs)) (past_limits (earlier ++ r ∷ []) rs)
    (found_from all (earlier ++ r ∷ []) rs (n + 1) (e ∙ one) (omega (arith, at, len)))
    ∙ ap (λ (t : List Row). cond (passes_limits t r) (Some r) (past_limits (earlier ++ r ∷ []) rs)) front

named : (o : Option (ℕ × Row)) → option_map (λ (q : ℕ × Row). TooLarge q.1.segment.name) o ≡ option_map (λ (r : Row). TooLarge r.segment.name) (option_map (λ (q : ℕ × Row). q.1) o)
named None = refl
named (Some q) = refl

pub too-large-past : (rs : List Row) → too_large_in rs ≡ option_map (λ (r : Row). TooLarge r.segment.name) (past_limits [] rs)
too-large-past rs =
    named (find (λ q. passes_limits (take q.0 rs) q.1) (enumerate_from 1 rs))
    ∙ ap (λ (o : Option Row). option_map (λ (r : Row). TooLarge r.segment.name) o) (found_from rs [] rs 1 refl refl)

-- ---- one row more

pub walked-more : (count : ℕ) (us : List Unplaced) (placed : List Placed) (ends new : Ends) (u : Unplaced) (p : Placed) → Walked count us placed ends →
    placed_shown p ≡ row_later (rows_later [] us) u → passes_limits (rows_later [] us ++ row_later (rows_later [] us) u ∷ []) (row_later (rows_later [] us) u) ≡ false →
    AreEnds count (rows_later [] us ++ row_later (rows_later [] us) u ∷ []) new → new.sum ≤ MAX_MEMORY → Walked count (us ++ u ∷ []) (placed ++ p ∷ []) new
walked-more count us placed ends new u p old is passes are few =
    let r : Row = row_later (rows_later [] us) u in
    let rows : rows_later [] (us ++ u ∷ []) ≡ rows_later [] us ++ r ∷ [] = rows-append [] us (u ∷ []) in
    record {
      rows_are =
          map-append placed_shown placed (p ∷ []) ∙ ap (λ (t : List Row). t ++ placed_shown p ∷ []) old.rows_are
          ∙ ap (λ (q : Row). rows_later [] us ++ q ∷ []) is ∙ sym rows;
      none_past =
          ap (past_limits []) rows ∙ past-append [] (rows_later [] us) (r ∷ [])
          ∙ ap (λ (o : Option Row). option_or o (past_limits (rows_later [] us) (r ∷ []))) old.none_past
          ∙ ap (λ (b : Bool). cond b (Some r) None) passes;
      ends_are = subst (λ (t : List Row). AreEnds count t new) (sym rows) are;
      few = few;
    }

-- The first row past a limit decides.
pub walk-ends : (us vs : List Unplaced) (u : Unplaced) → past_limits [] (rows_later [] us) ≡ None →
    passes_limits (rows_later [] us ++ row_later (rows_later [] us) u ∷ []) (row_later (rows_later [] us) u) ≡ true → too_large_in (rows_later [] (us ++ u ∷ vs)) ≡ Some (TooLarge u.head.name)
walk-ends us vs u none passes =
    let before : List Row = rows_later [] us in
    let r : Row = row_later before u in
    let rest : List Row = rows_later (before ++ r ∷ []) vs in
    too-large-past (rows_later [] (us ++ u ∷ vs))
    ∙ ap (λ (o : Option Row). option_map (λ (q : Row). TooLarge q.segment.name) o)
    (ap (past_limits []) (rows-append [] us (u ∷ vs)) ∙ past-append [] before (r ∷ rest)
    ∙ ap (λ (o : Option Row). option_or o (past_limits before (r ∷ rest))) none
    ∙ ap (λ (b : Bool). cond b (Some r) (past_limits (before ++ r ∷ []) rest)) passes)

pub stand-in : (count : ℕ) (us : List Unplaced) (placed : Vec Placed Global) (ends : Ends) → Walked count us placed.items ends → StandIn count us (record { rows = placed; ends = ends.ends })
stand-in count us placed ends walked =
    record {
      rows_are = walked.rows_are;
      pass_none =
          too-large-past (rows_later [] us)
          ∙ ap (λ (o : Option Row). option_map (λ (r : Row). TooLarge r.segment.name) o) walked.none_past;
      ends_are = walked.ends_are.each;
    }
