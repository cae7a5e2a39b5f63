-- The contribution with an index of a module.
use Rattle.std.specs.Prelude.{◌≡◌, ℕ, zero, suc, ◌+◌, ◌-◌, ◌<◌, ◌==◌, Bool, true, false, cond, not, List, [], ◌∷◌, Option, Some, None, map, filter, find, slice_get, refl}
use Rattle.std.specs.List.{enumerate_from}
use Rattle.std.specs.Option.{option_and_then}
use Rattle.std.proofs.Common.{ap, sym, ◌∙◌, arith}
use Rattle.std.proofs.lemmas.Bool.{eq-eqb, and_from, and_right}
use Rattle.std.proofs.lemmas.Bool.Decides.{nat_tests}
use Rattle.obj_types.specs.declared.object.Seg.{Seg}
use Rattle.obj_types.specs.declared.object.ObjModule.{ObjModule}
use Rattle.link_model.specs.declared.keys.Origin.TheVariants.{Segment}
use Rattle.link_model.specs.Parts.{Part, same_origin, of_seg, contributions_in}

-- What a segment gives.
abbrev pub plain_part : ℕ → ℕ → Seg → Option Part
plain_part n index s = cond s.debug None (Some (of_seg n index s))

numbered : ℕ → ℕ → List Seg → List Part
numbered n k segs = map (λ q. of_seg n q.0 q.1) (filter (λ q. not q.1.debug) (enumerate_from k segs))

has : ℕ → ℕ → Part → Bool
has n index p = same_origin (Segment n index) p.origin

pub apart : (a b : ℕ) → a < b → a == b ≡ false
apart a b h = grind (arith, nat_tests)

pub apart_above : (a b : ℕ) → b < a → a == b ≡ false
apart_above a b h = grind (arith, nat_tests)

other : (n index k : ℕ) (s : Seg) → index == k ≡ false → has n index (of_seg n k s) ≡ false
unfolding has
other n index k s e = and_right (n == n) (index == k) e

itself : (n index k : ℕ) (s : Seg) → index == k ≡ true → has n index (of_seg n k s) ≡ true
unfolding has
itself n index k s e = and_from (n == n) (index == k) (eq-eqb n n refl) e

skip_by : (n index k : ℕ) (s : Seg) (rest : List Part) (d : Bool) → index == k ≡ false → find (has n index) (cond (not d) (of_seg n k s ∷ rest) rest) ≡ find (has n index) rest
skip_by n index k s rest true e = refl
skip_by n index k s rest false e = ap (λ (b : Bool). cond b (Some (of_seg n k s)) (find (has n index) rest)) (other n index k s e)

take_by : (n index k : ℕ) (s : Seg) (rest : List Part) (d : Bool) → index == k ≡ true → find (has n index) rest ≡ None → find (has n index) (cond (not d) (of_seg n k s ∷ rest) rest) ≡ cond d None (Some (of_seg n k s))
take_by n index k s rest true e none = none
take_by n index k s rest false e none = ap (λ (b : Bool). cond b (Some (of_seg n k s)) (find (has n index) rest)) (itself n index k s e)

split : (n k : ℕ) (s : Seg) (segs : List Seg) (d : Bool) → map (λ (q : ℕ × Seg). of_seg n q.0 q.1) (cond (not d) ((k, s) ∷ filter (λ q. not q.1.debug) (enumerate_from (k + 1) segs)) (filter (λ q. not q.1.debug) (enumerate_from (k + 1) segs))) ≡ cond (not d) (of_seg n k s ∷ numbered n (k + 1) segs) (numbered n (k + 1) segs)
unfolding numbered
split n k s segs true = refl
split n k s segs false = refl

first : (n k : ℕ) (s : Seg) (segs : List Seg) → numbered n k (s ∷ segs) ≡ cond (not s.debug) (of_seg n k s ∷ numbered n (k + 1) segs) (numbered n (k + 1) segs)
unfolding numbered
first n k s segs = split n k s segs s.debug

none_below : (n index k : ℕ) (segs : List Seg) → index < k → find (has n index) (numbered n k segs) ≡ None
unfolding numbered
none_below n index k [] h = refl
none_below n index k (s ∷ segs) h =
    ap (find (has n index)) (first n k s segs) ∙ skip_by n index k s (numbered n (k + 1) segs) s.debug (apart index k h) ∙ none_below n index (k + 1) segs (omega arith)

found_at : (n k i : ℕ) (segs : List Seg) → find (has n (k + i)) (numbered n k segs) ≡ option_and_then (plain_part n (k + i)) (slice_get segs i)
unfolding numbered
found_at n k i [] = refl
found_at n k zero (s ∷ segs) =
    let at : k + zero ≡ k = omega arith in
    ap (find (has n (k + zero))) (first n k s segs)
    ∙ take_by n (k + zero) k s (numbered n (k + 1) segs) s.debug (eq-eqb (k + zero) k at) (none_below n (k + zero) (k + 1) segs (omega arith))
    ∙ ap (λ (j : ℕ). cond s.debug None (Some (of_seg n j s))) (sym at)
found_at n k (suc i) (s ∷ segs) =
    let at : k + suc i ≡ (k + 1) + i = omega arith in
    ap (find (has n (k + suc i))) (first n k s segs)
    ∙ skip_by n (k + suc i) k s (numbered n (k + 1) segs) s.debug (apart_above (k + suc i) k (omega arith))
    ∙ ap (λ (j : ℕ). find (has n j) (numbered n (k + 1) segs)) at
    ∙ found_at n (k + 1) i segs
    ∙ ap (λ (j : ℕ). option_and_then (plain_part n j) (slice_get segs i)) (sym at)

-- No contribution has the index 0, and the others are those of plain segments.
pub no-zero : (n : ℕ) (m : ObjModule) → find (λ p. same_origin (Segment n 0) p.origin) (contributions_in n m) ≡ None
unfolding numbered has
no-zero n m = none_below n 0 1 m.segs (omega arith)

pub found-part : (n index : ℕ) (m : ObjModule) → 0 < index → find (λ p. same_origin (Segment n index) p.origin) (contributions_in n m) ≡ option_and_then (plain_part n index) (slice_get m.segs (index - 1))
unfolding numbered has
found-part n index m h =
    let at : 1 + (index - 1) ≡ index = omega arith in
    ap (λ (j : ℕ). find (λ p. same_origin (Segment n j) p.origin) (contributions_in n m)) (sym at)
    ∙ found_at n 1 (index - 1) m.segs
    ∙ ap (λ (j : ℕ). option_and_then (plain_part n j) (slice_get m.segs (index - 1))) at
