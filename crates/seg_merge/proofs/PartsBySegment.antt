-- The parts of each logical segment with one part more.
use Rattle.std.specs.Prelude.{◌≡◌, ℕ, ◌+◌, ◌<◌, ◌==◌, Bool, true, false, cond, List, [], ◌∷◌, ◌++◌, map, filter, take, length, get_or, set, refl}
use Rattle.std.specs.List.{range_with_len}
use Rattle.std.proofs.Common.{ap, sym, ◌∙◌, arith}
use Rattle.std.proofs.lemmas.Bool.{eqb-true, eq-eqb}
use Rattle.std.proofs.lemmas.List.{append-nil, get_or-map, get_or-set_same, get_or-set_other, length-set, length-map, map-set, map-append, ext_get_or}
use Rattle.std.proofs.lemmas.List.Elements.{filter-append}
use Rattle.std.proofs.lemmas.List.FromFn.{get_or-map-range_with_len, length-map-range_with_len}
use Rattle.link_model.specs.Parts.{Part, joins}
use Rattle.seg_parts.specs.LogicalSegments.{heads_of, numbers_of}
use Rattle.seg_parts.proofs.Lists.{take-push}
use Rattle.seg_merge.proofs.MixedUse.{clash}
use Rattle.seg_merge.proofs.UseWalk.{number-below, number-joins}

abbrev pub gathered_parts : List Part → List Part → List (List Part)
gathered_parts heads ps = map (λ s. filter (joins s) ps) heads

one_more : (s p : Part) (ps : List Part) → filter (joins s) (ps ++ p ∷ []) ≡ filter (joins s) ps ++ cond (joins s p) (p ∷ []) []
one_more s p ps = filter-append (joins s) ps (p ∷ [])

more : (heads ps : List Part) (p : Part) (n : ℕ) (before : List Part) → n < length heads → ((j : ℕ) (h : Part) → j < length heads → joins (get_or heads j h) p ≡ n == j) → before ≡ get_or (gathered_parts heads ps) n before →
    set (gathered_parts heads ps) n (before ++ p ∷ []) ≡ gathered_parts heads (ps ++ p ∷ [])
more heads ps p n before below number at =
    let old : List (List Part) = gathered_parts heads ps in
    let len : length old ≡ length heads = length-map heads (λ s. filter (joins s) ps) in
    let len2 : length (gathered_parts heads (ps ++ p ∷ [])) ≡ length heads = length-map heads (λ s. filter (joins s) (ps ++ p ∷ [])) in
    ext_get_or [] (set old n (before ++ p ∷ [])) (gathered_parts heads (ps ++ p ∷ [])) (length-set old n (before ++ p ∷ []) ∙ len ∙ sym len2)
    (λ k lt. let under : k < length heads = omega (arith, lt, len, length-set old n (before ++ p ∷ [])) in
    each k [] under (n == k) refl ∙ sym (get_or-map (λ s. filter (joins s) (ps ++ p ∷ [])) heads k p [] under))
  where
    each : (k : ℕ) (d : List Part) → k < length heads → (b : Bool) → n == k ≡ b → get_or (set (gathered_parts heads ps) n (before ++ p ∷ [])) k d ≡ filter (joins (get_or heads k p)) (ps ++ p ∷ [])
    each k d under true same =
        let len : length (gathered_parts heads ps) ≡ length heads = length-map heads (λ s. filter (joins s) ps) in
        ap (λ (i : ℕ). get_or (set (gathered_parts heads ps) n (before ++ p ∷ [])) i d) (sym (eqb-true n k same))
        ∙ get_or-set_same (gathered_parts heads ps) n (before ++ p ∷ []) d (omega (arith, below, len))
        ∙ ap (λ (t : List Part). t ++ p ∷ []) (at ∙ ap (λ (i : ℕ). get_or (gathered_parts heads ps) i before) (eqb-true n k same) ∙ get_or-map (λ s. filter (joins s) ps) heads k p before under)
        ∙ sym (one_more (get_or heads k p) p ps ∙ ap (λ (c : Bool). filter (joins (get_or heads k p)) ps ++ cond c (p ∷ []) []) (number k p under ∙ same))
    each k d under false same =
        get_or-set_other (gathered_parts heads ps) n k (before ++ p ∷ []) d (λ e. clash (eq-eqb n k (sym e)) same)
        ∙ get_or-map (λ s. filter (joins s) ps) heads k p d under
        ∙ sym (one_more (get_or heads k p) p ps ∙ ap (λ (c : Bool). filter (joins (get_or heads k p)) ps ++ cond c (p ∷ []) []) (number k p under ∙ same) ∙ append-nil (filter (joins (get_or heads k p)) ps))

pub parts-step : {V X : Type 0} (items : V → List X) (show : X → Part) (vs : List V) (ps : List Part) (i : ℕ) (x : X) (n : ℕ) (old new : V) → i < length ps → show x ≡ get_or ps i (show x) → n ≡ get_or (numbers_of ps) i 0 →
    map (λ v. map show (items v)) vs ≡ gathered_parts (heads_of ps) (take i ps) → old ≡ get_or vs n old → items new ≡ items old ++ x ∷ [] →
    map (λ v. map show (items v)) (set vs n new) ≡ gathered_parts (heads_of ps) (take (i + 1) ps)
parts-step {V} {X} items show vs ps i x n old new lt is at all was grown =
    let under = number-below ps i 0 lt in
    let below : n < length (heads_of ps) = omega (arith, under, at) in
    let view : V → List Part = λ v. map show (items v) in
    let len : length vs ≡ length (heads_of ps) = sym (length-map vs view) ∙ ap length all ∙ length-map (heads_of ps) (λ s. filter (joins s) (take i ps)) in
    let before : view old ≡ get_or (gathered_parts (heads_of ps) (take i ps)) n (view old) =
    ap view was ∙ sym (get_or-map view vs n old (view old) (omega (arith, below, len))) ∙ ap (λ (t : List (List Part)). get_or t n (view old)) all in
    map-set view vs n new
    ∙ ap (λ (t : List (List Part)). set t n (view new)) all
    ∙ ap (λ (t : List Part). set (gathered_parts (heads_of ps) (take i ps)) n t) (ap (map show) grown ∙ map-append show (items old) (x ∷ []))
    ∙ more (heads_of ps) (take i ps) (show x) n (view old) below (λ j h lt2. number-joins ps i 0 (show x) lt is j h lt2 ∙ ap (λ (m : ℕ). m == j) (sym at)) before
    ∙ ap (gathered_parts (heads_of ps)) (sym (take-push ps i (show x) lt is))

pub lists-long : {V : Type 0} (view : V → List Part) (vs : List V) (heads ps : List Part) → map view vs ≡ gathered_parts heads ps → length vs ≡ length heads
lists-long view vs heads ps all = sym (length-map vs view) ∙ ap length all ∙ length-map heads (λ s. filter (joins s) ps)

pub none-gathered : (heads : List Part) (count : ℕ) (lists : List (List Part)) → count ≡ length heads → lists ≡ map (λ (k : ℕ). let none : List Part = [] in none) (range_with_len 0 count) → lists ≡ gathered_parts heads []
none-gathered heads count lists e is =
    let f : ℕ → List Part = λ k. [] in
    let len : length lists ≡ count = ap length is ∙ length-map-range_with_len f 0 count in
    ext_get_or [] lists (gathered_parts heads []) (len ∙ e ∙ sym (length-map heads (λ s. filter (joins s) [])))
    (λ k lt. ap (λ (t : List (List Part)). get_or t k []) is ∙ get_or-map-range_with_len f 0 count k k [] (omega (arith, lt, len)) (omega arith) ∙ sym (all_none heads k [] (omega (arith, lt, len, e))))
  where
    all_none : (hs : List Part) (k : ℕ) (d : List Part) → k < length hs → get_or (gathered_parts hs []) k d ≡ []
    all_none [] k d lt = absurd (omega (arith, lt))
    all_none (h ∷ hs) k d lt = get_or-map (λ s. filter (joins s) []) (h ∷ hs) k h d lt
