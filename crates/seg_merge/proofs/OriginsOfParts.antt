-- No two parts of a link have the same origin.
use Rattle.std.specs.Prelude.{◌≡◌, ℕ, zero, suc, ◌+◌, ◌<◌, ◌==◌, Bool, true, false, cond, not, ◌&&◌, ◌||◌, List, [], ◌∷◌, ◌++◌, map, filter, take, length, get_or, refl}
use Rattle.std.specs.List.{list_any, flat_map, enumerate_from}
use Rattle.std.proofs.Common.{ap, ◌∙◌, arith, append_assoc}
use Rattle.std.proofs.lemmas.List.Folds.{list_any-append}
use Rattle.std.proofs.lemmas.Bool.{and_right}
use Rattle.obj_types.specs.declared.object.Seg.{Seg}
use Rattle.obj_types.specs.declared.object.ObjModule.{ObjModule}
use Rattle.obj_types.specs.declared.symbol.Common.{Common}
use Rattle.link_model.specs.Link.{Link}
use Rattle.link_model.specs.declared.keys.Origin.{Origin}
use Rattle.link_model.specs.declared.keys.Origin.TheVariants.{Segment, Communal}
use Rattle.link_model.specs.Parts.{same_origin, is_stack, joins, Part, of_seg, contributions_in, contributions}
use Rattle.link_model.specs.Symbols.{commons}
use Rattle.link_model.specs.Order.{own_stack, own_stacks, is_program, parts_of}
use Rattle.link_model.specs.Rows.{before, aligned, end_of_parts}
use Rattle.link_model.proofs.KeyTests.{origin_itself}
use Rattle.seg_parts.proofs.Listed.{apart}
use Rattle.seg_merge.specs.Origins.{OffsetsAre}
use Rattle.link_model.specs.Communals.{of_common, communals, parts}
use Rattle.seg_merge.proofs.GroupPlaces.{any_get}

abbrev pub absent : Origin → List Part → Type 0
absent o ps = list_any (λ q. same_origin o q.origin) ps ≡ false

abbrev pub Distinct : List Part → Type 0
Distinct [] = Unit {0}
Distinct (p ∷ ps) = absent p.origin ps × Distinct ps

-- ---- in one module

below_by : (n i k : ℕ) (s : Seg) (rest : List (ℕ × Seg)) (d : Bool) → i < k → absent (Segment n i) (map (λ (q : ℕ × Seg). of_seg n q.0 q.1) rest) → absent (Segment n i) (map (λ (q : ℕ × Seg). of_seg n q.0 q.1) (cond (not d) ((k, s) ∷ rest) rest))
below_by n i k s rest true lt e = e
below_by n i k s rest false lt e = ap (λ (b : Bool). b || list_any (λ q. same_origin (Segment n i) q.origin) (map (λ (q : ℕ × Seg). of_seg n q.0 q.1) rest)) (and_right (n == n) (i == k) (apart i k lt)) ∙ e

below : (n i k : ℕ) (segs : List Seg) → i < k → absent (Segment n i) (map (λ q. of_seg n q.0 q.1) (filter (λ q. not q.1.debug) (enumerate_from k segs)))
below n i k [] lt = refl
below n i k (s ∷ segs) lt = below_by n i k s (filter (λ q. not q.1.debug) (enumerate_from (k + 1) segs)) s.debug lt (below n i (k + 1) segs (omega arith))

one_by : (n k : ℕ) (s : Seg) (rest : List (ℕ × Seg)) (ys : List Part) (d : Bool) → absent (Segment n k) (map (λ (q : ℕ × Seg). of_seg n q.0 q.1) rest ++ ys) → Distinct (map (λ (q : ℕ × Seg). of_seg n q.0 q.1) rest ++ ys) →
    Distinct (map (λ (q : ℕ × Seg). of_seg n q.0 q.1) (cond (not d) ((k, s) ∷ rest) rest) ++ ys)
one_by n k s rest ys true e f = f
one_by n k s rest ys false e f = (e, f)

in_module : (n k : ℕ) (segs : List Seg) (ys : List Part) → ((i : ℕ) → absent (Segment n i) ys) → Distinct ys → Distinct (map (λ q. of_seg n q.0 q.1) (filter (λ q. not q.1.debug) (enumerate_from k segs)) ++ ys)
in_module n k [] ys none rest = rest
in_module n k (s ∷ segs) ys none rest =
    one_by n k s (filter (λ q. not q.1.debug) (enumerate_from (k + 1) segs)) ys s.debug
    (list_any-append (λ q. same_origin (Segment n k) q.origin) (map (λ q. of_seg n q.0 q.1) (filter (λ q. not q.1.debug) (enumerate_from (k + 1) segs))) ys
    ∙ ap (λ (b : Bool). b || list_any (λ q. same_origin (Segment n k) q.origin) ys) (below n k (k + 1) segs (omega arith)) ∙ none k)
    (in_module n (k + 1) segs ys none rest)

-- ---- in all modules

other : (n i b : ℕ) (qs : List (ℕ × Seg)) → n < b → absent (Segment n i) (map (λ q. of_seg b q.0 q.1) qs)
other n i b [] lt = refl
other n i b (q ∷ qs) lt = ap (λ (t : Bool). (t && i == q.0) || list_any (λ p. same_origin (Segment n i) p.origin) (map (λ r. of_seg b r.0 r.1) qs)) (apart n b lt) ∙ other n i b qs lt

later : (n i b : ℕ) (ms : List ObjModule) (ys : List Part) → n < b → absent (Segment n i) ys → absent (Segment n i) (flat_map (λ q. contributions_in q.0 q.1) (enumerate_from b ms) ++ ys)
later n i b [] ys lt none = none
later n i b (m ∷ ms) ys lt none =
    let rest : List Part = flat_map (λ q. contributions_in q.0 q.1) (enumerate_from (b + 1) ms) in
    ap (list_any (λ q. same_origin (Segment n i) q.origin)) (append_assoc (contributions_in b m) rest ys)
    ∙ list_any-append (λ q. same_origin (Segment n i) q.origin) (contributions_in b m) (rest ++ ys)
    ∙ ap (λ (t : Bool). t || list_any (λ q. same_origin (Segment n i) q.origin) (rest ++ ys)) (other n i b (filter (λ q. not q.1.debug) (enumerate_from 1 m.segs)) lt)
    ∙ later n i (b + 1) ms ys (omega arith) none

in_modules : (b : ℕ) (ms : List ObjModule) (ys : List Part) → ((n i : ℕ) → absent (Segment n i) ys) → Distinct ys → Distinct (flat_map (λ q. contributions_in q.0 q.1) (enumerate_from b ms) ++ ys)
in_modules b [] ys none rest = rest
in_modules b (m ∷ ms) ys none rest =
    let others : List Part = flat_map (λ q. contributions_in q.0 q.1) (enumerate_from (b + 1) ms) in
    moved (append_assoc (contributions_in b m) others ys)
    (in_module b 1 m.segs (others ++ ys) (λ i. later b i (b + 1) ms ys (omega arith) (none b i)) (in_modules (b + 1) ms ys none rest))
  where
    moved : {xs zs : List Part} → zs ≡ xs → Distinct xs → Distinct zs
    moved e d = rw e d

-- ---- the communals

module _ (l : Link) where
  none_of : (n i s : ℕ) (cs : List (List ℕ × Common)) → absent (Segment n i) (map (λ q. of_common l q.0 q.1.1) (enumerate_from s cs))
  none_of n i s [] = refl
  none_of n i s (c ∷ cs) = none_of n i (s + 1) cs

  no_slot : (a s : ℕ) (cs : List (List ℕ × Common)) → a < s → absent (Communal a) (map (λ q. of_common l q.0 q.1.1) (enumerate_from s cs))
  no_slot a s [] lt = refl
  no_slot a s (c ∷ cs) lt = ap (λ (b : Bool). b || list_any (λ q. same_origin (Communal a) q.origin) (map (λ q. of_common l q.0 q.1.1) (enumerate_from (s + 1) cs))) (apart a s lt) ∙ no_slot a (s + 1) cs (omega arith)

  slots : (s : ℕ) (cs : List (List ℕ × Common)) → Distinct (map (λ q. of_common l q.0 q.1.1) (enumerate_from s cs))
  slots s [] = tt
  slots s (c ∷ cs) = (no_slot s (s + 1) cs (omega arith), slots (s + 1) cs)

  pub parts-distinct : Distinct (parts l)
  unfolding parts
  parts-distinct = in_modules 1 l.modules (communals l) (λ n i. none_of n i 0 (commons l)) (slots 0 (commons l))

-- An earlier part has another origin.
pub earlier-other : (ps : List Part) → Distinct ps → (i j : ℕ) (d : Part) → i < j → j < length ps → same_origin (get_or ps i d).origin (get_or ps j d).origin ≡ false
earlier-other [] distinct i j d lt below = absurd (omega arith)
earlier-other (p ∷ ps) distinct zero zero d lt below = absurd (omega arith)
earlier-other (p ∷ ps) distinct zero (suc j) d lt below = any_get (λ q. same_origin p.origin q.origin) ps j d distinct.0 (omega arith)
earlier-other (p ∷ ps) distinct (suc i) zero d lt below = absurd (omega arith)
earlier-other (p ∷ ps) distinct (suc i) (suc j) d lt below = earlier-other ps distinct.1 i j d (omega arith) (omega arith)

-- ---- with the linker's own stack

no_own : (o : Origin) (b : Bool) → same_origin o own_stack.origin ≡ false → absent o (cond b (own_stack ∷ []) [])
no_own o true e = ap (λ (t : Bool). t || false) e
no_own o false e = refl

one_own : (b : Bool) → Distinct (cond b (own_stack ∷ []) [])
one_own true = (refl, tt)
one_own false = tt

module _ (l : Link) where
  slots_before : (s : ℕ) (cs : List (List ℕ × Common)) (ys : List Part) → ((a : ℕ) → absent (Communal a) ys) → Distinct ys → Distinct (map (λ q. of_common l q.0 q.1.1) (enumerate_from s cs) ++ ys)
  slots_before s [] ys none rest = rest
  slots_before s (c ∷ cs) ys none rest = (
    list_any-append (λ q. same_origin (Communal s) q.origin) (map (λ q. of_common l q.0 q.1.1) (enumerate_from (s + 1) cs)) ys
        ∙ ap (λ (b : Bool). b || list_any (λ q. same_origin (Communal s) q.origin) ys) (no_slot l s (s + 1) cs (omega arith)) ∙ none s,
    slots_before (s + 1) cs ys none rest,
  )

  pub all-distinct : Distinct (parts l ++ own_stacks l)
  unfolding parts
  all-distinct =
      let own : Bool = is_program l.def.kind && not (list_any is_stack (parts l)) in
      same (append_assoc (contributions l) (communals l) (own_stacks l))
      (in_modules 1 l.modules (communals l ++ own_stacks l)
      (λ n i. list_any-append (λ q. same_origin (Segment n i) q.origin) (communals l) (own_stacks l)
      ∙ ap (λ (b : Bool). b || list_any (λ q. same_origin (Segment n i) q.origin) (own_stacks l)) (none_of l n i 0 (commons l)) ∙ no_own (Segment n i) own refl)
      (slots_before 0 (commons l) (own_stacks l) (λ a. no_own (Communal a) own refl) (one_own own)))
    where
      same : {xs zs : List Part} → zs ≡ xs → Distinct xs → Distinct zs
      same e d = rw e d

absent_kept : (o : Origin) (c : Part → Bool) (ps : List Part) → absent o ps → absent o (filter c ps)
absent_kept o c [] e = refl
absent_kept o c (p ∷ ps) e = by (same_origin o p.origin) (c p) e (λ f. absent_kept o c ps f) refl
  where
    by : (t k : Bool) → (t || list_any (λ q. same_origin o q.origin) ps) ≡ false → (absent o ps → absent o (filter c ps)) → same_origin o p.origin ≡ t → absent o (cond k (p ∷ filter c ps) (filter c ps))
    by true k f rest is = cc
    by false true f rest is = ap (λ (b : Bool). b || list_any (λ q. same_origin o q.origin) (filter c ps)) is ∙ rest f
    by false false f rest is = rest f

pub kept-distinct : (c : Part → Bool) (ps : List Part) → Distinct ps → Distinct (filter c ps)
kept-distinct c [] d = tt
kept-distinct c (p ∷ ps) d = by (c p) (absent_kept p.origin c ps d.0) (kept-distinct c ps d.1)
  where
    by : (k : Bool) → absent p.origin (filter c ps) → Distinct (filter c ps) → Distinct (cond k (p ∷ filter c ps) (filter c ps))
    by true e f = (e, f)
    by false e f = f

-- Before a part's origin stand those parts that are before it.
pub before-is : (ps : List Part) → Distinct ps → (i : ℕ) (d : Part) → i < length ps → before (get_or ps i d).origin ps ≡ take i ps
before-is [] distinct i d lt = absurd (omega arith)
before-is (p ∷ ps) distinct zero d lt = ap (λ (b : Bool). cond b [] (p ∷ before p.origin ps)) (origin_itself p.origin)
before-is (p ∷ ps) distinct (suc i) d lt =
    ap (λ (b : Bool). cond b [] (p ∷ before (get_or ps i d).origin ps)) (any_get (λ q. same_origin p.origin q.origin) ps i d distinct.0 (omega arith))
    ∙ ap (λ (t : List Part). p ∷ t) (before-is ps distinct.1 i d (omega arith))

pub offsets-are : OffsetsAre
offsets-are l r i d lt plain =
    let ps : List Part = parts_of l r.segment in
    let p : Part = get_or ps i d in
    ap (λ (b : Bool). cond b r.start (aligned (end_of_parts r.start (before p.origin ps)) p)) plain
    ∙ ap (λ (t : List Part). aligned (end_of_parts r.start t) p) (before-is ps (kept-distinct (joins r.segment) (parts l ++ own_stacks l) (all-distinct l)) i d lt)
