-- The walk over parts that finds the first of mixed use.
use Rattle.std.specs.Prelude.{◌≡◌, ℕ, suc, ◌<◌, ◌==◌, Bool, true, false, cond, not, ◌&&◌, ◌||◌, List, [], ◌∷◌, ◌++◌, Option, Some, None, length, get_or, set, filter, refl}
use Rattle.std.specs.List.{list_any}
use Rattle.std.specs.Bool.{beq}
use Rattle.std.proofs.Common.{ap, sym, ◌∙◌, arith, subst}
use Rattle.std.proofs.lemmas.Bool.{eqb-true, eq-eqb, and_from, and_parts}
use Rattle.std.proofs.lemmas.List.{get_or-set_same, get_or-set_other, length-set}
use Rattle.std.proofs.lemmas.List.Folds.{list_any-append, list_any_at}
use Rattle.std.proofs.Math.Bool.{or-false, or-true}
use Rattle.lx_types.proofs.Lists.{any_filter, any_weaker}
use Rattle.link_model.specs.Words.{option_any}
use Rattle.link_model.specs.Parts.{Part, joins}
use Rattle.link_model.proofs.KeyTests.{joining}
use Rattle.seg_merge.specs.Membership.{AreGroupsOf}
use Rattle.seg_merge.specs.Uses.{conflicts, mixed_by, AreSet, AddsAfter}
use Rattle.seg_merge.proofs.GroupPlaces.{any_get}

-- ---- of truth values

flip : (a b : Bool) → not (beq a b) ≡ true → a ≡ not b
flip true true e = cc
flip true false e = refl
flip false true e = refl
flip false false e = cc

level : (a b : Bool) → not (beq a b) ≡ false → a ≡ b
level true true e = refl
level true false e = cc
level false true e = cc
level false false e = refl

apart_not : (w : Bool) → beq w (not w) ≡ false
apart_not true = refl
apart_not false = refl

beq_itself : (w : Bool) → beq w w ≡ true
beq_itself true = refl
beq_itself false = refl

never_both : (a b : Bool) → (a ≡ true → b ≡ true → ⊥) → (a && b) ≡ false
never_both true true f = absurd (f refl refl)
never_both true false f = refl
never_both false b f = refl

pub clash : {b : Bool} → b ≡ true → b ≡ false → ⊥
clash e f = absurd (no (sym e ∙ f))
  where
    no : true ≡ false → ⊥
    no e = cc

-- ---- of searches

pub any-none : {X : Type 0} (p : X → Bool) (xs : List X) → ((k : ℕ) (d : X) → k < length xs → p (get_or xs k d) ≡ false) → list_any p xs ≡ false
any-none p [] h = refl
any-none p (x ∷ xs) h = ap (λ (b : Bool). b || list_any p xs) (h 0 x (omega arith)) ∙ any-none p xs (λ k d lt. h (suc k) d (omega arith))

either : {P : Type 0} (a b : Bool) → (a || b) ≡ true → (a ≡ true → P) → (b ≡ true → P) → P
either true b e f g = f refl
either false b e f g = g e

pub any-found : {X : Type 0} {P : Type 0} (p : X → Bool) (xs : List X) (d : X) → list_any p xs ≡ true → ((k : ℕ) → k < length xs → p (get_or xs k d) ≡ true → P) → P
any-found p [] d e f = cc
any-found p (x ∷ xs) d e f =
    either (p x) (list_any p xs) e (λ is. f 0 (omega arith) is) (λ rest. any-found p xs d rest (λ k lt h. f (suc k) (omega arith) h))

-- ---- the parts of one use

-- Some part that passes has this use.
abbrev pub marks : (Part → Bool) → List Part → Bool → Bool
marks test ps w = list_any (λ q. test q && beq q.wide w) ps

-- The parts that pass have one use, where there are any, and it is known.
abbrev pub IsUse : Option Bool → (Part → Bool) → List Part → Type 0
IsUse known test ps = (w : Bool) → marks test ps w ≡ option_any (λ v. beq v w) known

marks-more : (test : Part → Bool) (ps : List Part) (p : Part) (w : Bool) → marks test (ps ++ p ∷ []) w ≡ (marks test ps w || (test p && beq p.wide w))
marks-more test ps p w =
    list_any-append (λ q. test q && beq q.wide w) ps (p ∷ []) ∙ ap (λ (b : Bool). marks test ps w || b) (or-false (test p && beq p.wide w))

-- Another part.
use-other : (known : Option Bool) (test : Part → Bool) (ps : List Part) (p : Part) → test p ≡ false → IsUse known test ps → IsUse known test (ps ++ p ∷ [])
use-other known test ps p is old w =
    marks-more test ps p w ∙ ap (λ (b : Bool). marks test ps w || (b && beq p.wide w)) is ∙ or-false (marks test ps w) ∙ old w

-- One more of the same use.
use-more : (known : Option Bool) (test : Part → Bool) (ps : List Part) (p : Part) → test p ≡ true → conflicts p.wide known ≡ false → IsUse known test ps → IsUse (Some p.wide) test (ps ++ p ∷ [])
use-more known test ps p is same old w =
    marks-more test ps p w ∙ ap (λ (b : Bool). marks test ps w || (b && beq p.wide w)) is ∙ ap (λ (b : Bool). b || beq p.wide w) (old w) ∙ by known same
  where
    twice : (b : Bool) → (b || b) ≡ b
    twice true = refl
    twice false = refl

    by : (o : Option Bool) → conflicts p.wide o ≡ false → (option_any (λ v. beq v w) o || beq p.wide w) ≡ beq p.wide w
    by None e = refl
    by (Some v) e = ap (λ (u : Bool). beq u w || beq p.wide w) (level v p.wide e) ∙ twice (beq p.wide w)

-- A use that some part has is the known one.
known-by : (known : Option Bool) (w : Bool) → option_any (λ v. beq v w) known ≡ true → known ≡ Some w
known-by None w e = cc
known-by (Some true) true e = refl
known-by (Some true) false e = cc
known-by (Some false) true e = cc
known-by (Some false) false e = refl

conflict-by : (known : Option Bool) (w : Bool) → conflicts w known ≡ option_any (λ v. beq v (not w)) known
conflict-by None w = refl
conflict-by (Some true) true = refl
conflict-by (Some true) false = refl
conflict-by (Some false) true = refl
conflict-by (Some false) false = refl

-- ---- one link

abbrev pub differ_by : (List ℕ → Part → Bool) → List (List ℕ) → Part → Part → Bool
differ_by is_in names a b = not (beq a.wide b.wide) && (joins a b || list_any (λ g. is_in g b) (filter (λ g. is_in g a) names))

-- What is known of logical segments and of groups after some parts.
pub record Known (is_in : List ℕ → Part → Bool) (names : List (List ℕ)) (heads : List Part) (ps : List Part) (segs uses : List (Option Bool)) : Type 0 where
  pub as_many_segments : length segs ≡ length heads
  pub as_many_groups : length uses ≡ length names
  pub segments : (k : ℕ) (h : Part) → k < length heads → IsUse (get_or segs k None) (joins (get_or heads k h)) ps
  pub groups : (g : ℕ) (n : List ℕ) → g < length names → IsUse (get_or uses g None) (is_in (get_or names g n)) ps

module _ (is_in : List ℕ → Part → Bool) (names : List (List ℕ)) (heads : List Part) (lists : List (List ℕ)) (are : AreGroupsOf is_in names heads lists)
    (alike : (g : List ℕ) (a b : Part) → joins a b ≡ true → is_in g a ≡ is_in g b) (ps : List Part) (segs uses : List (Option Bool)) (known : Known is_in names heads ps segs uses)
    (p : Part) (k : ℕ) (below : k < length heads) (number : (j : ℕ) (h : Part) → j < length heads → joins (get_or heads j h) p ≡ k == j) where
  abbrev head : Part
  head = get_or heads k p

  of_head : joins head p ≡ true
  of_head = number k p below ∙ eq-eqb k k refl

  abbrev gs : List ℕ
  gs = get_or lists k []

  in_lists : (g : ℕ) (n : List ℕ) → g < length names → list_any (λ j. j == g) gs ≡ is_in (get_or names g n) p
  in_lists g n lt = are.members k g [] n p below lt ∙ alike (get_or names g n) head p of_head

  abbrev own : Option Bool
  own = get_or segs k None

  -- ---- where there is a conflict

  by_segment : marks (joins head) ps (not p.wide) ≡ true → list_any (λ q. differ_by is_in names q p) ps ≡ true
  by_segment e =
      any_weaker (λ q. joins head q && beq q.wide (not p.wide)) (λ q. differ_by is_in names q p)
      (λ q f. let two = and_parts (joins head q) (beq q.wide (not p.wide)) f in
      let same : joins q p ≡ true = joining.symm q p ∙ sym (joining.congr head p q of_head) ∙ two.0 in
      and_from (not (beq q.wide p.wide)) (joins q p || list_any (λ g. is_in g p) (filter (λ g. is_in g q) names)) (opposite q.wide p.wide two.1)
      (ap (λ (b : Bool). b || list_any (λ g. is_in g p) (filter (λ g. is_in g q) names)) same)) ps e
    where
      opposite : (a b : Bool) → beq a (not b) ≡ true → not (beq a b) ≡ true
      opposite true true e = cc
      opposite true false e = refl
      opposite false true e = refl
      opposite false false e = cc

  by_group : (g : ℕ) (n : List ℕ) → g < length names → is_in (get_or names g n) p ≡ true → marks (is_in (get_or names g n)) ps (not p.wide) ≡ true → list_any (λ q. differ_by is_in names q p) ps ≡ true
  by_group g n lt has e =
      let name : List ℕ = get_or names g n in
      any_weaker (λ q. is_in name q && beq q.wide (not p.wide)) (λ q. differ_by is_in names q p)
      (λ q f. let two = and_parts (is_in name q) (beq q.wide (not p.wide)) f in
      let shared : list_any (λ h. is_in h p) (filter (λ h. is_in h q) names) ≡ true =
      any_filter (λ h. is_in h p) (λ h. is_in h q) names ∙ list_any_at (λ h. is_in h q && is_in h p) names g n lt (and_from (is_in name q) (is_in name p) two.0 has) in
      and_from (not (beq q.wide p.wide)) (joins q p || list_any (λ h. is_in h p) (filter (λ h. is_in h q) names)) (opposite q.wide p.wide two.1)
      (ap (λ (b : Bool). joins q p || b) shared ∙ or-true (joins q p))) ps e
    where
      opposite : (a b : Bool) → beq a (not b) ≡ true → not (beq a b) ≡ true
      opposite true true e = cc
      opposite true false e = refl
      opposite false true e = refl
      opposite false false e = cc

  without : marks (joins head) ps (not p.wide) ≡ false → ((g : ℕ) (n : List ℕ) → g < length names → is_in (get_or names g n) p ≡ true → marks (is_in (get_or names g n)) ps (not p.wide) ≡ false) →
      list_any (λ q. differ_by is_in names q p) ps ≡ false
  without none others =
      any-none (λ q. differ_by is_in names q p) ps (λ i d lt. let q : Part = get_or ps i d in
      never_both (not (beq q.wide p.wide)) (joins q p || list_any (λ g. is_in g p) (filter (λ g. is_in g q) names))
      (λ turned shared. let wide : beq q.wide (not p.wide) ≡ true = ap (λ (w : Bool). beq w (not p.wide)) (flip q.wide p.wide turned) ∙ beq_itself (not p.wide) in
      clash shared (ap (λ (b : Bool). b || list_any (λ g. is_in g p) (filter (λ g. is_in g q) names))
      (joining.symm q p ∙ sym (joining.congr head p q of_head) ∙ alone (joins head q) (beq q.wide (not p.wide)) wide (any_get (λ r. joins head r && beq r.wide (not p.wide)) ps i d none lt))
      ∙ any_filter (λ g. is_in g p) (λ g. is_in g q) names
      ∙ any-none (λ g. is_in g q && is_in g p) names (λ g n under. never_both (is_in (get_or names g n) q) (is_in (get_or names g n) p)
      (λ one two. clash one (alone (is_in (get_or names g n) q) (beq q.wide (not p.wide)) wide (any_get (λ r. is_in (get_or names g n) r && beq r.wide (not p.wide)) ps i d (others g n under two) lt)))))))
    where
      alone : (a b : Bool) → b ≡ true → (a && b) ≡ false → a ≡ false
      alone true true e f = cc
      alone true false e f = cc
      alone false b e f = refl

  -- ---- the test of the walk

  -- Of a later part of a logical segment the groups have its use already.
  group_known : (g : ℕ) (n : List ℕ) (w : Bool) → own ≡ Some w → g < length names → is_in (get_or names g n) p ≡ true → get_or uses g None ≡ Some w
  group_known g n w is lt has =
      let name : List ℕ = get_or names g n in
      let marked : marks (joins head) ps w ≡ true = known.segments k p below w ∙ ap (option_any (λ v. beq v w)) is ∙ beq_itself w in
      let there : marks (is_in name) ps w ≡ true = any_weaker (λ q. joins head q && beq q.wide w) (λ q. is_in name q && beq q.wide w)
      (λ q f. let two = and_parts (joins head q) (beq q.wide w) f in
      and_from (is_in name q) (beq q.wide w) (sym (alike name head q two.0) ∙ alike name head p of_head ∙ has) two.1) ps marked in
      known-by (get_or uses g None) w (sym (known.groups g n lt w) ∙ there)

  pub mixed-is : mixed_by p.wide gs uses own ≡ list_any (λ q. differ_by is_in names q p) ps
  mixed-is = by own refl
    where
      first : (b : Bool) → own ≡ None → list_any (λ g. conflicts p.wide (get_or uses g None)) gs ≡ b → b ≡ list_any (λ q. differ_by is_in names q p) ps
      first true is e =
          any-found (λ g. conflicts p.wide (get_or uses g None)) gs 0 e (λ i lt found. let g : ℕ = get_or gs i 0 in
          let under : g < length names = are.below k [] (omega (arith, below, are.one_each)) i 0 lt in
          let has : is_in (get_or names g []) p ≡ true = sym (in_lists g [] under) ∙ list_any_at (λ j. j == g) gs i 0 lt (eq-eqb g g refl) in
          sym (by_group g [] under has (known.groups g [] under (not p.wide) ∙ sym (conflict-by (get_or uses g None) p.wide) ∙ found)))
      first false is e =
          sym (without (known.segments k p below (not p.wide) ∙ ap (option_any (λ v. beq v (not p.wide))) is)
          (λ g n under has. known.groups g n under (not p.wide) ∙ sym (conflict-by (get_or uses g None) p.wide)
          ∙ any-found {P = conflicts p.wide (get_or uses g None) ≡ false} (λ j. j == g) gs 0 (in_lists g n under ∙ has)
          (λ i lt same. ap (λ (j : ℕ). conflicts p.wide (get_or uses j None)) (sym (eqb-true (get_or gs i 0) g same)) ∙ any_get (λ j. conflicts p.wide (get_or uses j None)) gs i 0 e lt)))

      later : (v : Bool) (b : Bool) → own ≡ Some v → not (beq v p.wide) ≡ b → b ≡ list_any (λ q. differ_by is_in names q p) ps
      later v true is e =
          sym (by_segment (known.segments k p below (not p.wide) ∙ ap (option_any (λ u. beq u (not p.wide))) is
          ∙ ap (λ (u : Bool). beq u (not p.wide)) (flip v p.wide e) ∙ beq_itself (not p.wide)))
      later v false is e =
          let same : v ≡ p.wide = level v p.wide e in
          sym (without (known.segments k p below (not p.wide) ∙ ap (option_any (λ u. beq u (not p.wide))) is ∙ ap (λ (u : Bool). beq u (not p.wide)) same ∙ apart_not p.wide)
          (λ g n under has. known.groups g n under (not p.wide) ∙ ap (option_any (λ u. beq u (not p.wide))) (group_known g n v is under has)
          ∙ ap (λ (u : Bool). beq u (not p.wide)) same ∙ apart_not p.wide))

      by : (o : Option Bool) → own ≡ o → mixed_by p.wide gs uses o ≡ list_any (λ q. differ_by is_in names q p) ps
      by None is = first (list_any (λ g. conflicts p.wide (get_or uses g None)) gs) is refl
      by (Some v) is = later v (not (beq v p.wide)) is refl

  -- ---- one part more

  pub known-more : (new_segs new_uses : List (Option Bool)) → mixed_by p.wide gs uses own ≡ false → AddsAfter p.wide k gs segs uses new_segs new_uses own → Known is_in names heads (ps ++ p ∷ []) new_segs new_uses
  known-more new_segs new_uses fits adds = by own refl fits adds
    where
      first : own ≡ None → list_any (λ g. conflicts p.wide (get_or uses g None)) gs ≡ false → new_segs ≡ set segs k (Some p.wide) → AreSet p.wide gs uses new_uses → Known is_in names heads (ps ++ p ∷ []) new_segs new_uses
      first is fit grown sets =
          record {
            as_many_segments = ap length grown ∙ length-set segs k (Some p.wide) ∙ known.as_many_segments;
            as_many_groups = sets.as_many ∙ known.as_many_groups;
            segments = λ j h lt. of_segment j h (k == j) refl lt;
            groups = λ g n lt. of_group g n (is_in (get_or names g n) p) refl lt;
          }
        where
          of_segment : (j : ℕ) (h : Part) (b : Bool) → k == j ≡ b → j < length heads → IsUse (get_or new_segs j None) (joins (get_or heads j h)) (ps ++ p ∷ [])
          of_segment j h true same lt =
              let at : k ≡ j = eqb-true k j same in
              let value : get_or new_segs j None ≡ Some p.wide =
              ap (λ (t : List (Option Bool)). get_or t j None) grown ∙ ap (λ (i : ℕ). get_or (set segs k (Some p.wide)) i None) (sym at)
              ∙ get_or-set_same segs k (Some p.wide) None (omega (arith, below, known.as_many_segments)) in
              let old : get_or segs j None ≡ None = ap (λ (i : ℕ). get_or segs i None) (sym at) ∙ is in
              subst (λ (o : Option Bool). IsUse o (joins (get_or heads j h)) (ps ++ p ∷ [])) (sym value)
              (use-more (get_or segs j None) (joins (get_or heads j h)) ps p (number j h lt ∙ same) (ap (conflicts p.wide) old) (known.segments j h lt))
          of_segment j h false same lt =
              let value : get_or new_segs j None ≡ get_or segs j None =
              ap (λ (t : List (Option Bool)). get_or t j None) grown ∙ get_or-set_other segs k j (Some p.wide) None (λ e. clash (eq-eqb k j (sym e)) same) in
              subst (λ (o : Option Bool). IsUse o (joins (get_or heads j h)) (ps ++ p ∷ [])) (sym value)
              (use-other (get_or segs j None) (joins (get_or heads j h)) ps p (number j h lt ∙ same) (known.segments j h lt))

          of_group : (g : ℕ) (n : List ℕ) (b : Bool) → is_in (get_or names g n) p ≡ b → g < length names → IsUse (get_or new_uses g None) (is_in (get_or names g n)) (ps ++ p ∷ [])
          of_group g n true has lt =
              let value : get_or new_uses g None ≡ Some p.wide =
              sets.each g (omega (arith, lt, known.as_many_groups)) ∙ ap (λ (b : Bool). cond b (Some p.wide) (get_or uses g None)) (in_lists g n lt ∙ has) in
              let fine : conflicts p.wide (get_or uses g None) ≡ false =
              any-found {P = conflicts p.wide (get_or uses g None) ≡ false} (λ j. j == g) gs 0 (in_lists g n lt ∙ has)
              (λ i under same. ap (λ (j : ℕ). conflicts p.wide (get_or uses j None)) (sym (eqb-true (get_or gs i 0) g same)) ∙ any_get (λ j. conflicts p.wide (get_or uses j None)) gs i 0 fit under) in
              subst (λ (o : Option Bool). IsUse o (is_in (get_or names g n)) (ps ++ p ∷ [])) (sym value)
              (use-more (get_or uses g None) (is_in (get_or names g n)) ps p has fine (known.groups g n lt))
          of_group g n false has lt =
              let value : get_or new_uses g None ≡ get_or uses g None =
              sets.each g (omega (arith, lt, known.as_many_groups)) ∙ ap (λ (b : Bool). cond b (Some p.wide) (get_or uses g None)) (in_lists g n lt ∙ has) in
              subst (λ (o : Option Bool). IsUse o (is_in (get_or names g n)) (ps ++ p ∷ [])) (sym value)
              (use-other (get_or uses g None) (is_in (get_or names g n)) ps p has (known.groups g n lt))

      later : (v : Bool) → own ≡ Some v → not (beq v p.wide) ≡ false → new_segs ≡ segs → new_uses ≡ uses → Known is_in names heads (ps ++ p ∷ []) new_segs new_uses
      later v is fit e f =
          record {
            as_many_segments = ap length e ∙ known.as_many_segments;
            as_many_groups = ap length f ∙ known.as_many_groups;
            segments = λ j h lt. subst (λ (t : List (Option Bool)). IsUse (get_or t j None) (joins (get_or heads j h)) (ps ++ p ∷ [])) (sym e) (of_segment j h (k == j) refl lt);
            groups = λ g n lt. subst (λ (t : List (Option Bool)). IsUse (get_or t g None) (is_in (get_or names g n)) (ps ++ p ∷ [])) (sym f) (of_group g n (is_in (get_or names g n) p) refl lt);
          }
        where
          fine : (o : Option Bool) → o ≡ Some v → conflicts p.wide o ≡ false
          fine o same = ap (conflicts p.wide) same ∙ fit

          kept : (o : Option Bool) (test : Part → Bool) → o ≡ Some v → test p ≡ true → IsUse o test ps → IsUse o test (ps ++ p ∷ [])
          kept o test same has old =
              subst (λ (t : Option Bool). IsUse t test (ps ++ p ∷ [])) (sym (same ∙ ap (λ (u : Bool). Some u) (level v p.wide fit))) (use-more o test ps p has (fine o same) old)

          of_segment : (j : ℕ) (h : Part) (b : Bool) → k == j ≡ b → j < length heads → IsUse (get_or segs j None) (joins (get_or heads j h)) (ps ++ p ∷ [])
          of_segment j h true same lt =
              kept (get_or segs j None) (joins (get_or heads j h)) (ap (λ (i : ℕ). get_or segs i None) (sym (eqb-true k j same)) ∙ is) (number j h lt ∙ same) (known.segments j h lt)
          of_segment j h false same lt = use-other (get_or segs j None) (joins (get_or heads j h)) ps p (number j h lt ∙ same) (known.segments j h lt)

          of_group : (g : ℕ) (n : List ℕ) (b : Bool) → is_in (get_or names g n) p ≡ b → g < length names → IsUse (get_or uses g None) (is_in (get_or names g n)) (ps ++ p ∷ [])
          of_group g n true has lt = kept (get_or uses g None) (is_in (get_or names g n)) (group_known g n v is lt has) has (known.groups g n lt)
          of_group g n false has lt = use-other (get_or uses g None) (is_in (get_or names g n)) ps p has (known.groups g n lt)

      by : (o : Option Bool) → own ≡ o → mixed_by p.wide gs uses o ≡ false → AddsAfter p.wide k gs segs uses new_segs new_uses o → Known is_in names heads (ps ++ p ∷ []) new_segs new_uses
      by None is fit a = first is fit a.0 a.1
      by (Some v) is fit a = later v is fit a.0 a.1
