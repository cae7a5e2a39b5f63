-- The marks of split groups with one logical segment more.
use Rattle.std.specs.Prelude.{◌≡◌, ℕ, suc, ◌+◌, ◌<◌, Bool, true, false, cond, ◌&&◌, ◌||◌, List, [], ◌∷◌, ◌++◌, Option, Some, None, map, min, fold, take, drop, length, get_or, nat_lt, refl}
use Rattle.std.specs.List.{list_any, find, enumerate_from, range_with_len}
use Rattle.std.specs.Option.{option_map, option_or, unwrap_or}
use Rattle.std.proofs.Common.{ap, sym, ◌∙◌, arith, subst}
use Rattle.std.proofs.lemmas.Bool.Decides.{nat_tests}
use Rattle.std.proofs.lemmas.List.{length-map, map-append, length-take-le}
use Rattle.std.proofs.lemmas.List.Folds.{list_any-append, find-append}
use Rattle.std.proofs.lemmas.List.FromFn.{get_or-map-range_with_len, length-map-range_with_len}
use Rattle.link_model.specs.declared.refusals.LayRefusal.{LayRefusal}
use Rattle.link_model.specs.declared.refusals.LayRefusal.TheVariants.{GroupSplit}
use Rattle.std.specs.Prelude.{Result, Ok, Err}
use Rattle.std.specs.Borrow.{Bor}
use Rattle.std.proofs.Math.Bool.{or-false, or_assoc}
use Rattle.lx_types.specs.declared.name.Name.{Name}
use Rattle.lx_types.specs.Answers.{Answers}
use Rattle.lx_types.specs.declared.fail.Fail.{Fail}
use Rattle.lx_types.specs.declared.fail.Fail.TheVariants.{Said, NoMemory}
use Rattle.link_types.proofs.Lists.{map-more}
use Rattle.seg_parts.proofs.Lists.{split-at}
use Rattle.seg_parts.proofs.Ranges.{range-more}
use Rattle.seg_merge.specs.Splits.{has, differ, first_with_flags, splits, is_split, split_group, marked_group, AreFlagged, AreMarked, HaveFlags, AreSplit}

rows-more : (lists : List (List ℕ)) (flags : List ℕ) (i : ℕ) → first_with_flags (i + 1) lists flags ≡ first_with_flags i lists flags ++ (get_or lists i [], get_or flags i 0) ∷ []
rows-more lists flags i = range-more (λ k. (get_or lists k [], get_or flags k 0)) i

-- ---- the flags of groups

flagged_by : (o : Option (List ℕ × ℕ)) (q : List ℕ × ℕ) (b : Bool) →
    cond b (Some (unwrap_or (option_map (λ (t : List ℕ × ℕ). t.1) o) q.1)) (option_map (λ (t : List ℕ × ℕ). t.1) o) ≡ option_map (λ (t : List ℕ × ℕ). t.1) (option_or o (cond b (Some q) None))
flagged_by None q true = refl
flagged_by None q false = refl
flagged_by (Some p) q true = refl
flagged_by (Some p) q false = refl

pub flags-more : (count : ℕ) (qs : List (List ℕ × ℕ)) (q : List ℕ × ℕ) (known new : List (Option ℕ)) → HaveFlags count qs known → AreFlagged q.1 q.0 known new → HaveFlags count (qs ++ q ∷ []) new
flags-more count qs q known new old are =
    record {
      as_many = are.as_many ∙ old.as_many;
      each = λ g lt. are.each g (omega (arith, lt, old.as_many))
          ∙ ap (λ (o : Option ℕ). cond (has g q.0) (Some (unwrap_or o q.1)) o) (old.each g lt)
          ∙ flagged_by (find (λ t. has g t.0) qs) q (has g q.0)
          ∙ ap (λ (o : Option (List ℕ × ℕ)). option_map (λ t. t.1) o) (sym (find-append (λ t. has g t.0) qs (q ∷ [])));
    }

pub no-flags : (count : ℕ) (known : List (Option ℕ)) → known ≡ map (λ (k : ℕ). let none : Option ℕ = None in none) (range_with_len 0 count) → HaveFlags count [] known
no-flags count known e =
    let f : ℕ → Option ℕ = λ k. None in
    record {
      as_many = ap length e ∙ length-map-range_with_len f 0 count;
      each = λ g lt. ap (λ (t : List (Option ℕ)). get_or t g None) e ∙ get_or-map-range_with_len f 0 count g g None lt (omega arith);
    }

pub flags-step : (count i : ℕ) (lists : List (List ℕ)) (flags : List ℕ) (gs : List ℕ) (f : ℕ) (known new : List (Option ℕ)) → gs ≡ get_or lists i [] → f ≡ get_or flags i 0 →
    HaveFlags count (first_with_flags i lists flags) known → AreFlagged f gs known new → HaveFlags count (first_with_flags (i + 1) lists flags) new
flags-step count i lists flags gs f known new at is old are =
    subst (λ (t : List (List ℕ × ℕ)). HaveFlags count t new)
    (ap (λ (t : List ℕ). first_with_flags i lists flags ++ (t, f) ∷ []) at ∙ ap (λ (n : ℕ). first_with_flags i lists flags ++ (get_or lists i [], n) ∷ []) is ∙ sym (rows-more lists flags i))
    (flags-more count (first_with_flags i lists flags) (gs, f) known new old are)

-- ---- the marks of groups

min_below : (a x g : ℕ) → nat_lt (min a x) g ≡ (nat_lt a g || nat_lt x g)
min_below a x g = grind (arith, nat_tests)

least_below : (gs : List ℕ) (a g : ℕ) → nat_lt (fold (λ (n : ℕ) (j : ℕ). min n j) a gs) g ≡ (nat_lt a g || list_any (λ j. nat_lt j g) gs)
least_below [] a g = sym (or-false (nat_lt a g))
least_below (x ∷ gs) a g =
    least_below gs (min a x) g ∙ ap (λ (b : Bool). b || list_any (λ j. nat_lt j g) gs) (min_below a x g) ∙ or_assoc (nat_lt a g) (nat_lt x g) (list_any (λ j. nat_lt j g) gs)

not_above : (g count : ℕ) → g < count → nat_lt count g ≡ false
not_above g count lt = grind (arith, nat_tests)

pub marks-more : (count : ℕ) (known : List (Option ℕ)) (qs : List (List ℕ × ℕ)) (q : List ℕ × ℕ) (first : ℕ) (split new : List Bool) → first ≡ fold (λ (n : ℕ) (j : ℕ). min n j) count q.0 → AreSplit count known qs split → AreMarked q.1 first known q.0 split new → AreSplit count known (qs ++ q ∷ []) new
marks-more count known qs q first split new is old are =
    record {
      as_many = are.as_many ∙ old.as_many;
      each = λ g lt.
          let below : nat_lt first g ≡ list_any (λ j. nat_lt j g) q.0 =
          ap (λ (n : ℕ). nat_lt n g) is ∙ least_below q.0 count g ∙ ap (λ (b : Bool). b || list_any (λ j. nat_lt j g) q.0) (not_above g count lt) in
          are.each g (omega (arith, lt, old.as_many))
          ∙ ap (λ (b : Bool). b || (has g q.0 && (nat_lt first g || differ (get_or known g None) q.1))) (old.each g lt)
          ∙ ap (λ (b : Bool). list_any (splits g (get_or known g None)) qs || (has g q.0 && (b || differ (get_or known g None) q.1))) below
          ∙ ap (λ (b : Bool). list_any (splits g (get_or known g None)) qs || b) (sym (or-false (splits g (get_or known g None) q)))
          ∙ sym (list_any-append (splits g (get_or known g None)) qs (q ∷ []));
    }

pub no-marks : (count : ℕ) (known : List (Option ℕ)) (split : List Bool) → split ≡ map (λ (k : ℕ). false) (range_with_len 0 count) → AreSplit count known [] split
no-marks count known split e =
    let f : ℕ → Bool = λ k. false in
    record {
      as_many = ap length e ∙ length-map-range_with_len f 0 count;
      each = λ g lt. ap (λ (t : List Bool). get_or t g false) e ∙ get_or-map-range_with_len f 0 count g g false lt (omega arith);
    }

pub marks-step : (count i : ℕ) (known : List (Option ℕ)) (lists : List (List ℕ)) (flags : List ℕ) (gs : List ℕ) (f first : ℕ) (split new : List Bool) → gs ≡ get_or lists i [] → f ≡ get_or flags i 0 → first ≡ fold (λ (n : ℕ) (j : ℕ). min n j) count gs →
    AreSplit count known (first_with_flags i lists flags) split → AreMarked f first known gs split new → AreSplit count known (first_with_flags (i + 1) lists flags) new
marks-step count i known lists flags gs f first split new at is least old are =
    subst (λ (t : List (List ℕ × ℕ)). AreSplit count known t new)
    (ap (λ (t : List ℕ). first_with_flags i lists flags ++ (t, f) ∷ []) at ∙ ap (λ (n : ℕ). first_with_flags i lists flags ++ (get_or lists i [], n) ∷ []) is ∙ sym (rows-more lists flags i))
    (marks-more count known (first_with_flags i lists flags) (gs, f) first split new least old are)

-- ---- the first one

pub find-numbered : {X : Type 0} (p q : ℕ × X → Bool) (s : ℕ) (xs : List X) → ((k : ℕ) (d : X) → k < length xs → p (s + k, get_or xs k d) ≡ q (s + k, get_or xs k d)) → find p (enumerate_from s xs) ≡ find q (enumerate_from s xs)
find-numbered p q s [] same = refl
find-numbered {X} p q s (x ∷ xs) same =
    let none : s + 0 ≡ s = omega arith in
    let first : p (s, x) ≡ q (s, x) = subst (λ (n : ℕ). p (n, x) ≡ q (n, x)) none (same 0 x (omega arith)) in
    ap (λ (b : Bool). cond b (Some (s, x)) (find p (enumerate_from (s + 1) xs))) first
    ∙ ap (λ (o : Option (ℕ × X)). cond (q (s, x)) (Some (s, x)) o)
    (find-numbered p q (s + 1) xs (λ k d lt. let at : s + suc k ≡ s + 1 + k = omega arith in subst (λ (n : ℕ). p (n, get_or xs k d) ≡ q (n, get_or xs k d)) at (same (suc k) d (omega arith))))

pub split-is : (names : List (List ℕ)) (qs : List (List ℕ × ℕ)) (known : List (Option ℕ)) (split : List Bool) → HaveFlags (length names) qs known → AreSplit (length known) known qs split → split_group names qs ≡ marked_group names split
split-is names qs known split flags are =
    ap (λ (o : Option (ℕ × List ℕ)). option_map (λ q. GroupSplit q.1) o)
    (find-numbered (λ q. is_split q.0 qs) (λ q. get_or split q.0 false) 0 names
    (λ k d lt. let none : 0 + k ≡ k = omega arith in subst (λ (n : ℕ). is_split n qs ≡ get_or split n false) (sym none)
    (ap (λ (o : Option ℕ). list_any (splits k o) qs) (sym (flags.each k lt)) ∙ sym (are.each k (omega (arith, lt, flags.as_many))))))

enumerate-append : {X : Type 0} (s : ℕ) (xs ys : List X) → enumerate_from s (xs ++ ys) ≡ enumerate_from s xs ++ enumerate_from (s + length xs) ys
enumerate-append {X} s [] ys = ap (λ (n : ℕ). enumerate_from n ys) (omega arith)
enumerate-append {X} s (x ∷ xs) ys =
    let first : ℕ × X = (s, x) in
    ap (λ (t : List (ℕ × X)). first ∷ t) (enumerate-append (s + 1) xs ys ∙ ap (λ (n : ℕ). enumerate_from (s + 1) xs ++ enumerate_from n ys) (omega arith))

module _ (names : List (Bor Name)) (split : List Bool) (i : ℕ) (x : Bor Name) (lt : i < length names) (is : x ≡ get_or names i x)
    (none : find (λ q. get_or split q.0 false) (enumerate_from 0 (map (λ (n : Bor Name). n.now) (take i names))) ≡ None) where
  found_in : (rest : List (List ℕ)) → find (λ q. get_or split q.0 false) (enumerate_from 0 (map (λ (n : Bor Name). n.now) (take i names) ++ x.now ∷ rest)) ≡ cond (get_or split i false) (Some (i, x.now)) (find (λ q. get_or split q.0 false) (enumerate_from (i + 1) rest))
  found_in rest =
      let before : List (List ℕ) = map (λ (n : Bor Name). n.now) (take i names) in
      let len : 0 + length before ≡ i = omega (arith, length-map (take i names) (λ (n : Bor Name). n.now), length-take-le i names (omega (arith, lt))) in
      ap (find (λ q. get_or split q.0 false)) (enumerate-append 0 before (x.now ∷ rest))
      ∙ find-append (λ q. get_or split q.0 false) (enumerate_from 0 before) (enumerate_from (0 + length before) (x.now ∷ rest))
      ∙ ap (λ (o : Option (ℕ × List ℕ)). option_or o (find (λ q. get_or split q.0 false) (enumerate_from (0 + length before) (x.now ∷ rest)))) none
      ∙ ap (λ (n : ℕ). find (λ q. get_or split q.0 false) (enumerate_from n (x.now ∷ rest))) len

  pub marks-end : get_or split i false ≡ true → marked_group (map (λ (n : Bor Name). n.now) names) split ≡ Some (GroupSplit x.now)
  marks-end marked =
      ap (λ (o : Option (ℕ × List ℕ)). option_map (λ q. GroupSplit q.1) o)
      (ap (λ (t : List (List ℕ)). find (λ q. get_or split q.0 false) (enumerate_from 0 t))
      (ap (map (λ (n : Bor Name). n.now)) (split-at names i x lt is) ∙ map-append (λ (n : Bor Name). n.now) (take i names) (x ∷ drop (i + 1) names))
      ∙ found_in (map (λ (n : Bor Name). n.now) (drop (i + 1) names))
      ∙ ap (λ (b : Bool). cond b (Some (i, x.now)) (find (λ q. get_or split q.0 false) (enumerate_from (i + 1) (map (λ (n : Bor Name). n.now) (drop (i + 1) names))))) marked)

  pub marks-go-on : get_or split i false ≡ false → find (λ q. get_or split q.0 false) (enumerate_from 0 (map (λ (n : Bor Name). n.now) (take (i + 1) names))) ≡ None
  marks-go-on unmarked =
      ap (λ (t : List (List ℕ)). find (λ q. get_or split q.0 false) (enumerate_from 0 t)) (map-more (λ (n : Bor Name). n.now) names i x lt is)
      ∙ found_in [] ∙ ap (λ (b : Bool). cond b (Some (i, x.now)) None) unmarked

pub answers-moved : {A : Type 0} (r : Result A (Fail LayRefusal)) (m s : Option LayRefusal) → s ≡ m → Answers r (λ _. m ≡ None) (λ x. m ≡ Some x) → Answers r (λ _. s ≡ None) (λ x. s ≡ Some x)
answers-moved (Ok v) m s e h = e ∙ h
answers-moved (Err (Said x)) m s e h = e ∙ h
answers-moved (Err NoMemory) m s e h = tt
