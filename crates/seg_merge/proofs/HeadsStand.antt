-- The first parts of logical segments stand for all parts: groups are split in both ways of counting.
use Rattle.std.specs.Prelude.{◌≡◌, ℕ, suc, ◌+◌, ◌<◌, ◌==◌, Bool, true, false, cond, not, ◌&&◌, ◌||◌, List, [], ◌∷◌, Option, Some, None, All, AllPairs, map, take, length, get_or, nat_lt, filter, refl}
use Rattle.std.specs.List.{list_any, find, range_with_len}
use Rattle.std.specs.Option.{option_map}
use Rattle.std.proofs.Common.{ap, sym, ◌∙◌, arith, subst}
use Rattle.std.proofs.lemmas.Bool.{eqb-true, eq-eqb, ltb-true, lt-ltb}
use Rattle.std.proofs.lemmas.Bool.Decides.{nat_tests}
use Rattle.std.proofs.lemmas.List.{get_or-map, get_or-take, length-take-le}
use Rattle.std.proofs.lemmas.List.Elements.{All-cons, All-tail, All-filter}
use Rattle.std.proofs.lemmas.List.Folds.{list_any_at}
use Rattle.lx_types.proofs.Bools.{same_test}
use Rattle.lx_types.proofs.Lists.{any_map, any_filter, any_agree}
use Rattle.link_model.specs.declared.refusals.LayRefusal.TheVariants.{GroupSplit}
use Rattle.link_model.specs.Appearance.{firsts}
use Rattle.link_model.specs.Link.{Link}
use Rattle.link_model.specs.Parts.{Part, joins}
use Rattle.link_model.specs.Communals.{parts}
use Rattle.link_model.specs.Groups.{group_names, in_group}
use Rattle.link_model.specs.Order.{segments}
use Rattle.link_model.specs.Flags.{flags_of}
use Rattle.link_model.specs.LayoutRefusals.{use_mixed, group_split, has_member_of, has_two_flags}
use Rattle.seg_merge.specs.Membership.{AreGroupsOf}
use Rattle.seg_merge.specs.Splits.{has, differ, with_flags, first_flags, splits, is_split, split_group}
use Rattle.seg_merge.proofs.MixedUse.{any-found}
use Rattle.seg_merge.proofs.UseWalk.{in_group-alike}
use Rattle.seg_parts.proofs.Lists.{find_mapped}
use Rattle.seg_merge.proofs.SplitMarks.{find-numbered}
use Rattle.seg_merge.proofs.AgreeingParts.{flags-agree}

-- ---- searches in the first items of keys

-- Items of one key pass alike.
abbrev Alike : {X : Type 0} → (X → X → Bool) → (X → Bool) → List X → Type 0
Alike same p xs = AllPairs (λ x y. same x y ≡ true → p x ≡ p y) xs

All-firsts : {X : Type 0} (same : X → X → Bool) (Q : X → Type 0) (xs : List X) → All Q xs → All Q (firsts same xs)
All-firsts same Q [] all = all
All-firsts same Q (x ∷ xs) all =
    All-cons Q x (filter (λ y. not (same x y)) (firsts same xs)) (all 0 x (omega arith))
    (All-filter (λ y. not (same x y)) Q (firsts same xs) (All-firsts same Q xs (All-tail Q x xs all)))

stays : (p k r s : Bool) → (p ≡ true → k ≡ true) → r ≡ s → ((k && p) || r) ≡ (p || s)
stays true true r s f e = refl
stays true false r s f e = absurd (no (f refl))
  where
    no : false ≡ true → ⊥
    no e = cc
stays false true r s f e = e
stays false false r s f e = e

any-both : {X : Type 0} (p keep : X → Bool) (ys : List X) → All (λ y. p y ≡ true → keep y ≡ true) ys → list_any (λ y. keep y && p y) ys ≡ list_any p ys
any-both p keep [] all = refl
any-both p keep (y ∷ ys) all =
    stays (p y) (keep y) (list_any (λ z. keep z && p z) ys) (list_any p ys) (all 0 y (omega arith))
    (any-both p keep ys (All-tail (λ z. p z ≡ true → keep z ≡ true) y ys all))

find_by : {X : Type 0} (p k : Bool) (y : X) (one rest other : Option X) → (p ≡ true → k ≡ true) → one ≡ cond k (cond p (Some y) rest) rest → rest ≡ other → one ≡ cond p (Some y) other
find_by true true y one rest other f e g = e
find_by true false y one rest other f e g = absurd (no (f refl))
  where
    no : false ≡ true → ⊥
    no e = cc
find_by false true y one rest other f e g = e ∙ g
find_by false false y one rest other f e g = e ∙ g

find_cond : {X : Type 0} (p : X → Bool) (y : X) (ys : List X) (k : Bool) → find p (cond k (y ∷ ys) ys) ≡ cond k (cond (p y) (Some y) (find p ys)) (find p ys)
find_cond p y ys true = refl
find_cond p y ys false = refl

find-kept : {X : Type 0} (p keep : X → Bool) (ys : List X) → All (λ y. p y ≡ true → keep y ≡ true) ys → find p (filter keep ys) ≡ find p ys
find-kept p keep [] all = refl
find-kept p keep (y ∷ ys) all =
    find_by (p y) (keep y) y (find p (cond (keep y) (y ∷ filter keep ys) (filter keep ys))) (find p (filter keep ys)) (find p ys) (all 0 y (omega arith))
    (find_cond p y (filter keep ys) (keep y)) (find-kept p keep ys (All-tail (λ z. p z ≡ true → keep z ≡ true) y ys all))

apart_by : (same p q : Bool) → (same ≡ true → p ≡ q) → p ≡ false → q ≡ true → not same ≡ true
apart_by true p q f e g = absurd (no (sym (f refl ∙ g) ∙ e))
  where
    no : true ≡ false → ⊥
    no e = cc
apart_by false p q f e g = refl

Alike-tail : {X : Type 0} (same : X → X → Bool) (p : X → Bool) (x : X) (xs : List X) → Alike same p (x ∷ xs) → Alike same p xs
Alike-tail same p x xs alike = λ i j d lt below. alike (suc i) (suc j) d (omega arith) (omega arith)

others-kept : {X : Type 0} (same : X → X → Bool) (p : X → Bool) (x : X) (xs : List X) → Alike same p (x ∷ xs) → p x ≡ false → All (λ y. p y ≡ true → not (same x y) ≡ true) (firsts same xs)
others-kept same p x xs alike none =
    All-firsts same (λ y. p y ≡ true → not (same x y) ≡ true) xs
    (λ k d lt is. apart_by (same x (get_or xs k d)) (p x) (p (get_or xs k d)) (alike 0 (suc k) d (omega arith) (omega arith)) none is)

any_heads_by : {X : Type 0} (same : X → X → Bool) (p : X → Bool) (x : X) (xs : List X) (b : Bool) → Alike same p (x ∷ xs) → p x ≡ b → list_any p (firsts same xs) ≡ list_any p xs → (b || list_any p (filter (λ y. not (same x y)) (firsts same xs))) ≡ (b || list_any p xs)
any_heads_by same p x xs true alike is rest = refl
any_heads_by same p x xs false alike is rest =
    any_filter p (λ y. not (same x y)) (firsts same xs) ∙ any-both p (λ y. not (same x y)) (firsts same xs) (others-kept same p x xs alike is) ∙ rest

pub any-heads : {X : Type 0} (same : X → X → Bool) (p : X → Bool) (xs : List X) → Alike same p xs → list_any p (firsts same xs) ≡ list_any p xs
any-heads same p [] alike = refl
any-heads same p (x ∷ xs) alike = any_heads_by same p x xs (p x) alike refl (any-heads same p xs (Alike-tail same p x xs alike))

find_heads_by : {X : Type 0} (same : X → X → Bool) (p : X → Bool) (x : X) (xs : List X) (b : Bool) → Alike same p (x ∷ xs) → p x ≡ b → find p (firsts same xs) ≡ find p xs → cond b (Some x) (find p (filter (λ y. not (same x y)) (firsts same xs))) ≡ cond b (Some x) (find p xs)
find_heads_by same p x xs true alike is rest = refl
find_heads_by same p x xs false alike is rest = find-kept p (λ y. not (same x y)) (firsts same xs) (others-kept same p x xs alike is) ∙ rest

pub find-heads : {X : Type 0} (same : X → X → Bool) (p : X → Bool) (xs : List X) → Alike same p xs → find p (firsts same xs) ≡ find p xs
find-heads same p [] alike = refl
find-heads same p (x ∷ xs) alike = find_heads_by same p x xs (p x) alike refl (find-heads same p xs (Alike-tail same p x xs alike))

-- ---- two flags

some_in : {X : Type 0} (c : X → Bool) (xs : List X) → nat_lt 1 (suc (length (filter c xs))) ≡ list_any c xs
some_in c [] = refl
some_in {X} c (x ∷ xs) = by (c x) (some_in c xs)
  where
    more : (n : ℕ) → nat_lt 1 (suc (suc n)) ≡ true
    more n = grind (arith, nat_tests)

    by : (b : Bool) → nat_lt 1 (suc (length (filter c xs))) ≡ list_any c xs → nat_lt 1 (suc (length (cond b (x ∷ filter c xs) (filter c xs)))) ≡ (b || list_any c xs)
    by true e = more (length (filter c xs))
    by false e = e

not_itself : (n : ℕ) → not (n == n) ≡ false
not_itself n = ap not (eq-eqb n n refl)

two_by : {X : Type 0} (p : X → Bool) (f : X → ℕ) (x : X) (xs : List X) (b : Bool) → nat_lt 1 (length (firsts (λ m n. m == n) (map f (filter p xs)))) ≡ list_any (λ y. p y && differ (option_map f (find p xs)) (f y)) xs →
    nat_lt 1 (length (firsts (λ m n. m == n) (map f (cond b (x ∷ filter p xs) (filter p xs))))) ≡ ((b && differ (option_map f (cond b (Some x) (find p xs))) (f x)) || list_any (λ y. p y && differ (option_map f (cond b (Some x) (find p xs))) (f y)) xs)
two_by p f x xs true e =
    let rest : List ℕ = map f (filter p xs) in
    some_in (λ n. not (f x == n)) (firsts (λ m n. m == n) rest)
    ∙ any-heads (λ m n. m == n) (λ n. not (f x == n)) rest (λ i j d lt below same. ap (λ (n : ℕ). not (f x == n)) (eqb-true (get_or rest i d) (get_or rest j d) same))
    ∙ any_map (λ n. not (f x == n)) f (filter p xs)
    ∙ any_filter (λ y. not (f x == f y)) p xs
    ∙ sym (ap (λ (c : Bool). c || list_any (λ y. p y && not (f x == f y)) xs) (not_itself (f x)))
two_by p f x xs false e = e

pub two-flags : {X : Type 0} (p : X → Bool) (f : X → ℕ) (xs : List X) → nat_lt 1 (length (firsts (λ m n. m == n) (map f (filter p xs)))) ≡ list_any (λ y. p y && differ (option_map f (find p xs)) (f y)) xs
two-flags p f [] = refl
two-flags p f (x ∷ xs) = two_by p f x xs (p x) (two-flags p f xs)

-- ---- the groups of one logical segment

or_mixed : (p e d r s : Bool) → ((p && (e || d)) || (r || s)) ≡ (((p && e) || r) || ((p && d) || s))
or_mixed true true d r s = refl
or_mixed true false true true s = refl
or_mixed true false true false s = refl
or_mixed true false false r s = refl
or_mixed false e d r s = refl

any-or : {X : Type 0} (p e d : X → Bool) (xs : List X) → list_any (λ x. p x && (e x || d x)) xs ≡ (list_any (λ x. p x && e x) xs || list_any (λ x. p x && d x) xs)
any-or p e d [] = refl
any-or p e d (x ∷ xs) =
    ap (λ (b : Bool). (p x && (e x || d x)) || b) (any-or p e d xs)
    ∙ or_mixed (p x) (e x) (d x) (list_any (λ y. p y && e y) xs) (list_any (λ y. p y && d y) xs)

module _ (l : Link) (names : List (List ℕ)) (lists : List (List ℕ)) (are : AreGroupsOf (in_group l) names (segments l) lists) where
  -- An earlier group has the logical segment.
  earlier : (k g : ℕ) (h : Part) → k < length (segments l) → g < length names → list_any (λ j. nat_lt j g) (get_or lists k []) ≡ list_any (λ e. in_group l e (get_or (segments l) k h)) (take g names)
  earlier k g h lt under =
      let js : List ℕ = get_or lists k [] in
      let len : length (take g names) ≡ g = length-take-le g names (omega (arith, under)) in
      same_test (list_any (λ j. nat_lt j g) js) (list_any (λ e. in_group l e (get_or (segments l) k h)) (take g names))
      (λ is. any-found (λ j. nat_lt j g) js 0 is (λ i at found. let j : ℕ = get_or js i 0 in
      let below : j < g = ltb-true j g found in
      list_any_at (λ e. in_group l e (get_or (segments l) k h)) (take g names) j [] (omega (arith, below, len))
      (ap (λ (e : List ℕ). in_group l e (get_or (segments l) k h)) (get_or-take g names j [] below)
      ∙ sym (are.members k j [] [] h lt (omega (arith, below, under))) ∙ list_any_at (λ i2. i2 == j) js i 0 at (eq-eqb j j refl))))
      (λ is. any-found (λ e. in_group l e (get_or (segments l) k h)) (take g names) [] is (λ j at found. let below : j < g = omega (arith, at, len) in
      any-found (λ i2. i2 == j) js 0
      (are.members k j [] [] h lt (omega (arith, below, under)) ∙ ap (λ (e : List ℕ). in_group l e (get_or (segments l) k h)) (sym (get_or-take g names j [] below)) ∙ found)
      (λ i there same. list_any_at (λ i2. nat_lt i2 g) js i 0 there (lt-ltb (get_or js i 0) g (let at2 = eqb-true (get_or js i 0) j same in omega (arith, at2, below))))))

-- ---- logical segments by their numbers

any-range : {X : Type 0} (t : ℕ → Bool) (p : X → Bool) (s : ℕ) (xs : List X) → ((k : ℕ) (d : X) → k < length xs → t (s + k) ≡ p (get_or xs k d)) → list_any t (range_with_len s (length xs)) ≡ list_any p xs
any-range t p s [] same = refl
any-range {X} t p s (x ∷ xs) same =
    let none : s + 0 ≡ s = omega arith in
    let first : t s ≡ p x = ap t (sym none) ∙ same 0 x (omega arith) in
    ap (λ (b : Bool). b || list_any t (range_with_len (s + 1) (length xs))) first
    ∙ ap (λ (b : Bool). p x || b) (any-range t p (s + 1) xs (λ k d lt. let at : s + 1 + k ≡ s + suc k = omega arith in ap t at ∙ same (suc k) d (omega arith)))

found_by : {X : Type 0} (f : ℕ → ℕ) (g : X → ℕ) (s : ℕ) (x : X) (b c : Bool) (o : Option ℕ) (r : Option X) → b ≡ c → f s ≡ g x → option_map f o ≡ option_map g r → option_map f (cond b (Some s) o) ≡ option_map g (cond c (Some x) r)
found_by f g s x true true o r e is rest = ap (λ (n : ℕ). Some n) is
found_by f g s x false false o r e is rest = rest
found_by f g s x true false o r e is rest = cc
found_by f g s x false true o r e is rest = cc

pub find-range : {X : Type 0} (t : ℕ → Bool) (f : ℕ → ℕ) (p : X → Bool) (g : X → ℕ) (s : ℕ) (xs : List X) → ((k : ℕ) (d : X) → k < length xs → t (s + k) ≡ p (get_or xs k d)) → ((k : ℕ) (d : X) → k < length xs → f (s + k) ≡ g (get_or xs k d)) →
    option_map f (find t (range_with_len s (length xs))) ≡ option_map g (find p xs)
find-range t f p g s [] same value = refl
find-range t f p g s (x ∷ xs) same value =
    let none : s + 0 ≡ s = omega arith in
    found_by f g s x (t s) (p x) (find t (range_with_len (s + 1) (length xs))) (find p xs) (ap t (sym none) ∙ same 0 x (omega arith)) (ap f (sym none) ∙ value 0 x (omega arith))
    (find-range t f p g (s + 1) xs (λ k d lt. let at : s + 1 + k ≡ s + suc k = omega arith in ap t at ∙ same (suc k) d (omega arith)) (λ k d lt. let at : s + 1 + k ≡ s + suc k = omega arith in ap f at ∙ value (suc k) d (omega arith)))

twice_mapped : {X Y Z : Type 0} (f : Y → Z) (g : X → Y) (o : Option X) → option_map f (option_map g o) ≡ option_map (λ x. f (g x)) o
twice_mapped f g None = refl
twice_mapped f g (Some x) = refl

module _ (l : Link) (lists : List (List ℕ)) (are : AreGroupsOf (in_group l) (group_names l) (segments l) lists) (one_use : use_mixed l ≡ None) where
  abbrev flags : List ℕ
  flags = map (flags_of l) (segments l)

  abbrev row : ℕ → List ℕ × ℕ
  row k = (get_or lists k [], get_or flags k 0)

  in-alike : (n : List ℕ) → Alike joins (in_group l n) (parts l)
  in-alike n = λ i j d lt below same. in_group-alike l n (get_or (parts l) i d) (get_or (parts l) j d) same

  none_more : (k : ℕ) → 0 + k ≡ k
  none_more k = omega arith

  -- The flags of a group's first part.
  first-is : (g : ℕ) (d : List ℕ) → g < length (group_names l) → first_flags g (with_flags lists flags) ≡ option_map (flags_of l) (find (in_group l (get_or (group_names l) g d)) (parts l))
  first-is g d under =
      let n : List ℕ = get_or (group_names l) g d in
      ap (λ (o : Option (List ℕ × ℕ)). option_map (λ q. q.1) o) (sym (find_mapped (λ (q : List ℕ × ℕ). has g q.0) row (range_with_len 0 (length lists))))
      ∙ twice_mapped (λ (q : List ℕ × ℕ). q.1) row (find (λ k. has g (get_or lists k [])) (range_with_len 0 (length lists)))
      ∙ ap (λ (m : ℕ). option_map (λ k. get_or flags k 0) (find (λ k. has g (get_or lists k [])) (range_with_len 0 m))) are.one_each
      ∙ find-range (λ k. has g (get_or lists k [])) (λ k. get_or flags k 0) (in_group l n) (flags_of l) 0 (segments l)
      (λ k h lt. ap (λ (m : ℕ). has g (get_or lists m [])) (none_more k) ∙ are.members k g [] d h lt under)
      (λ k h lt. ap (λ (m : ℕ). get_or flags m 0) (none_more k) ∙ get_or-map (flags_of l) (segments l) k h 0 lt)
      ∙ ap (λ (o : Option Part). option_map (flags_of l) o) (find-heads joins (in_group l n) (parts l) (in-alike n))

  pub split-heads : (g : ℕ) (d : List ℕ) → g < length (group_names l) →
      is_split g (with_flags lists flags) ≡ (has_member_of l (take g (group_names l)) (get_or (group_names l) g d) || has_two_flags l (get_or (group_names l) g d))
  split-heads g d under =
      let n : List ℕ = get_or (group_names l) g d in
      let before : List (List ℕ) = take g (group_names l) in
      let known : Option ℕ = option_map (flags_of l) (find (in_group l n) (parts l)) in
      let test : Part → Bool = λ h. in_group l n h && (list_any (λ e. in_group l e h) before || differ known (flags_of l h)) in
      ap (λ (o : Option ℕ). list_any (splits g o) (with_flags lists flags)) (first-is g d under)
      ∙ any_map (splits g known) row (range_with_len 0 (length lists))
      ∙ ap (λ (m : ℕ). list_any (λ k. splits g known (row k)) (range_with_len 0 m)) are.one_each
      ∙ any-range (λ k. splits g known (row k)) test 0 (segments l)
      (λ k h lt. let head : Part = get_or (segments l) k h in
      ap (λ (m : ℕ). splits g known (row m)) (none_more k)
      ∙ ap (λ (b : Bool). b && (list_any (λ j. nat_lt j g) (get_or lists k []) || differ known (get_or flags k 0))) (are.members k g [] d h lt under)
      ∙ ap (λ (b : Bool). in_group l n head && (b || differ known (get_or flags k 0))) (earlier l (group_names l) lists are k g h lt under)
      ∙ ap (λ (m : ℕ). in_group l n head && (list_any (λ e. in_group l e head) before || differ known m)) (get_or-map (flags_of l) (segments l) k h 0 lt))
      ∙ any-heads joins test (parts l)
      (λ i j e lt below same. let a : Part = get_or (parts l) i e in let b : Part = get_or (parts l) j e in
      ap (λ (t : Bool). t && (list_any (λ c. in_group l c a) before || differ known (flags_of l a))) (in_group-alike l n a b same)
      ∙ ap (λ (t : Bool). in_group l n b && (t || differ known (flags_of l a))) (any_agree (λ c. in_group l c a) (λ c. in_group l c b) (λ c. in_group-alike l c a b same) before)
      ∙ ap (λ (m : ℕ). in_group l n b && (list_any (λ c. in_group l c b) before || differ known m)) (flags-agree l one_use i j e lt below same))
      ∙ any-or (in_group l n) (λ h. list_any (λ e. in_group l e h) before) (λ h. differ known (flags_of l h)) (parts l)
      ∙ ap (λ (b : Bool). has_member_of l before n || b) (sym (two-flags (in_group l n) (flags_of l) (parts l)))

  pub group-split-is : group_split l ≡ split_group (group_names l) (with_flags lists flags)
  group-split-is =
      ap (λ (o : Option (ℕ × List ℕ)). option_map (λ q. GroupSplit q.1) o)
      (find-numbered (λ q. has_member_of l (take q.0 (group_names l)) q.1 || has_two_flags l q.1) (λ q. is_split q.0 (with_flags lists flags)) 0 (group_names l)
      (λ k d lt. sym (subst (λ (m : ℕ). is_split m (with_flags lists flags) ≡ (has_member_of l (take m (group_names l)) (get_or (group_names l) k d) || has_two_flags l (get_or (group_names l) k d))) (sym (none_more k)) (split-heads k d lt))))
