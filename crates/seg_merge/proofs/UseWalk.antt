-- The walk over the parts of a link: the first part of mixed use ends it.
use Rattle.std.specs.Prelude.{◌≡◌, ℕ, ◌+◌, ◌<◌, ◌==◌, Bool, true, false, cond, ◌&&◌, List, [], ◌∷◌, ◌++◌, Option, Some, None, All, map, take, drop, length, get_or, bytes_eq, refl}
use Rattle.std.specs.List.{list_any, range_with_len, position_or_len}
use Rattle.std.specs.Bool.{beq}
use Rattle.std.specs.Option.{option_map, option_or}
use Rattle.std.proofs.Common.{ap, sym, ◌∙◌, arith, subst, append_assoc}
use Rattle.std.proofs.lemmas.List.{append-nil, length-map, get_or-map, length-set}
use Rattle.std.proofs.lemmas.List.FromFn.{get_or-map-range_with_len, length-map-range_with_len}
use Rattle.link_model.specs.declared.refusals.LayRefusal.TheVariants.{UseMixed}
use Rattle.link_model.specs.declared.keys.SegmentKey.{SegmentKey}
use Rattle.link_model.specs.Words.{first_conflict, option_any}
use Rattle.link_model.specs.Link.{Link}
use Rattle.link_model.specs.Parts.{Part, segment_key, same_segment, joins}
use Rattle.link_model.specs.Communals.{parts}
use Rattle.link_model.specs.Groups.{group_names, in_group}
use Rattle.link_model.specs.LayoutRefusals.{differ_in_use, use_mixed}
use Rattle.link_model.proofs.KeyTests.{segment_keys}
use Rattle.link_model.proofs.Tables.{firsts-apart}
use Rattle.seg_parts.specs.LogicalSegments.{heads_of, numbers_of, segment_keys_of}
use Rattle.seg_parts.specs.declared.parts.Part as lent
use Rattle.seg_parts.specs.Parts.{shown}
use Rattle.seg_parts.specs.Members.{all_memberships}
use Rattle.seg_parts.proofs.ClassOrder.{place-is}
use Rattle.seg_parts.proofs.GroupMembers.{groups_of_members}
use Rattle.seg_parts.proofs.Lists.{take-push, split-at}
use Rattle.seg_parts.proofs.Tables.{segments_equal, places-below}
use Rattle.seg_merge.specs.Membership.{AreGroupsOf}
use Rattle.seg_merge.specs.Uses.{mixed_by, AddsAfter}
use Rattle.seg_merge.proofs.GroupPlaces.{key_at, keys_length}
use Rattle.seg_merge.proofs.MixedUse.{Known, mixed-is, known-more}

-- ---- the numbers of parts

pub in_group-alike : (l : Link) (g : List ℕ) (a b : Part) → joins a b ≡ true → in_group l g a ≡ in_group l g b
in_group-alike l g a b e =
    groups_of_members l g a
    ∙ ap (λ (k : SegmentKey). list_any (λ q. bytes_eq q.0 g && same_segment k q.1) (all_memberships l)) (segment_keys.equal (segment_key a) (segment_key b) e)
    ∙ sym (groups_of_members l g b)

number-is : (ps : List Part) (i d : ℕ) (p : Part) → i < length ps → get_or (numbers_of ps) i d ≡ position_or_len (same_segment (segment_key (get_or ps i p))) (segment_keys_of ps)
number-is ps i d p lt =
    let of : SegmentKey → ℕ = λ k. position_or_len (same_segment k) (segment_keys_of ps) in
    get_or-map of (map segment_key ps) i (segment_key p) d (omega (arith, lt, length-map ps segment_key))
    ∙ ap of (get_or-map segment_key ps i p (segment_key p) lt)

pub number-below : (ps : List Part) (i d : ℕ) → i < length ps → get_or (numbers_of ps) i d < length (heads_of ps)
number-below ps i d lt =
    let len : length (numbers_of ps) ≡ length ps = length-map (map segment_key ps) (λ (k : SegmentKey). position_or_len (same_segment k) (segment_keys_of ps)) ∙ length-map ps segment_key in
    let below = places-below same_segment segments_equal (map segment_key ps) i d (omega (arith, lt, len)) in
    omega (arith, below, keys_length ps)

pub number-joins : (ps : List Part) (i d : ℕ) (p : Part) → i < length ps → p ≡ get_or ps i p → (j : ℕ) (h : Part) → j < length (heads_of ps) → joins (get_or (heads_of ps) j h) p ≡ get_or (numbers_of ps) i d == j
number-joins ps i d p lt is j h below =
    ap (λ (k : SegmentKey). same_segment k (segment_key p)) (key_at ps j h below)
    ∙ segments_equal.symm (get_or (segment_keys_of ps) j (segment_key h)) (segment_key p)
    ∙ sym (place-is same_segment segments_equal (segment_key p) (segment_keys_of ps) j (segment_key h) (firsts-apart same_segment (map segment_key ps)) (omega (arith, below, keys_length ps)))
    ∙ ap (λ (q : Part). position_or_len (same_segment (segment_key q)) (segment_keys_of ps) == j) is
    ∙ ap (λ (n : ℕ). n == j) (sym (number-is ps i d p lt))

-- ---- first conflicts

conflict_by : {X : Type 0} (b : Bool) (x : X) (one two rest : Option X) → one ≡ option_or two rest → cond b (Some x) one ≡ option_or (cond b (Some x) two) rest
conflict_by true x one two rest e = refl
conflict_by false x one two rest e = e

pub conflict-append : {X : Type 0} (c : X → X → Bool) (earlier xs ys : List X) → first_conflict c earlier (xs ++ ys) ≡ option_or (first_conflict c earlier xs) (first_conflict c (earlier ++ xs) ys)
conflict-append {X} c earlier [] ys = ap (λ (t : List X). first_conflict c t ys) (sym (append-nil earlier))
conflict-append {X} c earlier (x ∷ xs) ys =
    conflict_by (list_any (λ y. c y x) earlier) x (first_conflict c (earlier ++ x ∷ []) (xs ++ ys)) (first_conflict c (earlier ++ x ∷ []) xs) (first_conflict c (earlier ++ x ∷ xs) ys)
    (conflict-append c (earlier ++ x ∷ []) xs ys ∙ ap (λ (t : List X). option_or (first_conflict c (earlier ++ x ∷ []) xs) (first_conflict c t ys)) (append_assoc earlier (x ∷ []) xs))

-- ---- the walk

-- After some parts without conflict.
abbrev pub Fits : Link → List Part → List (List ℕ) → ℕ → Type 0
Fits l ps lists count = (parts l ≡ ps) × AreGroupsOf (in_group l) (group_names l) (heads_of ps) lists × (length (group_names l) ≡ count)

pub record Walked (ps : List Part) (lists : List (List ℕ)) (count i : ℕ) (segs uses : List (Option Bool)) : Type 0 where
  pub as_many_segments : length segs ≡ length (heads_of ps)
  pub as_many_groups : length uses ≡ count
  pub known : (l : Link) → Fits l ps lists count → Known (in_group l) (group_names l) (heads_of ps) (take i ps) segs uses
  pub none : (l : Link) → Fits l ps lists count → first_conflict (differ_in_use l) [] (take i ps) ≡ None

pub walk-begins : (ps : List Part) (lists : List (List ℕ)) (count n : ℕ) (segs uses : List (Option Bool)) → n ≡ length (heads_of ps) → segs ≡ map (λ (k : ℕ). let none : Option Bool = None in none) (range_with_len 0 n) →
    uses ≡ map (λ (k : ℕ). let none : Option Bool = None in none) (range_with_len 0 count) → Walked ps lists count 0 segs uses
walk-begins ps lists count n segs uses e f g =
    let unknown : ℕ → Option Bool = λ k. None in
    let len_segs : length segs ≡ n = ap length f ∙ length-map-range_with_len unknown 0 n in
    let len_uses : length uses ≡ count = ap length g ∙ length-map-range_with_len unknown 0 count in
    record {
      as_many_segments = len_segs ∙ e;
      as_many_groups = len_uses;
      known = λ l fits. record {
        as_many_segments = len_segs ∙ e;
        as_many_groups = len_uses ∙ sym fits.2;
        segments = λ k h lt w. sym (ap (λ (t : List (Option Bool)). option_any (λ v. beq v w) (get_or t k None)) f ∙ ap (option_any (λ v. beq v w)) (get_or-map-range_with_len unknown 0 n k k None (omega (arith, lt, e)) (omega arith)));
        groups = λ k h lt w. sym (ap (λ (t : List (Option Bool)). option_any (λ v. beq v w) (get_or t k None)) g ∙ ap (option_any (λ v. beq v w)) (get_or-map-range_with_len unknown 0 count k k None (omega (arith, lt, fits.2)) (omega arith)));
      };
      none = λ l fits. refl;
    }

adds_lengths : (w : Bool) (k : ℕ) (gs : List ℕ) (segs uses new_segs new_uses : List (Option Bool)) (o : Option Bool) → AddsAfter w k gs segs uses new_segs new_uses o → (length new_segs ≡ length segs) × (length new_uses ≡ length uses)
adds_lengths w k gs segs uses new_segs new_uses None a = (ap length a.0 ∙ length-set segs k (Some w), a.1.as_many)
adds_lengths w k gs segs uses new_segs new_uses (Some v) a = (ap length a.0, ap length a.1)

module _ (ps : List Part) (lists : List (List ℕ)) (count i : ℕ) (segs uses : List (Option Bool)) (p : Part) (k : ℕ) (gs : List ℕ) (lt : i < length ps) (is : p ≡ get_or ps i p) (at : k ≡ get_or (numbers_of ps) i 0) (own : gs ≡ get_or lists k [])
    (walked : Walked ps lists count i segs uses) where
  below : k < length (heads_of ps)
  below = let under = number-below ps i 0 lt in omega (arith, under, at)

  joined : (j : ℕ) (h : Part) → j < length (heads_of ps) → joins (get_or (heads_of ps) j h) p ≡ k == j
  joined j h under = number-joins ps i 0 p lt is j h under ∙ ap (λ (n : ℕ). n == j) (sym at)

  found : (l : Link) → Fits l ps lists count → mixed_by p.wide gs uses (get_or segs k None) ≡ list_any (λ q. differ_in_use l q p) (take i ps)
  found l fits =
      ap (λ (t : List ℕ). mixed_by p.wide t uses (get_or segs k None)) own
      ∙ mixed-is (in_group l) (group_names l) (heads_of ps) lists fits.1 (in_group-alike l) (take i ps) segs uses (walked.known l fits) p k below joined

  pub walk-ends : mixed_by p.wide gs uses (get_or segs k None) ≡ true → (l : Link) → Fits l ps lists count → use_mixed l ≡ Some (UseMixed p.name)
  walk-ends mixed l fits =
      let before : List Part = take i ps in
      let rest : List Part = drop (i + 1) ps in
      ap (λ (o : Option Part). option_map (λ q. UseMixed q.name) o)
      (ap (first_conflict (differ_in_use l) []) (fits.0 ∙ split-at ps i p lt is) ∙ conflict-append (differ_in_use l) [] before (p ∷ rest)
      ∙ ap (λ (o : Option Part). option_or o (first_conflict (differ_in_use l) before (p ∷ rest))) (walked.none l fits)
      ∙ ap (λ (b : Bool). cond b (Some p) (first_conflict (differ_in_use l) (before ++ p ∷ []) rest)) (sym (found l fits) ∙ mixed))

  pub walk-goes-on : (new_segs new_uses : List (Option Bool)) → mixed_by p.wide gs uses (get_or segs k None) ≡ false → AddsAfter p.wide k gs segs uses new_segs new_uses (get_or segs k None) → Walked ps lists count (i + 1) new_segs new_uses
  walk-goes-on new_segs new_uses fits adds =
      let lens = adds_lengths p.wide k gs segs uses new_segs new_uses (get_or segs k None) adds in
      record {
        as_many_segments = lens.0 ∙ walked.as_many_segments;
        as_many_groups = lens.1 ∙ walked.as_many_groups;
        known = λ l these. subst (λ (t : List Part). Known (in_group l) (group_names l) (heads_of ps) t new_segs new_uses) (sym (take-push ps i p lt is))
            (known-more (in_group l) (group_names l) (heads_of ps) lists these.1 (in_group-alike l) (take i ps) segs uses (walked.known l these) p k below joined new_segs new_uses
            (ap (λ (t : List ℕ). mixed_by p.wide t uses (get_or segs k None)) (sym own) ∙ fits)
            (subst (λ (t : List ℕ). AddsAfter p.wide k t segs uses new_segs new_uses (get_or segs k None)) own adds));
        none = λ l these. ap (first_conflict (differ_in_use l) []) (take-push ps i p lt is) ∙ conflict-append (differ_in_use l) [] (take i ps) (p ∷ [])
            ∙ ap (λ (o : Option Part). option_or o (first_conflict (differ_in_use l) (take i ps) (p ∷ []))) (walked.none l these)
            ∙ ap (λ (b : Bool). cond b (Some p) None) (sym (found l these) ∙ fits);
      }

-- ---- at the parts that are lent

pub number-at : (parts : List lent.Part) (ps : List Part) (numbers : List ℕ) (i : ℕ) → map shown parts ≡ ps → numbers ≡ numbers_of ps → i < length parts → get_or numbers i 0 < length (heads_of ps)
number-at parts ps numbers i e f lt =
    let len : length parts ≡ length ps = sym (length-map parts shown) ∙ ap length e in
    subst (λ (t : List ℕ). get_or t i 0 < length (heads_of ps)) (sym f) (number-below ps i 0 (omega (arith, lt, len)))

pub own-below : {V : Type 0} (items : V → List ℕ) (vs : List V) (n : ℕ) (js : List ℕ) (count m : ℕ) → All (λ v. All (λ g. g < count) (items v)) vs → n < length vs → js ≡ get_or (map items vs) n [] → m ≡ count → All (λ g. g < m) js
own-below {V} items vs n js count m h lt at e = by vs h lt at
  where
    by : (ws : List V) → All (λ v. All (λ g. g < count) (items v)) ws → n < length ws → js ≡ get_or (map items ws) n [] → All (λ g. g < m) js
    by [] f under is = absurd (omega (arith, under))
    by (w ∷ ws) f under is =
        subst (λ (t : ℕ). All (λ g. g < t) js) (sym e)
        (subst (All (λ g. g < count)) (sym (is ∙ get_or-map items (w ∷ ws) n w [] under)) (f n w under))

pub own-is : {V : Type 0} (items : V → List ℕ) (vs : List V) (n : ℕ) (r : V) (js : List ℕ) → n < length vs → r ≡ get_or vs n r → js ≡ items r → js ≡ get_or (map items vs) n []
own-is items vs n r js lt is at = at ∙ ap items is ∙ sym (get_or-map items vs n r [] lt)

pub part-at : (parts : List lent.Part) (ps : List Part) (i : ℕ) (x : lent.Part) → map shown parts ≡ ps → i < length parts → x ≡ get_or parts i x → shown x ≡ get_or ps i (shown x)
part-at parts ps i x e lt is = ap shown is ∙ sym (get_or-map shown parts i x (shown x) lt) ∙ ap (λ (t : List Part). get_or t i (shown x)) e
