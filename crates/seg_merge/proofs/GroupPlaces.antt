-- Which groups the logical segments are in, with one member more.
use Rattle.std.specs.Prelude.{◌≡◌, ℕ, zero, suc, ◌+◌, ◌<◌, ◌==◌, Bool, true, false, cond, ◌&&◌, ◌||◌, List, [], ◌∷◌, ◌++◌, Option, Some, None, All, AllPairs, map, take, length, get_or, set, position, nat_lt, bytes_eq, refl}
use Rattle.std.specs.List.{list_any, position_or_len, range_with_len}
use Rattle.std.specs.Cmp.Lexicographic.{nat_list_eq_equiv}
use Rattle.std.proofs.Common.{ap, sym, ◌∙◌, arith, subst}
use Rattle.std.proofs.lemmas.Bool.{eqb-true, ltb-true}
use Rattle.std.proofs.lemmas.List.{get_or-map, get_or-set_same, get_or-set_other, length-set, length-map, map-set, get_or_default}
use Rattle.std.proofs.lemmas.List.Elements.{All-nil, All-push}
use Rattle.std.proofs.lemmas.List.Folds.{list_any-append}
use Rattle.std.proofs.lemmas.List.FromFn.{get_or-map-range_with_len, length-map-range_with_len}
use Rattle.std.proofs.Math.Bool.{and-true, and-false, or-false}
use Rattle.name_table.proofs.Shown.{any-place}
use Rattle.link_model.specs.declared.keys.SegmentKey.{SegmentKey}
use Rattle.link_model.specs.Parts.{Part, segment_key, same_segment}
use Rattle.link_model.proofs.Tables.{firsts-apart}
use Rattle.seg_parts.specs.declared.members.Member.{Member}
use Rattle.seg_parts.specs.LogicalSegments.{name_shown, heads_of, segment_keys_of}
use Rattle.seg_parts.specs.Members.{member_shown, is_member}
use Rattle.seg_parts.proofs.ClassOrder.{place-is}
use Rattle.link_types.proofs.Lists.{firsts-keys, map-more}
use Rattle.seg_parts.proofs.Tables.{segments_equal}
use Rattle.link_model.proofs.RowEnds.{differs}
use Rattle.seg_merge.specs.Membership.{both, AreGroupsOf}

-- ---- small steps

some_at : (a n k : ℕ) (b : Bool) → cond b (Some a) None ≡ Some k → (b ≡ true) × (a ≡ k)
some_at a n k true e = (refl, cc)
some_at a n k false e = cc

none_at : (a : ℕ) (b : Bool) → cond b (Some a) None ≡ None → b ≡ false
none_at a true e = cc
none_at a false e = refl

-- A key that is found stands where keys are the same as it.
found-at : {K : Type 0} (same : K → K → Bool) (j : K) (ts : List K) (p : ℕ) → position (same j) ts ≡ Some p → (position_or_len (same j) ts ≡ p) × (p < length ts)
found-at same j ts p e =
    let at = some_at (position_or_len (same j) ts) 0 p (nat_lt (position_or_len (same j) ts) (length ts)) e in
    (at.1, subst (λ (n : ℕ). n < length ts) at.1 (ltb-true (position_or_len (same j) ts) (length ts) at.0))

-- A key that is not found is the same as none.
any_by : {K : Type 0} (p : K → Bool) (t : K) (ts : List K) (d : K) (k : ℕ) (b c : Bool) → p t ≡ b → list_any p ts ≡ c → (b || c) ≡ false → k < length (t ∷ ts) → ((i : ℕ) → list_any p ts ≡ false → i < length ts → p (get_or ts i d) ≡ false) → p (get_or (t ∷ ts) k d) ≡ false
any_by p t ts d zero false c is rest h below later = is
any_by p t ts d (suc i) false c is rest h below later = later i (rest ∙ h) (omega (arith, below))
any_by p t ts d i true c is rest h below later = cc

pub any_get : {K : Type 0} (p : K → Bool) (ts : List K) (k : ℕ) (d : K) → list_any p ts ≡ false → k < length ts → p (get_or ts k d) ≡ false
any_get p [] k d e lt = absurd (omega arith)
any_get p (t ∷ ts) k d e lt = any_by p t ts d k (p t) (list_any p ts) refl refl e lt (λ i f under. any_get p ts i d f under)

nowhere : {K : Type 0} (same : K → K → Bool) (j : K) (ts : List K) (k : ℕ) (d : K) → position (same j) ts ≡ None → k < length ts → same j (get_or ts k d) ≡ false
nowhere same j ts k d e lt =
    any_get (same j) ts k d (any-place (same j) ts ∙ none_at (position_or_len (same j) ts) (nat_lt (position_or_len (same j) ts) (length ts)) e) lt

-- ---- one member more

pub member-more : (ms : List (List ℕ × SegmentKey)) (m : List ℕ × SegmentKey) (g : List ℕ) (p : Part) → is_member (ms ++ m ∷ []) g p ≡ (is_member ms g p || (bytes_eq m.0 g && same_segment m.1 (segment_key p)))
member-more ms m g p =
    list_any-append (λ q. bytes_eq q.0 g && same_segment (segment_key p) q.1) ms (m ∷ [])
    ∙ ap (λ (b : Bool). is_member ms g p || b) (or-false (bytes_eq m.0 g && same_segment (segment_key p) m.1))
    ∙ ap (λ (b : Bool). is_member ms g p || (bytes_eq m.0 g && b)) (segments_equal.symm (segment_key p) m.1)

keys_of_heads : (ps : List Part) → map segment_key (heads_of ps) ≡ segment_keys_of ps
keys_of_heads ps = firsts-keys segment_key same_segment ps

pub key_at : (ps : List Part) (k : ℕ) (h : Part) → k < length (heads_of ps) → segment_key (get_or (heads_of ps) k h) ≡ get_or (segment_keys_of ps) k (segment_key h)
key_at ps k h lt = sym (get_or-map segment_key (heads_of ps) k h (segment_key h) lt) ∙ ap (λ (t : List SegmentKey). get_or t k (segment_key h)) (keys_of_heads ps)

pub keys_length : (ps : List Part) → length (heads_of ps) ≡ length (segment_keys_of ps)
keys_length ps = sym (length-map (heads_of ps) segment_key) ∙ ap length (keys_of_heads ps)

has-more : (js : List ℕ) (g0 g : ℕ) → list_any (λ j. j == g) (js ++ g0 ∷ []) ≡ (list_any (λ j. j == g) js || g0 == g)
has-more js g0 g = list_any-append (λ j. j == g) js (g0 ∷ []) ∙ ap (λ (b : Bool). list_any (λ j. j == g) js || b) (or-false (g0 == g))

module _ (ms : List (List ℕ × SegmentKey)) (m : List ℕ × SegmentKey) (names : List (List ℕ)) (ps : List Part) (lists : List (List ℕ)) (old : AreGroupsOf (is_member ms) names (heads_of ps) lists) where
  -- One that is in no group, or in no logical segment.
  pub none-more : both (position (bytes_eq m.0) names) (position (same_segment m.1) (segment_keys_of ps)) ≡ None → AreGroupsOf (is_member (ms ++ m ∷ [])) names (heads_of ps) lists
  none-more none =
      record {
        one_each = old.one_each;
        below = old.below;
        members = λ k g d n h lt under.
            old.members k g d n h lt under ∙ sym (or-false (is_member ms (get_or names g n) (get_or (heads_of ps) k h)))
            ∙ ap (λ (b : Bool). is_member ms (get_or names g n) (get_or (heads_of ps) k h) || b) (sym (apart k g n h (position (bytes_eq m.0) names) (position (same_segment m.1) (segment_keys_of ps)) refl refl none lt under))
            ∙ sym (member-more ms m (get_or names g n) (get_or (heads_of ps) k h));
      }
    where
      apart : (k g : ℕ) (n : List ℕ) (h : Part) (a b : Option ℕ) → position (bytes_eq m.0) names ≡ a → position (same_segment m.1) (segment_keys_of ps) ≡ b → both a b ≡ None → k < length (heads_of ps) → g < length names →
          (bytes_eq m.0 (get_or names g n) && same_segment m.1 (segment_key (get_or (heads_of ps) k h))) ≡ false
      apart k g n h None b e f is lt under = ap (λ (c : Bool). c && same_segment m.1 (segment_key (get_or (heads_of ps) k h))) (nowhere bytes_eq m.0 names g n e under)
      apart k g n h (Some a) None e f is lt under =
          ap (λ (c : Bool). bytes_eq m.0 (get_or names g n) && c) (ap (same_segment m.1) (key_at ps k h lt) ∙ nowhere same_segment m.1 (segment_keys_of ps) k (segment_key h) f (omega (arith, lt, keys_length ps)))
          ∙ and-false (bytes_eq m.0 (get_or names g n))
      apart k g n h (Some a) (Some b) e f is lt under = cc

  module _ (g0 s0 : ℕ) (apart : AllPairs (λ a b. bytes_eq a b ≡ false) names) (places : both (position (bytes_eq m.0) names) (position (same_segment m.1) (segment_keys_of ps)) ≡ Some (g0, s0)) where
    two : (a b : Option ℕ) → both a b ≡ Some (g0, s0) → (a ≡ Some g0) × (b ≡ Some s0)
    two (Some a) (Some b) e =
        let q : ℕ × ℕ = (a, b) in
        let r : ℕ × ℕ = (g0, s0) in
        let same : q ≡ r = cc in
        (ap (λ (t : ℕ × ℕ). Some t.0) same, ap (λ (t : ℕ × ℕ). Some t.1) same)
    two (Some a) None e = cc
    two None (Some b) e = cc
    two None None e = cc

    at_group : (position_or_len (bytes_eq m.0) names ≡ g0) × (g0 < length names)
    at_group = found-at bytes_eq m.0 names g0 (two (position (bytes_eq m.0) names) (position (same_segment m.1) (segment_keys_of ps)) places).0

    at_segment : (position_or_len (same_segment m.1) (segment_keys_of ps) ≡ s0) × (s0 < length (segment_keys_of ps))
    at_segment = found-at same_segment m.1 (segment_keys_of ps) s0 (two (position (bytes_eq m.0) names) (position (same_segment m.1) (segment_keys_of ps)) places).1

    pub segment-below : s0 < length lists
    segment-below = omega (arith, at_segment.1, keys_length ps, old.one_each)

    is_group : (g : ℕ) (n : List ℕ) → g < length names → bytes_eq m.0 (get_or names g n) ≡ g0 == g
    is_group g n under = sym (ap (λ (p : ℕ). p == g) (sym at_group.0) ∙ place-is bytes_eq nat_list_eq_equiv m.0 names g n apart under)

    is_segment : (k : ℕ) (h : Part) → k < length (heads_of ps) → same_segment m.1 (segment_key (get_or (heads_of ps) k h)) ≡ s0 == k
    is_segment k h lt =
        ap (same_segment m.1) (key_at ps k h lt)
        ∙ sym (ap (λ (p : ℕ). p == k) (sym at_segment.0)
        ∙ place-is same_segment segments_equal m.1 (segment_keys_of ps) k (segment_key h) (firsts-apart same_segment (map segment_key ps)) (omega (arith, lt, keys_length ps)))

    pub one-more : (before after : List ℕ) → before ≡ get_or lists s0 before → after ≡ before ++ g0 ∷ [] → AreGroupsOf (is_member (ms ++ m ∷ [])) names (heads_of ps) (set lists s0 after)
    one-more before after at grown =
        record {
          one_each = length-set lists s0 after ∙ old.one_each;
          below = λ k d lt. within k d (s0 == k) refl (omega (arith, lt, length-set lists s0 after));
          members = λ k g d n h lt under. each k g d n h (s0 == k) refl lt under;
        }
      where
        here : (k : ℕ) (d : List ℕ) → s0 == k ≡ true → get_or (set lists s0 after) k d ≡ before ++ g0 ∷ []
        here k d is =
            ap (λ (i : ℕ). get_or (set lists s0 after) i d) (sym (eqb-true s0 k is)) ∙ get_or-set_same lists s0 after d segment-below ∙ grown

        there : (k : ℕ) (d : List ℕ) → s0 == k ≡ false → get_or (set lists s0 after) k d ≡ get_or lists k d
        there k d is = get_or-set_other lists s0 k after d (differs s0 k is)

        within : (k : ℕ) (d : List ℕ) (b : Bool) → s0 == k ≡ b → k < length lists → All (λ g. g < length names) (get_or (set lists s0 after) k d)
        within k d true is lt =
            subst (All (λ g. g < length names)) (sym (here k d is))
            (All-push (λ g. g < length names) before g0 (subst (All (λ g. g < length names)) (sym at) (old.below s0 before segment-below)) at_group.1)
        within k d false is lt = subst (All (λ g. g < length names)) (sym (there k d is)) (old.below k d lt)

        each : (k g : ℕ) (d n : List ℕ) (h : Part) (b : Bool) → s0 == k ≡ b → k < length (heads_of ps) → g < length names →
            list_any (λ j. j == g) (get_or (set lists s0 after) k d) ≡ is_member (ms ++ m ∷ []) (get_or names g n) (get_or (heads_of ps) k h)
        each k g d n h true is lt under =
            let name : List ℕ = get_or names g n in
            let head : Part = get_or (heads_of ps) k h in
            let same : before ≡ get_or lists k before = at ∙ ap (λ (i : ℕ). get_or lists i before) (eqb-true s0 k is) in
            ap (list_any (λ j. j == g)) (here k d is) ∙ has-more before g0 g
            ∙ ap (λ (t : List ℕ). list_any (λ j. j == g) t || g0 == g) same
            ∙ ap (λ (b : Bool). b || g0 == g) (old.members k g before n h lt under)
            ∙ ap (λ (b : Bool). is_member ms name head || b) (sym (is_group g n under) ∙ sym (and-true (bytes_eq m.0 name)) ∙ ap (λ (b : Bool). bytes_eq m.0 name && b) (sym (is_segment k h lt ∙ is)))
            ∙ sym (member-more ms m name head)
        each k g d n h false is lt under =
            let name : List ℕ = get_or names g n in
            let head : Part = get_or (heads_of ps) k h in
            ap (list_any (λ j. j == g)) (there k d is) ∙ old.members k g d n h lt under ∙ sym (or-false (is_member ms name head))
            ∙ ap (λ (b : Bool). is_member ms name head || b) (sym (and-false (bytes_eq m.0 name)) ∙ ap (λ (b : Bool). bytes_eq m.0 name && b) (sym (is_segment k h lt ∙ is)))
            ∙ sym (member-more ms m name head)

-- Without members all lists are empty.
pub none-yet : (names : List (List ℕ)) (heads : List Part) (lists : List (List ℕ)) (count : ℕ) → count ≡ length heads → lists ≡ map (λ (k : ℕ). let none : List ℕ = [] in none) (range_with_len 0 count) → AreGroupsOf (is_member []) names heads lists
none-yet names heads lists count are e =
    let f : ℕ → List ℕ = λ k. [] in
    let len : length lists ≡ count = ap length e ∙ length-map-range_with_len f 0 count in
    let each : (k : ℕ) (d : List ℕ) → k < count → get_or lists k d ≡ [] = λ k d lt. ap (λ (t : List (List ℕ)). get_or t k d) e ∙ get_or-map-range_with_len f 0 count k k d lt (omega arith) in
    record {
      one_each = len ∙ are;
      below = λ k d lt. subst (All (λ g. g < length names)) (sym (each k d (omega (arith, lt, len)))) (All-nil (λ g. g < length names));
      members = λ k g d n h lt under. ap (list_any (λ j. j == g)) (each k d (omega (arith, lt, are)));
    }

-- ---- the loop's step

pub some-step : {V : Type 0} (items : V → List ℕ) (members : List Member) (i : ℕ) (d : Member) → i < length members → (names : List (List ℕ)) (ps : List Part) (vs : List V) (g0 s0 : ℕ) (old new : V) → AllPairs (λ a b. bytes_eq a b ≡ false) names →
    both (position (bytes_eq (get_or members i d).group.now) names) (position (same_segment (name_shown (get_or members i d).segment)) (segment_keys_of ps)) ≡ Some (g0, s0) →
    AreGroupsOf (is_member (map member_shown (take i members))) names (heads_of ps) (map items vs) → old ≡ get_or vs s0 old → items new ≡ items old ++ g0 ∷ [] →
    AreGroupsOf (is_member (map member_shown (take (i + 1) members))) names (heads_of ps) (map items (set vs s0 new))
some-step items members i d lt names ps vs g0 s0 old new apart places are at grown =
    let ms : List (List ℕ × SegmentKey) = map member_shown (take i members) in
    let m : List ℕ × SegmentKey = member_shown (get_or members i d) in
    let below : s0 < length (map items vs) = segment-below ms m names ps (map items vs) are g0 s0 apart places in
    let first : items old ≡ get_or (map items vs) s0 (items old) = ap items at ∙ sym (get_or-map items vs s0 old (items old) (omega (arith, below, length-map vs items))) in
    subst (λ (t : List (List ℕ × SegmentKey)). AreGroupsOf (is_member t) names (heads_of ps) (map items (set vs s0 new))) (sym (map-more member_shown members i (get_or members i d) lt (get_or_default members i d (get_or members i d) lt)))
    (subst (AreGroupsOf (is_member (ms ++ m ∷ [])) names (heads_of ps)) (sym (map-set items vs s0 new)) (one-more ms m names ps (map items vs) are g0 s0 apart places (items old) (items new) first grown))

pub none-step : (members : List Member) (i : ℕ) (d : Member) → i < length members → (names : List (List ℕ)) (ps : List Part) (lists : List (List ℕ)) →
    both (position (bytes_eq (get_or members i d).group.now) names) (position (same_segment (name_shown (get_or members i d).segment)) (segment_keys_of ps)) ≡ None →
    AreGroupsOf (is_member (map member_shown (take i members))) names (heads_of ps) lists → AreGroupsOf (is_member (map member_shown (take (i + 1) members))) names (heads_of ps) lists
none-step members i d lt names ps lists none are =
    subst (λ (t : List (List ℕ × SegmentKey)). AreGroupsOf (is_member t) names (heads_of ps) lists) (sym (map-more member_shown members i (get_or members i d) lt (get_or_default members i d (get_or members i d) lt)))
    (none-more (map member_shown (take i members)) (member_shown (get_or members i d)) names ps lists are none)

pub step-below : {V : Type 0} (items : V → List ℕ) (members : List Member) (i : ℕ) (d : Member) (names : List (List ℕ)) (ps : List Part) (vs : List V) (g0 s0 : ℕ) → AllPairs (λ a b. bytes_eq a b ≡ false) names →
    both (position (bytes_eq (get_or members i d).group.now) names) (position (same_segment (name_shown (get_or members i d).segment)) (segment_keys_of ps)) ≡ Some (g0, s0) →
    AreGroupsOf (is_member (map member_shown (take i members))) names (heads_of ps) (map items vs) → s0 < length vs
step-below items members i d names ps vs g0 s0 apart places are =
    let below = segment-below (map member_shown (take i members)) (member_shown (get_or members i d)) names ps (map items vs) are g0 s0 apart places in
    omega (arith, below, length-map vs items)
