-- The names of the logical segments of DGROUP, with one more member.
use Rattle.std.specs.Prelude.{◌≡◌, ℕ, ◌+◌, ◌<◌, take, Bool, true, false, cond, ◌&&◌, ◌||◌, List, [], ◌∷◌, ◌++◌, map, length, nat_lt, position, is_some, bytes_eq, refl}
use Rattle.std.specs.List.{list_any, position_or_len}
use Rattle.std.specs.Cmp.{IsEquivalence}
use Rattle.std.proofs.Common.{ap, sym, ◌∙◌}
use Rattle.std.proofs.lemmas.List.{map-append, get_or_default}
use Rattle.std.proofs.lemmas.List.Folds.{list_any-append}
use Rattle.lx_types.proofs.Bools.{some_by}
use Rattle.link_model.specs.declared.keys.SegmentKey.{SegmentKey}
use Rattle.link_model.specs.Groups.{DGROUP}
use Rattle.link_model.specs.Parts.{Part, segment_key, same_segment}
use Rattle.link_model.proofs.KeyTests.{equivalence, segment_keys}
use Rattle.name_table.proofs.Shown.{any-place}
use Rattle.seg_parts.specs.declared.logical_segments.SegmentName.{SegmentName}
use Rattle.seg_parts.specs.contracts.logical_segments.SegmentNamePartialEq.TheImpl.{eq-value}
use Rattle.seg_parts.specs.LogicalSegments.{name_shown}
use Rattle.seg_parts.specs.Communals.{is_in}
use Rattle.seg_parts.specs.Members.{member_shown, is_member}
use Rattle.seg_parts.specs.declared.members.Member.{Member}
use Rattle.std.proofs.Math.ListN.{get_or}
use Rattle.std.proofs.Math.Bool.{or-false}
use Rattle.link_types.proofs.Lists.{map-more}
use Rattle.seg_parts.proofs.Names.{names-shown}
use Rattle.seg_parts.proofs.Tables.{any-shown}

pub some-position : {X : Type 0} (p : X → Bool) (xs : List X) → is_some (position p xs) ≡ list_any p xs
some-position p xs = some_by (nat_lt (position_or_len p xs) (length xs)) (position_or_len p xs) ∙ sym (any-place p xs)

pub equal : IsEquivalence same_segment
equal = equivalence segment_keys (λ (k : SegmentKey). k)

alike : (k x : SegmentKey) (ks : List SegmentKey) → same_segment k x ≡ true → list_any (same_segment k) ks ≡ list_any (same_segment x) ks
alike k x [] e = refl
alike k x (y ∷ ks) e =
    ap (λ (b : Bool). b || list_any (same_segment k) ks) (equal.congr k x y e) ∙ ap (λ (b : Bool). same_segment x y || b) (alike k x ks e)

known : (k x : SegmentKey) (ks : List SegmentKey) (b : Bool) → same_segment k x ≡ b → list_any (same_segment x) ks ≡ true → list_any (same_segment k) ks ≡ (list_any (same_segment k) ks || b)
known k x ks true e there =
    let has : list_any (same_segment k) ks ≡ true = alike k x ks e ∙ there in
    has ∙ ap (λ (b : Bool). b || true) (sym has)
known k x ks false e there = sym (or-false (list_any (same_segment k) ks))

inserted : (names : List SegmentName) (x : SegmentName) (k : SegmentKey) (b : Bool) → list_any (eq-value.it x) names ≡ b →
    list_any (same_segment k) (map name_shown (cond b names (names ++ x ∷ []))) ≡ (list_any (same_segment k) (map name_shown names) || same_segment k (name_shown x))
inserted names x k true e =
    known k (name_shown x) (map name_shown names) (same_segment k (name_shown x)) refl (sym (any-shown eq-value.it same_segment name_shown names-shown x names) ∙ e)
inserted names x k false e =
    ap (list_any (same_segment k)) (map-append name_shown names (x ∷ []))
    ∙ list_any-append (same_segment k) (map name_shown names) (name_shown x ∷ [])
    ∙ ap (λ (b : Bool). list_any (same_segment k) (map name_shown names) || b) (or-false (same_segment k (name_shown x)))

more : (ms : List (List ℕ × SegmentKey)) (m : List ℕ × SegmentKey) (p : Part) (b : Bool) → bytes_eq m.0 DGROUP ≡ b → is_member (ms ++ m ∷ []) DGROUP p ≡ (is_member ms DGROUP p || (b && same_segment (segment_key p) m.1))
more ms m p b e =
    list_any-append (λ q. bytes_eq q.0 DGROUP && same_segment (segment_key p) q.1) ms (m ∷ [])
    ∙ ap (λ (t : Bool). is_member ms DGROUP p || t) (or-false (bytes_eq m.0 DGROUP && same_segment (segment_key p) m.1))
    ∙ ap (λ (t : Bool). is_member ms DGROUP p || (t && same_segment (segment_key p) m.1)) e

pub added-name : (names new : List SegmentName) (ms : List (List ℕ × SegmentKey)) (group : List ℕ) (x : SegmentName) → bytes_eq group DGROUP ≡ true → new ≡ cond (list_any (eq-value.it x) names) names (names ++ x ∷ []) →
    ((p : Part) → is_in names p ≡ is_member ms DGROUP p) → (p : Part) → is_in new p ≡ is_member (ms ++ (group, name_shown x) ∷ []) DGROUP p
added-name names new ms group x is grown old p =
    ap (λ (t : List SegmentName). list_any (same_segment (segment_key p)) (map name_shown t)) grown
    ∙ inserted names x (segment_key p) (list_any (eq-value.it x) names) refl
    ∙ ap (λ (b : Bool). b || same_segment (segment_key p) (name_shown x)) (old p)
    ∙ sym (more ms (group, name_shown x) p true is)

pub other-name : (names : List SegmentName) (ms : List (List ℕ × SegmentKey)) (group : List ℕ) (x : SegmentName) → bytes_eq group DGROUP ≡ false →
    ((p : Part) → is_in names p ≡ is_member ms DGROUP p) → (p : Part) → is_in names p ≡ is_member (ms ++ (group, name_shown x) ∷ []) DGROUP p
other-name names ms group x is old p = old p ∙ sym (or-false (is_member ms DGROUP p)) ∙ sym (more ms (group, name_shown x) p false is)

module _ (members : List Member) (i : ℕ) (d : Member) (below : i < length members) where
  one_more : map member_shown (take (i + 1) members) ≡ map member_shown (take i members) ++ member_shown (get_or members i d) ∷ []
  one_more = map-more member_shown members i (get_or members i d) below (get_or_default members i d (get_or members i d) below)

  pub dgroup-in : (names new : List SegmentName) → bytes_eq (get_or members i d).group.now DGROUP ≡ true →
      new ≡ cond (list_any (eq-value.it (get_or members i d).segment) names) names (names ++ (get_or members i d).segment ∷ []) →
      ((p : Part) → is_in names p ≡ is_member (map member_shown (take i members)) DGROUP p) → (p : Part) → is_in new p ≡ is_member (map member_shown (take (i + 1) members)) DGROUP p
  dgroup-in names new is grown old p =
      added-name names new (map member_shown (take i members)) (get_or members i d).group.now (get_or members i d).segment is grown old p
      ∙ ap (λ (t : List (List ℕ × SegmentKey)). is_member t DGROUP p) (sym one_more)

  pub dgroup-out : (names : List SegmentName) → bytes_eq (get_or members i d).group.now DGROUP ≡ false →
      ((p : Part) → is_in names p ≡ is_member (map member_shown (take i members)) DGROUP p) → (p : Part) → is_in names p ≡ is_member (map member_shown (take (i + 1) members)) DGROUP p
  dgroup-out names is old p =
      other-name names (map member_shown (take i members)) (get_or members i d).group.now (get_or members i d).segment is old p
      ∙ ap (λ (t : List (List ℕ × SegmentKey)). is_member t DGROUP p) (sym one_more)
