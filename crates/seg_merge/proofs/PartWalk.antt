-- The places of parts with one part more.
use Rattle.std.specs.Prelude.{◌≡◌, ℕ, zero, suc, ◌+◌, ◌<◌, ◌≤◌, ◌==◌, Bool, true, false, cond, List, [], ◌∷◌, ◌++◌, Option, Some, map, max, filter, take, drop, length, get_or, set, slice_get, refl}
use Rattle.std.specs.Option.{option_map}
use Rattle.std.proofs.Common.{ap, sym, ◌∙◌, arith, subst}
use Rattle.std.proofs.Math.Nat.{le-max_left, le-max_right}
use Rattle.std.proofs.lemmas.Bool.{eqb-true, eq-eqb}
use Rattle.std.proofs.lemmas.List.{append-nil, get_or-map, get_or-set_same, get_or-set_other, length-set, length-map, map-append, get_or_default}
use Rattle.std.proofs.lemmas.List.Elements.{filter-append}
use Rattle.std.proofs.lemmas.List.Sums.{fold-append}
use Rattle.link_model.specs.declared.limits.TheConstants.{MAX_MEMORY}
use Rattle.link_model.specs.Link.{Link}
use Rattle.link_model.specs.Parts.{Part, same_origin, joins, is_common}
use Rattle.link_model.specs.Order.{parts_of}
use Rattle.link_model.specs.Rows.{Row, aligned, end_of_parts, longest, least_len, before, offset_in}
use Rattle.link_model.specs.Layout.{place_of_part}
use Rattle.link_model.proofs.KeyTests.{origin_itself}
use Rattle.seg_parts.specs.declared.rows.Placed.{Placed}
use Rattle.seg_parts.specs.declared.parts.Part as lent
use Rattle.seg_parts.specs.LogicalSegments.{numbers_of}
use Rattle.seg_parts.specs.Parts.{shown}
use Rattle.seg_parts.specs.Placing.{placed_shown}
use Rattle.seg_parts.proofs.Lists.{take-push, split-at}
use Rattle.seg_parts.proofs.PartEnds.{end_from}
use Rattle.seg_merge.specs.Placing.{ArePlacesOf}
use Rattle.seg_merge.specs.Standing.{RowsStand}
use Rattle.seg_merge.proofs.GroupPlaces.{any_get}
use Rattle.seg_merge.proofs.MixedUse.{clash}
use Rattle.seg_merge.proofs.OriginsOfParts.{Distinct, all-distinct}
use Rattle.seg_merge.proofs.UseWalk.{part-at}
use Rattle.seg_merge.proofs.PartRows.{number-under, row-joins, own-joins, row-of-part, own-end, own-within}

-- ---- before a part, among those that are kept

here_by : (p : Part) (qs : List Part) (b : Bool) → b ≡ true → before p.origin (cond b (p ∷ qs) qs) ≡ []
here_by p qs true e = ap (λ (b : Bool). cond b [] (p ∷ before p.origin qs)) (origin_itself p.origin)
here_by p qs false e = cc

later_by : (p q : Part) (qs rest : List Part) (b : Bool) → same_origin p.origin q.origin ≡ false → before q.origin qs ≡ rest → before q.origin (cond b (p ∷ qs) qs) ≡ cond b (p ∷ rest) rest
later_by p q qs rest true other e = ap (λ (b : Bool). cond b [] (p ∷ before q.origin qs)) other ∙ ap (λ (t : List Part). p ∷ t) e
later_by p q qs rest false other e = e

pub before-kept : (c : Part → Bool) (ps : List Part) → Distinct ps → (i : ℕ) (d : Part) → i < length ps → c (get_or ps i d) ≡ true → before (get_or ps i d).origin (filter c ps) ≡ filter c (take i ps)
before-kept c [] distinct i d lt kept = absurd (omega (arith, lt))
before-kept c (p ∷ ps) distinct zero d lt kept = here_by p (filter c ps) (c p) kept
before-kept c (p ∷ ps) distinct (suc i) d lt kept =
    later_by p (get_or ps i d) (filter c ps) (filter c (take i ps)) (c p) (any_get (λ q. same_origin p.origin q.origin) ps i d distinct.0 (omega (arith, lt)))
    (before-kept c ps distinct.1 i d (omega (arith, lt)) kept)

-- ---- ends

kept_by : (p : Part) (qs : List Part) (b : Bool) → b ≡ true → cond b (p ∷ qs) qs ≡ p ∷ qs
kept_by p qs true e = refl
kept_by p qs false e = cc

pub one_kept : (c : Part → Bool) (ps : List Part) (i : ℕ) (p : Part) → i < length ps → p ≡ get_or ps i p → filter c (take (i + 1) ps) ≡ filter c (take i ps) ++ cond (c p) (p ∷ []) []
one_kept c ps i p lt is = ap (filter c) (take-push ps i p lt is) ∙ filter-append c (take i ps) (p ∷ [])

end-kept : (c : Part → Bool) (start : ℕ) (ps : List Part) (i : ℕ) (p : Part) → i < length ps → p ≡ get_or ps i p → c p ≡ true →
    end_of_parts start (filter c (take (i + 1) ps)) ≡ aligned (end_of_parts start (filter c (take i ps))) p + p.len
end-kept c start ps i p lt is kept =
    ap (end_of_parts start) (one_kept c ps i p lt is ∙ ap (λ (b : Bool). filter c (take i ps) ++ cond b (p ∷ []) []) kept)
    ∙ fold-append (λ (n : ℕ) (q : Part). aligned n q + q.len) start (filter c (take i ps)) (p ∷ [])

kept-within : (c : Part → Bool) (start : ℕ) (ps : List Part) (i : ℕ) (p : Part) → i < length ps → p ≡ get_or ps i p → c p ≡ true →
    aligned (end_of_parts start (filter c (take i ps))) p + p.len ≤ end_of_parts start (filter c ps)
kept-within c start ps i p lt is kept =
    let here : ℕ = aligned (end_of_parts start (filter c (take i ps))) p + p.len in
    let beyond : List Part = filter c (drop (i + 1) ps) in
    let all : end_of_parts start (filter c ps) ≡ end_of_parts here beyond =
    ap (λ (t : List Part). end_of_parts start (filter c t)) (split-at ps i p lt is)
    ∙ ap (end_of_parts start) (filter-append c (take i ps) (p ∷ drop (i + 1) ps) ∙ ap (λ (t : List Part). filter c (take i ps) ++ t) (kept_by p beyond (c p) kept))
    ∙ fold-append (λ (n : ℕ) (q : Part). aligned n q + q.len) start (filter c (take i ps)) (p ∷ beyond) in
    let rest = end_from here beyond in
    omega (arith, all, rest)

-- ---- the walk

abbrev pub is_shared : Placed → Bool
is_shared r = is_common (shown r.head)

-- The end of those of these parts that are of a row's logical segment.
abbrev pub end_of : Placed → List Part → ℕ
end_of r qs = end_of_parts r.start (filter (joins (shown r.head)) qs)

-- Where its next part may stand, after these parts of the link.
abbrev pub ended : Placed → List Part → ℕ
ended r qs = cond (is_shared r) r.start (end_of r qs)

pub record Walked (ps : List Part) (placed : List Placed) (i : ℕ) (ends : List ℕ) (places : List (ℕ × ℕ)) : Type 0 where
  pub as_many : length ends ≡ length placed
  pub ends_are : (k d : ℕ) (r : Placed) → k < length placed → get_or ends k d ≡ ended (get_or placed k r) (take i ps)
  pub places_are : (l : Link) → RowsStand l ps placed → ArePlacesOf (place_of_part l) (take i ps) places

same_both : (b : Bool) (n : ℕ) → n ≡ cond b n n
same_both true n = refl
same_both false n = refl

pub walk-begins : (ps : List Part) (placed : List Placed) (ends : List ℕ) (places : List (ℕ × ℕ)) → ends ≡ map (λ r. r.start) placed → places ≡ [] → Walked ps placed 0 ends places
walk-begins ps placed ends places e f =
    record {
      as_many = ap length e ∙ length-map placed (λ (r : Placed). r.start);
      ends_are = λ k d r lt. ap (λ (t : List ℕ). get_or t k d) e ∙ get_or-map (λ (r : Placed). r.start) placed k r d lt
          ∙ same_both (is_shared (get_or placed k r)) (get_or placed k r).start;
      places_are = λ l stand. ap (map (λ (q : ℕ × ℕ). Some q)) f;
    }

less_by : (b : Bool) (start near far end : ℕ) → start ≤ end → (cond b start far ≤ end) → near ≤ far → cond b start near ≤ end
less_by true start near far end h g le = h
less_by false start near far end h g le = omega (arith, g, le)

kept_end : (b : Bool) (start long far : ℕ) → start ≤ long → cond b start far ≤ cond b long far
kept_end true start long far h = h
kept_end false start long far h = omega arith

module _ (l : Link) (ps : List Part) (placed : List Placed) (stand : RowsStand l ps placed) (i : ℕ) (p : Part) (n : ℕ) (r : Placed) (lt : i < length ps) (is : p ≡ get_or ps i p) (at : n ≡ get_or (numbers_of ps) i 0) (row : r ≡ get_or placed n r) where
  joined : joins (shown r.head) p ≡ true
  joined = own-joins l ps placed stand i p n r lt is at row

  offset-is : offset_in l (placed_shown r) p ≡ cond (is_shared r) r.start (aligned (end_of r (take i ps)) p)
  offset-is =
      let distinct : Distinct ps = subst Distinct (sym stand.parts_are) (all-distinct l) in
      let first : before p.origin (filter (joins (shown r.head)) ps) ≡ filter (joins (shown r.head)) (take i ps) =
      ap (λ (t : Part). before t.origin (filter (joins (shown r.head)) ps)) is
      ∙ before-kept (joins (shown r.head)) ps distinct i p lt (ap (joins (shown r.head)) (sym is) ∙ joined) in
      ap (λ (t : List Part). cond (is_shared r) r.start (aligned (end_of_parts r.start (before p.origin (filter (joins (shown r.head)) t))) p)) (sym stand.parts_are)
      ∙ ap (λ (t : List Part). cond (is_shared r) r.start (aligned (end_of_parts r.start t) p)) first

  -- The place of the part.
  place-is : place_of_part l p ≡ Some (r.object + 1, cond (is_shared r) r.start (aligned (end_of r (take i ps)) p))
  place-is =
      ap (option_map (λ (q : Row). (q.object, offset_in l q p))) (row-of-part l ps placed stand i p n r lt is at row)
      ∙ ap (λ (o : ℕ). Some (r.object + 1, o)) offset-is

  -- It ends within 16 MiB.
  end-fits : cond (is_shared r) r.start (aligned (end_of r (take i ps)) p + p.len) ≤ MAX_MEMORY
  end-fits =
      let all : List Part = filter (joins (shown r.head)) ps in
      let kept = kept-within (joins (shown r.head)) r.start ps i p lt is joined in
      let same : parts_of l (shown r.head) ≡ all = ap (filter (joins (shown r.head))) (sym stand.parts_are) in
      let long : r.start ≤ r.start + longest all = omega arith in
      let most : cond (is_shared r) r.start (end_of_parts r.start all) ≤ cond (is_shared r) (r.start + longest all) (end_of_parts r.start all) = kept_end (is_shared r) r.start (r.start + longest all) (end_of_parts r.start all) long in
      let end : r.end ≡ max (cond (is_shared r) (r.start + longest all) (end_of_parts r.start all)) (r.start + least_len l (shown r.head)) =
      own-end l ps placed stand i p n r lt is at row
      ∙ ap (λ (t : List Part). max (cond (is_shared r) (r.start + longest t) (end_of_parts r.start t)) (r.start + least_len l (shown r.head))) same in
      let left = le-max_left (cond (is_shared r) (r.start + longest all) (end_of_parts r.start all)) (r.start + least_len l (shown r.head)) in
      let right = le-max_right (cond (is_shared r) (r.start + longest all) (end_of_parts r.start all)) (r.start + least_len l (shown r.head)) in
      let limit = (own-within l ps placed stand i p n r lt is at row).0 in
      less_by (is_shared r) r.start (aligned (end_of r (take i ps)) p + p.len) (end_of_parts r.start all) MAX_MEMORY (omega (arith, right, end, limit)) (omega (arith, most, left, end, limit)) kept

-- ---- one part more

offset_by : (b : Bool) (start end : ℕ) (p : Part) → cond b (cond b start end) (aligned (cond b start end) p) ≡ cond b start (aligned end p)
offset_by true start end p = refl
offset_by false start end p = refl

end_by : (b : Bool) (start at len : ℕ) → cond b (cond b start at) (cond b start at + len) ≡ cond b start (at + len)
end_by true start at len = refl
end_by false start at len = refl

first_fits : (b : Bool) (start at len : ℕ) → cond b start (at + len) ≤ MAX_MEMORY → cond b start at ≤ MAX_MEMORY
first_fits true start at len h = h
first_fits false start at len h = omega (arith, h)

module _ (l : Link) (ps : List Part) (placed : List Placed) (stand : RowsStand l ps placed) (i : ℕ) (p : Part) (n : ℕ) (r : Placed) (lt : i < length ps) (is : p ≡ get_or ps i p) (at : n ≡ get_or (numbers_of ps) i 0) (row : r ≡ get_or placed n r) (ends : List ℕ) (places : List (ℕ × ℕ)) (walked : Walked ps placed i ends places) where
  pub end-under : n < length ends
  end-under = let under = number-under l ps placed stand i p n r lt is at row in omega (arith, under, walked.as_many)

  module _ (end : ℕ) (last : end ≡ get_or ends n end) where
    offset-found : cond (is_shared r) end (aligned end p) ≡ cond (is_shared r) r.start (aligned (end_of r (take i ps)) p)
    offset-found =
        let here : get_or ends n end ≡ ended r (take i ps) =
        walked.ends_are n end r (number-under l ps placed stand i p n r lt is at row) ∙ ap (λ (t : Placed). ended t (take i ps)) (sym row) in
        ap (λ (e : ℕ). cond (is_shared r) e (aligned e p)) (last ∙ here) ∙ offset_by (is_shared r) r.start (end_of r (take i ps)) p

    pub offset-fits : cond (is_shared r) end (aligned end p) ≤ MAX_MEMORY
    offset-fits =
        let fits = first_fits (is_shared r) r.start (aligned (end_of r (take i ps)) p) p.len (end-fits l ps placed stand i p n r lt is at row) in
        omega (arith, fits, offset-found)

    module _ (offset : ℕ) (found : offset ≡ cond (is_shared r) end (aligned end p)) where
      next-is : cond (is_shared r) offset (offset + p.len) ≡ cond (is_shared r) r.start (aligned (end_of r (take i ps)) p + p.len)
      next-is = ap (λ (o : ℕ). cond (is_shared r) o (o + p.len)) (found ∙ offset-found) ∙ end_by (is_shared r) r.start (aligned (end_of r (take i ps)) p) p.len

      pub next-fits : cond (is_shared r) offset (offset + p.len) ≤ MAX_MEMORY
      next-fits = let fits = end-fits l ps placed stand i p n r lt is at row in omega (arith, next-is, fits)

      pub walk-goes-on : (next : ℕ) (after : List (ℕ × ℕ)) → next ≡ cond (is_shared r) offset (offset + p.len) → after ≡ places ++ (r.object + 1, offset) ∷ [] → Walked ps placed (i + 1) (set ends n next) after
      walk-goes-on next after is_next grown =
          record {
            as_many = length-set ends n next ∙ walked.as_many;
            ends_are = λ k d q below. each k d q below (n == k) refl;
            places_are = λ m these. ap (map (λ (q : ℕ × ℕ). Some q)) grown ∙ map-append (λ (q : ℕ × ℕ). Some q) places ((r.object + 1, offset) ∷ [])
                ∙ ap (λ (t : List (Option (ℕ × ℕ))). t ++ Some (r.object + 1, offset) ∷ []) (walked.places_are m these)
                ∙ ap (λ (o : Option (ℕ × ℕ)). map (place_of_part m) (take i ps) ++ o ∷ []) (place m these)
                ∙ sym (ap (map (place_of_part m)) (take-push ps i p lt is) ∙ map-append (place_of_part m) (take i ps) (p ∷ []));
          }
        where
          each : (k d : ℕ) (q : Placed) → k < length placed → (b : Bool) → n == k ≡ b → get_or (set ends n next) k d ≡ ended (get_or placed k q) (take (i + 1) ps)
          each k d q below true same =
              let mine : r ≡ get_or placed k q = row ∙ ap (λ (m : ℕ). get_or placed m r) (eqb-true n k same) ∙ get_or_default placed k r q below in
              ap (λ (m : ℕ). get_or (set ends n next) m d) (sym (eqb-true n k same)) ∙ get_or-set_same ends n next d end-under ∙ is_next ∙ next-is
              ∙ ap (λ (m : ℕ). cond (is_shared r) r.start m) (sym (end-kept (joins (shown r.head)) r.start ps i p lt is (own-joins l ps placed stand i p n r lt is at row)))
              ∙ ap (λ (t : Placed). ended t (take (i + 1) ps)) mine
          each k d q below false same =
              let t : Placed = get_or placed k q in
              let other : joins (shown t.head) p ≡ false = row-joins l ps placed stand i p n r lt is at row k q below ∙ same in
              get_or-set_other ends n k next d (λ e. clash (eq-eqb n k (sym e)) same) ∙ walked.ends_are k d q below
              ∙ ap (λ (qs : List Part). cond (is_shared t) t.start (end_of_parts t.start qs))
              (sym (one_kept (joins (shown t.head)) ps i p lt is ∙ ap (λ (b : Bool). filter (joins (shown t.head)) (take i ps) ++ cond b (p ∷ []) []) other ∙ append-nil (filter (joins (shown t.head)) (take i ps))))

          place : (m : Link) → RowsStand m ps placed → Some (r.object + 1, offset) ≡ place_of_part m p
          place m these =
              ap (λ (o : ℕ). Some (r.object + 1, o)) (found ∙ offset-found) ∙ sym (place-is m ps placed these i p n r lt is at row)

-- ---- at the parts that are lent

-- This part has this place and this number.
pub record Here (ps : List Part) (i : ℕ) (p : Part) (n : ℕ) : Type 0 where
  pub below : i < length ps
  pub is : p ≡ get_or ps i p
  pub at : n ≡ get_or (numbers_of ps) i 0

pub here-at : (lents : List lent.Part) (ps : List Part) (numbers : List ℕ) (i : ℕ) (x : lent.Part) → map shown lents ≡ ps → numbers ≡ numbers_of ps → i < length lents → x ≡ get_or lents i x → Here ps i (shown x) (get_or numbers i 0)
here-at lents ps numbers i x e f lt is =
    let len : length lents ≡ length ps = sym (length-map lents shown) ∙ ap length e in
    record { below = omega (arith, lt, len); is = part-at lents ps i x e lt is; at = ap (λ (t : List ℕ). get_or t i 0) f }

pub got : {X : Type 0} (xs : List X) (n : ℕ) (x : X) → slice_get xs n ≡ Some x → x ≡ get_or xs n x
got [] n x e = cc
got (y ∷ ys) zero x e = cc
got (y ∷ ys) (suc n) x e = got ys n x e
