-- Each segment outside debug and each communal is a part of the link, and so stands in an object.
use Rattle.std.specs.Prelude.{◌≡◌, ℕ, zero, suc, ◌+◌, Bool, true, false, cond, not, ◌&&◌, ◌==◌, List, [], ◌∷◌, Option, Some, None, map, filter, slice_get, is_some, unwrap_or, refl}
use Rattle.std.specs.List.{find, flat_map, enumerate_from}
use Rattle.std.specs.Option.{option_or}
use Rattle.std.proofs.Common.{ap, sym, ◌∙◌, arith, true≢false}
use Rattle.std.proofs.lemmas.Bool.{eq-eqb, ne_eqb, and_from, and_left, and_right}
use Rattle.std.proofs.lemmas.List.Folds.{find-append}
use Rattle.obj_types.specs.declared.object.Seg.{Seg}
use Rattle.obj_types.specs.declared.object.ObjModule.{ObjModule}
use Rattle.obj_types.specs.declared.symbol.Common.{Common}
use Rattle.link_model.specs.Link.{Link}
use Rattle.link_model.specs.Symbols.{commons}
use Rattle.link_model.specs.Parts.{Origin, Segment, Communal, same_origin, Part, of_seg, contributions_in, contributions}
use Rattle.link_model.specs.Communals.{of_common, communals, parts}
use Rattle.link_model.specs.NothingDropped.{SegmentsStand, CommunalsStand}
use Rattle.link_model.proofs.Rules.{rules}
use Rattle.link_model.proofs.RowsStand.{part_stands}

abbrev of : Origin → Part → Bool
of o p = same_origin p.origin o

abbrev as_part : ℕ → ℕ × Seg → Part
as_part n q = of_seg n q.0 q.1

-- ---- in one module

seg_here : (n b i : ℕ) (x s : Seg) (rest : List (ℕ × Seg)) (d : Bool) → x ≡ s → i ≡ b → d ≡ false → find (of (Segment n i)) (map (as_part n) (cond (not d) ((b, x) ∷ rest) rest)) ≡ Some (of_seg n i s)
seg_here n b i x s rest true same at e = absurd (true≢false e)
seg_here n b i x s rest false same at e =
    let passes : (n == n && b == i) ≡ true = and_from (n == n) (b == i) (eq-eqb n n refl) (eq-eqb b i (sym at)) in
    ap (λ (t : Bool). cond t (Some (of_seg n b x)) (find (of (Segment n i)) (map (as_part n) rest))) passes ∙ (ap (λ (t : Seg). Some (of_seg n b t)) same ∙ ap (λ (k : ℕ). Some (of_seg n k s)) (sym at))

seg_later : (n b i : ℕ) (x : Seg) (rest : List (ℕ × Seg)) (d : Bool) → (b ≡ i → ⊥) → find (of (Segment n i)) (map (as_part n) (cond (not d) ((b, x) ∷ rest) rest)) ≡ find (of (Segment n i)) (map (as_part n) rest)
seg_later n b i x rest true other = refl
seg_later n b i x rest false other =
    ap (λ (t : Bool). cond t (Some (of_seg n b x)) (find (of (Segment n i)) (map (as_part n) rest))) (and_right (n == n) (b == i) (ne_eqb b i other))

seg_found : (n b i k : ℕ) (segs : List Seg) (s : Seg) → i ≡ b + k → slice_get segs k ≡ Some s →
    s.debug ≡ false → find (of (Segment n i)) (map (as_part n) (filter (λ q. not q.1.debug) (enumerate_from b segs))) ≡ Some (of_seg n i s)
seg_found n b i k [] s at e plain = absurd (true≢false (sym (ap is_some e)))
seg_found n b i zero (x ∷ segs) s at e plain =
    let same : x ≡ s = ap (λ (o : Option Seg). unwrap_or o s) e in
    let here : i ≡ b = omega (arith, at) in
    seg_here n b i x s (filter (λ q. not q.1.debug) (enumerate_from (b + 1) segs)) x.debug same here (ap (λ (t : Seg). t.debug) same ∙ plain)
seg_found n b i (suc k) (x ∷ segs) s at e plain =
    let later : i ≡ b + 1 + k = omega (arith, at) in
    seg_later n b i x (filter (λ q. not q.1.debug) (enumerate_from (b + 1) segs)) x.debug (λ same. omega (arith, at, same)) ∙ seg_found n (b + 1) i k segs s later e plain

-- ---- among all modules

other_module : (b n i : ℕ) (qs : List (ℕ × Seg)) → (b ≡ n → ⊥) → find (of (Segment n i)) (map (as_part b) qs) ≡ None
other_module b n i [] other = refl
other_module b n i (q ∷ qs) other =
    ap (λ (t : Bool). cond t (Some (as_part b q)) (find (of (Segment n i)) (map (as_part b) qs))) (and_left (b == n) (q.0 == i) (ne_eqb b n other)) ∙ other_module b n i qs other

among_modules : (b n i k : ℕ) (ms : List ObjModule) (m : ObjModule) (p : Part) → n ≡ b + k → slice_get ms k ≡ Some m →
    find (of (Segment n i)) (contributions_in n m) ≡ Some p → find (of (Segment n i)) (flat_map (λ q. contributions_in q.0 q.1) (enumerate_from b ms)) ≡ Some p
among_modules b n i k [] m p at e h = absurd (true≢false (sym (ap is_some e)))
among_modules b n i zero (x ∷ ms) m p at e h =
    let same : x ≡ m = ap (λ (o : Option ObjModule). unwrap_or o m) e in
    let here : b ≡ n = omega (arith, at) in
    let rest = flat_map (λ (q : ℕ × ObjModule). contributions_in q.0 q.1) (enumerate_from (b + 1) ms) in
    let first : find (of (Segment n i)) (contributions_in b x) ≡ Some p =
    ap (λ (t : ObjModule). find (of (Segment n i)) (contributions_in b t)) same ∙ (ap (λ (t : ℕ). find (of (Segment n i)) (contributions_in t m)) here ∙ h) in
    find-append (of (Segment n i)) (contributions_in b x) rest ∙ ap (λ (t : Option Part). option_or t (find (of (Segment n i)) rest)) first
among_modules b n i (suc k) (x ∷ ms) m p at e h =
    let rest = flat_map (λ (q : ℕ × ObjModule). contributions_in q.0 q.1) (enumerate_from (b + 1) ms) in
    let none = other_module b n i (filter (λ q. not q.1.debug) (enumerate_from 1 x.segs)) (λ same. omega (arith, at, same)) in
    let later : n ≡ b + 1 + k = omega (arith, at) in
    find-append (of (Segment n i)) (contributions_in b x) rest ∙ (ap (λ (t : Option Part). option_or t (find (of (Segment n i)) rest)) none ∙ among_modules (b + 1) n i k ms m p later e h)

in_parts : (l : Link) (o : Origin) (p : Part) → find (of o) (contributions l) ≡ Some p → find (of o) (parts l) ≡ Some p
unfolding rules
in_parts l o p e =
    find-append (of o) (contributions l) (communals l) ∙ ap (λ (t : Option Part). option_or t (find (of o) (communals l))) e

pub segments_stand : SegmentsStand
unfolding rules
segments_stand l zero index m s em es plain = absurd (true≢false (sym (ap is_some em)))
segments_stand l (suc n) zero m s em es plain = absurd (true≢false (sym (ap is_some es)))
segments_stand l (suc n) (suc index) m s em es plain =
    let from_1 : suc n ≡ 1 + n = omega arith in
    let index_1 : suc index ≡ 1 + index = omega arith in
    let inside = seg_found (suc n) 1 (suc index) index m.segs s index_1 es plain in
    let among = among_modules 1 (suc n) (suc index) n l.modules m (of_seg (suc n) (suc index) s) from_1 em inside in
    part_stands l (Segment (suc n) (suc index)) (of_seg (suc n) (suc index) s) (in_parts l (Segment (suc n) (suc index)) (of_seg (suc n) (suc index) s) among)

-- ---- communals

no_contribution : (n slot : ℕ) (qs : List (ℕ × Seg)) → find (of (Communal slot)) (map (as_part n) qs) ≡ None
no_contribution n slot [] = refl
no_contribution n slot (q ∷ qs) = no_contribution n slot qs

no_contributions : (slot b : ℕ) (ms : List ObjModule) → find (of (Communal slot)) (flat_map (λ q. contributions_in q.0 q.1) (enumerate_from b ms)) ≡ None
no_contributions slot b [] = refl
no_contributions slot b (x ∷ ms) =
    let rest = flat_map (λ (q : ℕ × ObjModule). contributions_in q.0 q.1) (enumerate_from (b + 1) ms) in
    find-append (of (Communal slot)) (contributions_in b x) rest ∙ (ap (λ (t : Option Part). option_or t (find (of (Communal slot)) rest))
    (no_contribution b slot (filter (λ q. not q.1.debug) (enumerate_from 1 x.segs))) ∙ no_contributions slot (b + 1) ms)

abbrev communal : Link → ℕ × (List ℕ × Common) → Part
communal l q = of_common l q.0 q.1.1

communal_found : (l : Link) (b slot k : ℕ) (cs : List (List ℕ × Common)) (c : List ℕ × Common) →
    slot ≡ b + k → slice_get cs k ≡ Some c → find (of (Communal slot)) (map (communal l) (enumerate_from b cs)) ≡ Some (of_common l slot c.1)
communal_found l b slot k [] c at e = absurd (true≢false (sym (ap is_some e)))
communal_found l b slot zero (x ∷ cs) c at e =
    let here : slot ≡ b = omega (arith, at) in
    ap (λ (t : Bool). cond t (Some (of_common l b x.1)) (find (of (Communal slot)) (map (communal l) (enumerate_from (b + 1) cs)))) (eq-eqb b slot (sym here))
    ∙ (ap (λ (o : Option (List ℕ × Common)). Some (of_common l b (unwrap_or o c).1)) e ∙ ap (λ (k : ℕ). Some (of_common l k c.1)) (sym here))
communal_found l b slot (suc k) (x ∷ cs) c at e =
    let later : slot ≡ b + 1 + k = omega (arith, at) in
    ap (λ (t : Bool). cond t (Some (of_common l b x.1)) (find (of (Communal slot)) (map (communal l) (enumerate_from (b + 1) cs))))
    (ne_eqb b slot (λ same. omega (arith, at, same))) ∙ communal_found l (b + 1) slot k cs c later e

pub communals_stand : CommunalsStand
unfolding rules
communals_stand l slot c e =
    let from_0 : slot ≡ 0 + slot = omega arith in
    let found = communal_found l 0 slot slot (commons l) c from_0 e in
    let all : find (of (Communal slot)) (parts l) ≡ Some (of_common l slot c.1) = find-append (of (Communal slot)) (contributions l) (communals l)
    ∙ (ap (λ (t : Option Part). option_or t (find (of (Communal slot)) (communals l))) (no_contributions slot 1 l.modules) ∙ found) in
    part_stands l (Communal slot) (of_common l slot c.1) all
