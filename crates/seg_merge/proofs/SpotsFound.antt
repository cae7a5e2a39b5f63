-- Segments and communals are found among the parts of a link by their origins.
use Rattle.std.specs.Prelude.{◌≡◌, ℕ, zero, suc, ◌+◌, ◌-◌, ◌<◌, ◌==◌, ◌&&◌, Bool, true, false, cond, not, List, [], ◌∷◌, ◌++◌, Option, Some, None, map, filter, find, slice_get, refl}
use Rattle.std.specs.List.{enumerate_from, flat_map, list_any}
use Rattle.std.specs.Option.{option_map, option_and_then, option_or}
use Rattle.std.proofs.Common.{ap, sym, ◌∙◌, arith}
use Rattle.std.proofs.lemmas.Bool.{eq-eqb, ne_eqb, and_left}
use Rattle.std.proofs.lemmas.List.{append-nil}
use Rattle.std.proofs.lemmas.List.Elements.{filter-append}
use Rattle.std.proofs.lemmas.List.Folds.{find-append}
use Rattle.std.proofs.lemmas.Option.{slice_get-map}
use Rattle.lx_types.proofs.Lists.{find_agree}
use Rattle.lx_types.proofs.Options.{or_none}
use Rattle.lx_types.proofs.Bools.{same_test}
use Rattle.obj_types.specs.declared.object.Seg.{Seg}
use Rattle.obj_types.specs.declared.object.ObjModule.{ObjModule}
use Rattle.obj_types.specs.declared.symbol.Common.{Common}
use Rattle.obj_types.specs.Items.{item}
use Rattle.link_model.specs.declared.keys.Origin.{Origin}
use Rattle.link_model.specs.declared.keys.Origin.TheVariants.{Segment, Communal}
use Rattle.link_model.specs.Link.{Link}
use Rattle.link_model.specs.Parts.{Part, same_origin, is_stack, of_seg, contributions_in, contributions}
use Rattle.link_model.specs.Symbols.{commons}
use Rattle.link_model.specs.Communals.{of_common, communals, parts}
use Rattle.link_model.specs.Order.{own_stack, own_stacks, is_program}
use Rattle.link_model.specs.Layout.{place_of_part, spot, common_spot}
use Rattle.link_model.proofs.KeyTests.{origin_itself, origin_equal}
use Rattle.link_types.proofs.Numbered.{item-mapped}
use Rattle.seg_parts.proofs.Listed.{plain_part, no-zero, found-part}
use Rattle.seg_merge.specs.Placing.{ArePlacesOf, seg_place, seg_places, comes_of_communal}

-- ---- small steps

turned : (a b : Origin) → same_origin a b ≡ true → same_origin b a ≡ true
turned a b e = ap (λ (o : Origin). same_origin o a) (sym (origin_equal a b e)) ∙ origin_itself a

either-way : (a b : Origin) → same_origin a b ≡ same_origin b a
either-way a b = same_test (same_origin a b) (same_origin b a) (turned a b) (turned b a)

-- ---- segments

has : ℕ → ℕ → Part → Bool
has n i p = same_origin (Segment n i) p.origin

abbrev of_all : ℕ → List ObjModule → List Part
of_all k ms = flat_map (λ (q : ℕ × ObjModule). contributions_in q.0 q.1) (enumerate_from k ms)

none_in : (n i b : ℕ) (qs : List (ℕ × Seg)) → (n ≡ b → ⊥) → find (has n i) (map (λ (q : ℕ × Seg). of_seg b q.0 q.1) qs) ≡ None
unfolding has
none_in n i b [] other = refl
none_in n i b (q ∷ qs) other =
    ap (λ (t : Bool). cond t (Some (of_seg b q.0 q.1)) (find (λ p. same_origin (Segment n i) p.origin) (map (λ (r : ℕ × Seg). of_seg b r.0 r.1) qs))) (and_left (n == b) (i == q.0) (ne_eqb n b other))
    ∙ none_in n i b qs other

none_later : (n i b : ℕ) (ms : List ObjModule) → n < b → find (has n i) (of_all b ms) ≡ None
none_later n i b [] lt = refl
none_later n i b (m ∷ ms) lt =
    find-append (has n i) (contributions_in b m) (of_all (b + 1) ms)
    ∙ ap (λ (o : Option Part). option_or o (find (has n i) (of_all (b + 1) ms))) (none_in n i b (filter (λ q. not q.1.debug) (enumerate_from 1 m.segs)) (λ e. omega (arith, e, lt)))
    ∙ none_later n i (b + 1) ms (omega (arith, lt))

among : (n i b k : ℕ) (ms : List ObjModule) → n ≡ b + k → find (has n i) (of_all b ms) ≡ option_and_then (λ m. find (has n i) (contributions_in n m)) (slice_get ms k)
among n i b k [] at = refl
among n i b zero (m ∷ ms) at =
    let here : b ≡ n = omega (arith, at) in
    find-append (has n i) (contributions_in b m) (of_all (b + 1) ms)
    ∙ ap (option_or (find (has n i) (contributions_in b m))) (none_later n i (b + 1) ms (omega (arith, at)))
    ∙ or_none (find (has n i) (contributions_in b m))
    ∙ ap (λ (k : ℕ). find (has n i) (contributions_in k m)) here
among n i b (suc k) (m ∷ ms) at =
    let later : n ≡ b + 1 + k = omega (arith, at) in
    find-append (has n i) (contributions_in b m) (of_all (b + 1) ms)
    ∙ ap (λ (o : Option Part). option_or o (find (has n i) (of_all (b + 1) ms))) (none_in n i b (filter (λ q. not q.1.debug) (enumerate_from 1 m.segs)) (λ e. omega (arith, e, at)))
    ∙ among n i (b + 1) k ms later

in_module : (n i : ℕ) (m : ObjModule) → find (has n i) (contributions_in n m) ≡ option_and_then (plain_part n i) (item m.segs i)
unfolding has
in_module n zero m = no-zero n m
in_module n (suc i) m =
    let at : suc i - 1 ≡ i = omega arith in
    found-part n (suc i) m (omega arith) ∙ ap (λ (k : ℕ). option_and_then (plain_part n (suc i)) (slice_get m.segs k)) at

in_modules : (n i : ℕ) (ms : List ObjModule) → find (has n i) (of_all 1 ms) ≡ option_and_then (λ m. option_and_then (plain_part n i) (item m.segs i)) (item ms n)
in_modules zero i ms = none_later 0 i 1 ms (omega arith)
in_modules (suc n) i ms =
    let from_1 : suc n ≡ 1 + n = omega arith in
    among (suc n) i 1 n ms from_1 ∙ by (slice_get ms n)
  where
    by : (o : Option ObjModule) → option_and_then (λ m. find (has (suc n) i) (contributions_in (suc n) m)) o ≡ option_and_then (λ m. option_and_then (plain_part (suc n) i) (item m.segs i)) o
    by None = refl
    by (Some m) = in_module (suc n) i m

none_common : (l : Link) (n i s : ℕ) (cs : List (List ℕ × Common)) → find (has n i) (map (λ q. of_common l q.0 q.1.1) (enumerate_from s cs)) ≡ None
unfolding has
none_common l n i s [] = refl
none_common l n i s (c ∷ cs) = none_common l n i (s + 1) cs

segment-found : (l : Link) (n i : ℕ) → find (λ p. same_origin p.origin (Segment n i)) (parts l) ≡ option_and_then (λ m. option_and_then (plain_part n i) (item m.segs i)) (item l.modules n)
unfolding parts has
segment-found l n i =
    find_agree (λ p. same_origin p.origin (Segment n i)) (has n i) (λ p. either-way p.origin (Segment n i)) (contributions l ++ communals l)
    ∙ find-append (has n i) (contributions l) (communals l)
    ∙ ap (option_or (find (has n i) (contributions l))) (none_common l n i 0 (commons l))
    ∙ or_none (find (has n i) (contributions l))
    ∙ in_modules n i l.modules

-- ---- communals

of_slot : ℕ → Part → Bool
of_slot slot p = same_origin p.origin (Communal slot)

no_slot : (slot b : ℕ) (qs : List (ℕ × Seg)) → find (of_slot slot) (map (λ (q : ℕ × Seg). of_seg b q.0 q.1) qs) ≡ None
unfolding of_slot
no_slot slot b [] = refl
no_slot slot b (q ∷ qs) = no_slot slot b qs

no_slots : (slot b : ℕ) (ms : List ObjModule) → find (of_slot slot) (of_all b ms) ≡ None
no_slots slot b [] = refl
no_slots slot b (m ∷ ms) =
    find-append (of_slot slot) (contributions_in b m) (of_all (b + 1) ms)
    ∙ ap (λ (o : Option Part). option_or o (find (of_slot slot) (of_all (b + 1) ms))) (no_slot slot b (filter (λ q. not q.1.debug) (enumerate_from 1 m.segs)))
    ∙ no_slots slot (b + 1) ms

slot_at : (l : Link) (s k slot : ℕ) (cs : List (List ℕ × Common)) → slot ≡ s + k → find (of_slot slot) (map (λ q. of_common l q.0 q.1.1) (enumerate_from s cs)) ≡ slice_get (map (λ q. of_common l q.0 q.1.1) (enumerate_from s cs)) k
unfolding of_slot
slot_at l s k slot [] at = refl
slot_at l s zero slot (c ∷ cs) at =
    let here : s ≡ slot = omega (arith, at) in
    ap (λ (b : Bool). cond b (Some (of_common l s c.1)) (find (of_slot slot) (map (λ q. of_common l q.0 q.1.1) (enumerate_from (s + 1) cs)))) (eq-eqb s slot here)
slot_at l s (suc k) slot (c ∷ cs) at =
    let later : slot ≡ s + 1 + k = omega (arith, at) in
    ap (λ (b : Bool). cond b (Some (of_common l s c.1)) (find (of_slot slot) (map (λ q. of_common l q.0 q.1.1) (enumerate_from (s + 1) cs)))) (ne_eqb s slot (λ e. omega (arith, e, at)))
    ∙ slot_at l (s + 1) k slot cs later

communal-found : (l : Link) (slot : ℕ) → find (λ p. same_origin p.origin (Communal slot)) (parts l) ≡ slice_get (communals l) slot
unfolding parts of_slot
communal-found l slot =
    let from_0 : slot ≡ 0 + slot = omega arith in
    find-append (of_slot slot) (contributions l) (communals l)
    ∙ ap (λ (o : Option Part). option_or o (find (of_slot slot) (communals l))) (no_slots slot 1 l.modules)
    ∙ slot_at l 0 slot slot (commons l) from_0

-- The communals are those parts that come of one.
abbrev communal : Part → Bool
communal p = comes_of_communal p.origin

none_kept : (b : ℕ) (qs : List (ℕ × Seg)) → filter communal (map (λ (q : ℕ × Seg). of_seg b q.0 q.1) qs) ≡ []
none_kept b [] = refl
none_kept b (q ∷ qs) = none_kept b qs

none_kept_of : (b : ℕ) (ms : List ObjModule) → filter communal (of_all b ms) ≡ []
none_kept_of b [] = refl
none_kept_of b (m ∷ ms) =
    filter-append communal (contributions_in b m) (of_all (b + 1) ms)
    ∙ ap (λ (t : List Part). t ++ filter communal (of_all (b + 1) ms)) (none_kept b (filter (λ q. not q.1.debug) (enumerate_from 1 m.segs)))
    ∙ none_kept_of (b + 1) ms

all_kept : (l : Link) (s : ℕ) (cs : List (List ℕ × Common)) → filter communal (map (λ q. of_common l q.0 q.1.1) (enumerate_from s cs)) ≡ map (λ q. of_common l q.0 q.1.1) (enumerate_from s cs)
all_kept l s [] = refl
all_kept l s (c ∷ cs) = ap (λ (t : List Part). of_common l s c.1 ∷ t) (all_kept l (s + 1) cs)

no_own : (b : Bool) → filter communal (cond b (own_stack ∷ []) []) ≡ []
no_own true = refl
no_own false = refl

pub communals-kept : (l : Link) → filter (λ p. comes_of_communal p.origin) (parts l ++ own_stacks l) ≡ communals l
unfolding parts
communals-kept l =
    filter-append communal (parts l) (own_stacks l)
    ∙ ap (λ (t : List Part). filter communal (parts l) ++ t) (no_own (is_program l.def.kind && not (list_any is_stack (parts l))))
    ∙ append-nil (filter communal (parts l))
    ∙ filter-append communal (contributions l) (communals l)
    ∙ ap (λ (t : List Part). t ++ filter communal (communals l)) (none_kept_of 1 l.modules)
    ∙ all_kept l 0 (commons l)

-- ---- look-ups

numbered_at : {X Y : Type 0} (f : ℕ × X → Y) (s : ℕ) (xs : List X) (k n : ℕ) → n ≡ s + k → slice_get (map f (enumerate_from s xs)) k ≡ option_map (λ x. f (n, x)) (slice_get xs k)
numbered_at f s [] k n at = refl
numbered_at {X} {Y} f s (x ∷ xs) zero n at =
    let here : s ≡ n = omega (arith, at) in
    ap (λ (m : ℕ). Some (f (m, x))) here
numbered_at f s (x ∷ xs) (suc k) n at =
    let later : n ≡ s + 1 + k = omega (arith, at) in
    numbered_at f (s + 1) xs k n later

item-numbered : {X Y : Type 0} (f : ℕ × X → Y) (xs : List X) (n : ℕ) → item (map f (enumerate_from 1 xs)) n ≡ option_map (λ x. f (n, x)) (item xs n)
item-numbered f xs zero = refl
item-numbered f xs (suc n) =
    let from_1 : suc n ≡ 1 + n = omega arith in
    numbered_at f 1 xs n (suc n) from_1

pub then-mapped : {X Y Z : Type 0} (g : Y → Option Z) (f : X → Y) (o : Option X) → option_and_then g (option_map f o) ≡ option_and_then (λ x. g (f x)) o
then-mapped g f None = refl
then-mapped g f (Some x) = refl

place_by : (place : Part → Option (ℕ × ℕ)) (p : Part) (b : Bool) → cond b None (place p) ≡ option_and_then place (cond b None (Some p))
place_by place p true = refl
place_by place p false = refl

-- ---- the places of a link

pub spots-are : {V : Type 0} (items : V → List (Option (ℕ × ℕ))) (l : Link) (vs : List V) → map items vs ≡ map (λ q. seg_places (place_of_part l) q.0 q.1.segs) (enumerate_from 1 l.modules) → (n i : ℕ) →
    option_and_then (λ row. option_and_then (λ place. place) (item (items row) i)) (item vs n) ≡ spot l n i
unfolding spot
spots-are {V} items l vs are n i =
    let place : Part → Option (ℕ × ℕ) = place_of_part l in
    let inner : List (Option (ℕ × ℕ)) → Option (ℕ × ℕ) = λ row. option_and_then (λ o. o) (item row i) in
    sym (then-mapped inner items (item vs n))
    ∙ ap (option_and_then inner) (sym (item-mapped items vs n) ∙ ap (λ (t : List (List (Option (ℕ × ℕ)))). item t n) are ∙ item-numbered (λ (q : ℕ × ObjModule). seg_places place q.0 q.1.segs) l.modules n)
    ∙ then-mapped inner (λ (m : ObjModule). seg_places place n m.segs) (item l.modules n)
    ∙ by (item l.modules n)
    ∙ sym (ap (option_and_then place) (segment-found l n i))
  where
    by_seg : (o : Option Seg) → option_and_then (λ s. seg_place (place_of_part l) n (i, s)) o ≡ option_and_then (place_of_part l) (option_and_then (plain_part n i) o)
    by_seg None = refl
    by_seg (Some s) = place_by (place_of_part l) (of_seg n i s) s.debug

    by : (o : Option ObjModule) → option_and_then (λ m. option_and_then (λ (t : Option (ℕ × ℕ)). t) (item (seg_places (place_of_part l) n m.segs) i)) o ≡ option_and_then (place_of_part l) (option_and_then (λ m. option_and_then (plain_part n i) (item m.segs i)) o)
    by None = refl
    by (Some m) =
        ap (option_and_then (λ (t : Option (ℕ × ℕ)). t)) (item-numbered (seg_place (place_of_part l) n) m.segs i)
        ∙ then-mapped (λ (t : Option (ℕ × ℕ)). t) (λ s. seg_place (place_of_part l) n (i, s)) (item m.segs i)
        ∙ by_seg (item m.segs i)

places_at : {X Y : Type 0} (f : X → Option Y) (xs : List X) (ys : List Y) (k : ℕ) → map (λ y. Some y) ys ≡ map f xs → slice_get ys k ≡ option_and_then f (slice_get xs k)
places_at f [] [] k e = refl
places_at f [] (y ∷ ys) k e = cc
places_at f (x ∷ xs) [] k e = cc
places_at f (x ∷ xs) (y ∷ ys) zero e = cc
places_at f (x ∷ xs) (y ∷ ys) (suc k) e = places_at f xs ys k cc

pub commons-are : (l : Link) (places : List (ℕ × ℕ)) → ArePlacesOf (place_of_part l) (communals l) places → (slot : ℕ) → slice_get places slot ≡ common_spot l slot
unfolding common_spot
commons-are l places are slot =
    places_at (place_of_part l) (communals l) places slot are ∙ sym (ap (option_and_then (place_of_part l)) (communal-found l slot))
