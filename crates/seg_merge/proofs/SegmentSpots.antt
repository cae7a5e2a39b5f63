-- The places of segments and communals, with one more.
use Rattle.std.specs.Prelude.{◌≡◌, ℕ, zero, suc, ◌+◌, ◌<◌, Bool, true, false, cond, not, List, [], ◌∷◌, ◌++◌, Option, Some, None, map, filter, take, drop, length, get_or, slice_get, nat_lt, refl}
use Rattle.std.specs.List.{enumerate_from, flat_map}
use Rattle.std.proofs.Common.{ap, sym, ◌∙◌, arith, append_assoc}
use Rattle.std.proofs.lemmas.Bool.Decides.{nat_tests}
use Rattle.std.proofs.lemmas.List.{append-nil, get_or-map, map-append}
use Rattle.obj_types.specs.declared.object.Seg.{Seg}
use Rattle.obj_types.specs.declared.object.ObjModule.{ObjModule}
use Rattle.link_model.specs.Parts.{Part, of_seg, contributions_in}
use Rattle.seg_parts.proofs.Lists.{each-more}
use Rattle.seg_merge.specs.Placing.{ArePlacesOf, seg_place, seg_places, TakesPlaces, comes_of_communal}
use Rattle.seg_merge.proofs.PartWalk.{one_kept}

-- ---- lists from an index on

pub drop-step : {X : Type 0} (xs : List X) (i : ℕ) (x : X) → i < length xs → x ≡ get_or xs i x → drop i xs ≡ x ∷ drop (i + 1) xs
drop-step [] i x lt is = absurd (omega (arith, lt))
drop-step {X} (y ∷ ys) zero x lt is = ap (λ (t : X). t ∷ ys) (sym is)
drop-step {X} (y ∷ ys) (suc i) x lt is =
    let next : suc (i + 1) ≡ suc i + 1 = omega arith in
    drop-step ys i x (omega (arith, lt)) is ∙ ap (λ (n : ℕ). x ∷ drop n (y ∷ ys)) next

pub drop-head : {X : Type 0} (xs : List X) (n : ℕ) (y : Option X) (ys : List (Option X)) → map (λ x. Some x) (drop n xs) ≡ y ∷ ys → (slice_get xs n ≡ y) × (map (λ x. Some x) (drop (n + 1) xs) ≡ ys) × (n < length xs)
drop-head [] zero y ys e = cc
drop-head [] (suc n) y ys e = cc
drop-head {X} (x ∷ xs) zero y ys e = (cc, cc, omega arith)
drop-head {X} (x ∷ xs) (suc n) y ys e =
    let rest = drop-head xs n y ys e in
    let next : suc n + 1 ≡ suc (n + 1) = omega arith in
    let below = rest.2 in
    (rest.0, ap (λ (k : ℕ). map (λ (t : X). Some t) (drop k (x ∷ xs))) next ∙ rest.1, omega (arith, below))

-- ---- the segments of one module

abbrev from : ℕ → ℕ → List Seg → List Part
from n k segs = map (λ (q : ℕ × Seg). of_seg n q.0 q.1) (filter (λ (q : ℕ × Seg). not q.1.debug) (enumerate_from k segs))

-- After so many segments.
abbrev pub SegsTaken : List Seg → List (ℕ × ℕ) → ℕ → ℕ → ℕ → List (Option (ℕ × ℕ)) → Type 0
SegsTaken segs places old next i row =
    (place : Part → Option (ℕ × ℕ)) (n : ℕ) (rest : List Part) → ArePlacesOf place (from n 1 segs ++ rest) (drop old places)
    → ArePlacesOf place (from n (1 + i) (drop i segs) ++ rest) (drop next places) × (row ≡ map (seg_place place n) (enumerate_from 1 (take i segs)))

head_by : (f : ℕ × Seg → Part) (q : ℕ × Seg) (qs : List (ℕ × Seg)) (b : Bool) → map f (cond (not b) (q ∷ qs) qs) ≡ cond b (map f qs) (f q ∷ map f qs)
head_by f q qs true = refl
head_by f q qs false = refl

from_step : (n i : ℕ) (segs : List Seg) (s : Seg) → i < length segs → s ≡ get_or segs i s →
    from n (1 + i) (drop i segs) ≡ cond s.debug (from n (1 + (i + 1)) (drop (i + 1) segs)) (of_seg n (1 + i) s ∷ from n (1 + (i + 1)) (drop (i + 1) segs))
from_step n i segs s lt is =
    let later : List Seg = drop (i + 1) segs in
    let next : 1 + i + 1 ≡ 1 + (i + 1) = omega arith in
    ap (from n (1 + i)) (drop-step segs i s lt is)
    ∙ head_by (λ (q : ℕ × Seg). of_seg n q.0 q.1) (1 + i, s) (filter (λ (q : ℕ × Seg). not q.1.debug) (enumerate_from (1 + i + 1) later)) s.debug
    ∙ ap (λ (k : ℕ). cond s.debug (from n k later) (of_seg n (1 + i) s ∷ from n k later)) next

pub segs-begin : (segs : List Seg) (places : List (ℕ × ℕ)) (at : ℕ) (row : List (Option (ℕ × ℕ))) → row ≡ [] → SegsTaken segs places at at 0 row
segs-begin segs places at row e = λ place n rest are. (are, e)

pub segs-debug : (segs : List Seg) (places : List (ℕ × ℕ)) (old next i : ℕ) (row after : List (Option (ℕ × ℕ))) (s : Seg) → i < length segs → s ≡ get_or segs i s → s.debug ≡ true →
    SegsTaken segs places old next i row → after ≡ row ++ None ∷ [] → SegsTaken segs places old next (i + 1) after
segs-debug segs places old next i row after s lt is debug taken grown = λ place n rest are.
    let now = taken place n rest are in
    let later : List Part = from n (1 + (i + 1)) (drop (i + 1) segs) in (
      now.0 ∙ ap (λ (t : List Part). map place (t ++ rest)) (from_step n i segs s lt is ∙ ap (λ (b : Bool). cond b later (of_seg n (1 + i) s ∷ later)) debug),
      each-more (seg_place place n) 1 [] row after segs i s None lt is (ap (λ (b : Bool). cond b None (place (of_seg n (1 + i) s))) (sym debug)) now.1 grown,
    )

pub segs-plain : (segs : List Seg) (places : List (ℕ × ℕ)) (old next i : ℕ) (row after : List (Option (ℕ × ℕ))) (s : Seg) (found : Option (ℕ × ℕ)) (on : ℕ) → i < length segs → s ≡ get_or segs i s → s.debug ≡ false →
    found ≡ slice_get places next → on ≡ cond (nat_lt next (length places)) (next + 1) next →
    SegsTaken segs places old next i row → after ≡ row ++ found ∷ [] → SegsTaken segs places old on (i + 1) after
segs-plain segs places old next i row after s found on lt is plain at goes taken grown = λ place n rest are.
    let now = taken place n rest are in
    let part : Part = of_seg n (1 + i) s in
    let later : List Part = from n (1 + (i + 1)) (drop (i + 1) segs) in
    let head = drop-head places next (place part) (map place (later ++ rest))
    (now.0 ∙ ap (λ (t : List Part). map place (t ++ rest)) (from_step n i segs s lt is ∙ ap (λ (b : Bool). cond b later (part ∷ later)) plain)) in
    let on_is : on ≡ next + 1 = goes ∙ ap (λ (b : Bool). cond b (next + 1) next) (less next (length places) head.2) in (
      ap (λ (k : ℕ). map (λ (q : ℕ × ℕ). Some q) (drop k places)) on_is ∙ head.1,
      each-more (seg_place place n) 1 [] row after segs i s found lt is (at ∙ head.0 ∙ ap (λ (b : Bool). cond b None (place part)) (sym plain)) now.1 grown,
    )
  where
    less : (a b : ℕ) → a < b → nat_lt a b ≡ true
    less a b h = grind (arith, nat_tests)

drop_all : {X : Type 0} (xs : List X) (n : ℕ) → n ≡ length xs → drop n xs ≡ []
drop_all [] zero e = refl
drop_all [] (suc n) e = refl
drop_all (x ∷ xs) zero e = absurd (omega (arith, e))
drop_all (x ∷ xs) (suc n) e = drop_all xs n (omega (arith, e))

take_all : {X : Type 0} (xs : List X) (n : ℕ) → n ≡ length xs → take n xs ≡ xs
take_all [] zero e = refl
take_all [] (suc n) e = refl
take_all (x ∷ xs) zero e = absurd (omega (arith, e))
take_all {X} (x ∷ xs) (suc n) e = ap (λ (t : List X). x ∷ t) (take_all xs n (omega (arith, e)))

pub segs-end : (segs : List Seg) (places : List (ℕ × ℕ)) (old next i : ℕ) (row : List (Option (ℕ × ℕ))) → i ≡ length segs → SegsTaken segs places old next i row → TakesPlaces segs places old next row
segs-end segs places old next i row all taken = λ place n rest are.
    let now = taken place n rest are in (
      now.0 ∙ ap (λ (t : List Seg). map place (from n (1 + i) t ++ rest)) (drop_all segs i all),
      now.1 ∙ ap (λ (t : List Seg). map (seg_place place n) (enumerate_from 1 t)) (take_all segs i all),
    )

-- ---- all modules

abbrev of_all : ℕ → List ObjModule → List Part
of_all k ms = flat_map (λ (q : ℕ × ObjModule). contributions_in q.0 q.1) (enumerate_from k ms)

-- After so many modules.
abbrev pub ModulesTaken : List ObjModule → List (ℕ × ℕ) → ℕ → ℕ → List (List (Option (ℕ × ℕ))) → Type 0
ModulesTaken ms places next i spots =
    (place : Part → Option (ℕ × ℕ)) (rest : List Part) → ArePlacesOf place (flat_map (λ (q : ℕ × ObjModule). contributions_in q.0 q.1) (enumerate_from 1 ms) ++ rest) places
    → ArePlacesOf place (of_all (1 + i) (drop i ms) ++ rest) (drop next places) × (spots ≡ map (λ (q : ℕ × ObjModule). seg_places place q.0 q.1.segs) (enumerate_from 1 (take i ms)))

pub modules-begin : (ms : List ObjModule) (places : List (ℕ × ℕ)) (spots : List (List (Option (ℕ × ℕ)))) → spots ≡ [] → ModulesTaken ms places 0 0 spots
modules-begin ms places spots e = λ place rest are. (are, e)

pub modules-more : (ms : List ObjModule) (places : List (ℕ × ℕ)) (next on i : ℕ) (spots after : List (List (Option (ℕ × ℕ)))) (m : ObjModule) (row : List (Option (ℕ × ℕ))) → i < length ms → m ≡ get_or ms i m →
    TakesPlaces m.segs places next on row → ModulesTaken ms places next i spots → after ≡ spots ++ row ∷ [] → ModulesTaken ms places on (i + 1) after
modules-more ms places next on i spots after m row lt is takes taken grown = λ place rest are.
    let now = taken place rest are in
    let next_is : 1 + i + 1 ≡ 1 + (i + 1) = omega arith in
    let later : List Part = of_all (1 + (i + 1)) (drop (i + 1) ms) in
    let split : of_all (1 + i) (drop i ms) ++ rest ≡ contributions_in (1 + i) m ++ (later ++ rest) =
    ap (λ (t : List ObjModule). of_all (1 + i) t ++ rest) (drop-step ms i m lt is)
    ∙ ap (λ (k : ℕ). (contributions_in (1 + i) m ++ of_all k (drop (i + 1) ms)) ++ rest) next_is
    ∙ append_assoc (contributions_in (1 + i) m) later rest in
    let these = takes place (1 + i) (later ++ rest) (now.0 ∙ ap (map place) split) in (
      these.0,
      each-more (λ (q : ℕ × ObjModule). seg_places place q.0 q.1.segs) 1 [] spots after ms i m row lt is these.1 now.1 grown,
    )

pub modules-end : (ms : List ObjModule) (places : List (ℕ × ℕ)) (next i : ℕ) (spots : List (List (Option (ℕ × ℕ)))) → i ≡ length ms → ModulesTaken ms places next i spots →
    (place : Part → Option (ℕ × ℕ)) (rest : List Part) → ArePlacesOf place (flat_map (λ (q : ℕ × ObjModule). contributions_in q.0 q.1) (enumerate_from 1 ms) ++ rest) places
    → spots ≡ map (λ (q : ℕ × ObjModule). seg_places place q.0 q.1.segs) (enumerate_from 1 ms)
modules-end ms places next i spots all taken place rest are =
    (taken place rest are).1 ∙ ap (λ (t : List ObjModule). map (λ (q : ℕ × ObjModule). seg_places place q.0 q.1.segs) (enumerate_from 1 t)) (take_all ms i all)

-- ---- communals

abbrev communal : Part → Bool
communal p = comes_of_communal p.origin

-- After so many parts.
abbrev pub CommonsTaken : List Part → List (ℕ × ℕ) → ℕ → List (ℕ × ℕ) → Type 0
CommonsTaken ps places i commons =
    (place : Part → Option (ℕ × ℕ)) → ArePlacesOf place ps places → ArePlacesOf place (filter (λ p. comes_of_communal p.origin) (take i ps)) commons

pub commons-in : (ps : List Part) (places : List (ℕ × ℕ)) (i : ℕ) (p : Part) (q d : ℕ × ℕ) (commons after : List (ℕ × ℕ)) → length places ≡ length ps → i < length ps → p ≡ get_or ps i p → comes_of_communal p.origin ≡ true → q ≡ get_or places i d →
    CommonsTaken ps places i commons → after ≡ commons ++ q ∷ [] → CommonsTaken ps places (i + 1) after
commons-in ps places i p q d commons after len lt is kept at taken grown = λ place are.
    let before : List Part = filter communal (take i ps) in
    let here : Some q ≡ place p =
    ap (λ (t : ℕ × ℕ). Some t) at ∙ sym (get_or-map (λ (t : ℕ × ℕ). Some t) places i d None (omega (arith, lt, len)))
    ∙ ap (λ (t : List (Option (ℕ × ℕ))). get_or t i None) are ∙ get_or-map place ps i p None lt ∙ ap place (sym is) in
    ap (map (λ (t : ℕ × ℕ). Some t)) grown ∙ map-append (λ (t : ℕ × ℕ). Some t) commons (q ∷ [])
    ∙ ap (λ (t : List (Option (ℕ × ℕ))). t ++ Some q ∷ []) (taken place are)
    ∙ ap (λ (o : Option (ℕ × ℕ)). map place before ++ o ∷ []) here
    ∙ sym (ap (map place) (one_kept communal ps i p lt is ∙ ap (λ (b : Bool). before ++ cond b (p ∷ []) []) kept) ∙ map-append place before (p ∷ []))

pub commons-out : (ps : List Part) (places : List (ℕ × ℕ)) (i : ℕ) (p : Part) (commons : List (ℕ × ℕ)) → i < length ps → p ≡ get_or ps i p → comes_of_communal p.origin ≡ false →
    CommonsTaken ps places i commons → CommonsTaken ps places (i + 1) commons
commons-out ps places i p commons lt is other taken = λ place are.
    let before : List Part = filter communal (take i ps) in
    taken place are
    ∙ sym (ap (map place) (one_kept communal ps i p lt is ∙ ap (λ (b : Bool). before ++ cond b (p ∷ []) []) other ∙ append-nil before))

pub commons-end : (ps : List Part) (places : List (ℕ × ℕ)) (i : ℕ) (commons : List (ℕ × ℕ)) → i ≡ length ps → CommonsTaken ps places i commons → (place : Part → Option (ℕ × ℕ)) → ArePlacesOf place ps places → ArePlacesOf place (filter (λ p. comes_of_communal p.origin) ps) commons
commons-end ps places i commons all taken place are =
    taken place are ∙ ap (λ (t : List Part). map place (filter communal t)) (take_all ps i all)
