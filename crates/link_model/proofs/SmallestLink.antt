-- The smallest link: where its fixups and its data stand, which fixups are live, and its bytes.
use Rattle.std.specs.Prelude.{◌≡◌, ℕ, suc, ◌+◌, ◌-◌, ◌%◌, ◌≤◌, Bool, true, false, cond, ◌&&◌, List, [], ◌∷◌, Option, Some, None, map, length, nat_lt, nat_le, find, slice_index, unwrap_or, refl, IfSome}
use Rattle.std.specs.List.{filter_map, list_any, AllByRecursion, AllPairs}
use Rattle.std.specs.Option.{option_map, option_and_then}
use Rattle.std.specs.Int.{w32, to_le_bytes}
use Rattle.std.proofs.Common.{ap, ◌∙◌, arith, inl, inr}
use Rattle.std.proofs.Math.Bool.{and-false}
use Rattle.std.proofs.Math.Nat.{sub-zero}
use Rattle.std.proofs.lemmas.Bool.{le-ltb}
use Rattle.std.proofs.lemmas.List.{append-nil}
use Rattle.std.proofs.lemmas.List.Elements.{recursion_from_All}
use Rattle.obj_types.specs.declared.object.ObjModule.{ObjModule}
use Rattle.obj_types.specs.declared.object.Piece.{Piece}
use Rattle.link_model.specs.Words.{wrapped}
use Rattle.link_model.specs.Link.{Link, link_of}
use Rattle.link_model.specs.Data.{Data}
use Rattle.link_model.specs.Goals.{Internal}
use Rattle.link_model.specs.Fixups.{Fixup, fixups, fixup_of, standing_in}
use Rattle.link_model.specs.Value.{EntryPoints, World, Value}
use Rattle.link_model.specs.Mean.{overlap, live, live_fixups, fixup_covers, live_at, PlacedPiece, data_at, value_at, Mean}
use Rattle.link_model.specs.OneSegment.{covers, standing, value, mean_by, one_segment_mean, Apart, IsOneSegment, fix_of, one_segment, alone, only_pick}
use Rattle.link_model.proofs.Rules.{rules}
use Rattle.link_model.proofs.PlainBytes.{wrapped_small, four_bytes, sum_wrapped, in_piece, number_at}

abbrev pub link : List ℕ → List ℕ → List ℕ → List ℕ → ℕ → Link
link name bytes places stem base = link_of (alone (one_segment name bytes places) stem base) only_pick

-- ---- fixups

-- A fixup at a place, with all that its value needs.
abbrev pub placed : ObjModule → ℕ → Fixup
placed m place =
    record {
      by = 1;
      fix = fix_of place;
      object = 1;
      offset = wrapped (0 + place);
      narrow = false;
      target = Internal 1 0;
      frame = None;
      standing = standing_in m (fix_of place);
    }

all_placed :
    (name bytes places stem : List ℕ) (base : ℕ) (ps : List ℕ) →
    filter_map (fixup_of (link name bytes places stem base) 1 (one_segment name bytes places)) (map fix_of ps) ≡ map (placed (one_segment name bytes places)) ps
unfolding rules
all_placed name bytes places stem base [] = refl
all_placed name bytes places stem base (p ∷ ps) =
    ap (λ t. placed (one_segment name bytes places) p ∷ t) (all_placed name bytes places stem base ps)

pub fixups-link :
    (name bytes places stem : List ℕ) (base : ℕ) → fixups (link name bytes places stem base) ≡ map (placed (one_segment name bytes places)) places
unfolding rules
fixups-link name bytes places stem base =
    append-nil (filter_map (fixup_of (link name bytes places stem base) 1 (one_segment name bytes places)) (map fix_of places)) ∙ all_placed name bytes places stem base places

-- ---- all of them are live

-- A place that four bytes of a page begin at.
abbrev pub InPage : ℕ → Type 0
InPage p = p + 4 ≤ 4096

no_overlap : (a b : ℕ) → Apart a b → (nat_lt a (b + 4) && nat_lt b (a + 4)) ≡ false
no_overlap a b (inl h) = rw (le-ltb b (a + 4) h) (and-false (nat_lt a (b + 4)))
no_overlap a b (inr h) = rw (le-ltb a (b + 4) h) refl

overlap-placed : (m : ObjModule) (a b : ℕ) → InPage a → InPage b → Apart a b → overlap (placed m a) (placed m b) ≡ false
overlap-placed m a b ha hb h =
    let ea : (0 + a) % 4294967296 ≡ a = wrapped_small a (omega arith) in
    let eb : (0 + b) % 4294967296 ≡ b = wrapped_small b (omega arith) in
    rw (ea, eb) (no_overlap a b h)

none_overlap : (m : ObjModule) (a : ℕ) (ps : List ℕ) → InPage a → AllByRecursion InPage ps → AllByRecursion (Apart a) ps → list_any (overlap (placed m a)) (map (placed m) ps) ≡ false
none_overlap m a [] ha hs h = refl
none_overlap m a (p ∷ ps) ha hs h =
    rw (overlap-placed m a p ha hs.0 h.0) (none_overlap m a ps ha hs.1 h.1)

apart_from_first : (p : ℕ) (ps : List ℕ) → AllPairs Apart (p ∷ ps) → AllByRecursion (Apart p) ps
apart_from_first p ps h =
    recursion_from_All (Apart p) ps (λ k d lt. h 0 (suc k) d (omega arith) (omega arith))

apart_rest : (p : ℕ) (ps : List ℕ) → AllPairs Apart (p ∷ ps) → AllPairs Apart ps
apart_rest p ps h = λ i j d lt len. h (suc i) (suc j) d (omega arith) (omega arith)

pub all_live : (m : ObjModule) (ps : List ℕ) → AllByRecursion InPage ps → AllPairs Apart ps → live (map (placed m) ps) ≡ map (placed m) ps
all_live m [] hs h = refl
all_live m (p ∷ ps) hs h =
    rw (none_overlap m p ps hs.0 hs.1 (apart_from_first p ps h)) (ap (λ t. placed m p ∷ t) (all_live m ps hs.1 (apart_rest p ps h)))

-- ---- the fixup that covers a place

choose_placed : (m : ObjModule) (p : ℕ) (b : Bool) (r : Option Fixup) (s : Option ℕ) → r ≡ option_map (placed m) s → cond b (Some (placed m p)) r ≡ option_map (placed m) (cond b (Some p) s)
choose_placed m p true r s e = refl
choose_placed m p false r s e = e

pub find-placed : (m : ObjModule) (x : ℕ) (ps : List ℕ) → AllByRecursion InPage ps → find (fixup_covers 1 x) (map (placed m) ps) ≡ option_map (placed m) (find (covers x) ps)
find-placed m x [] hs = refl
find-placed m x (p ∷ ps) hs =
    let h : p + 4 ≤ 4096 = hs.0 in
    let e : (0 + p) % 4294967296 ≡ p = wrapped_small p (omega arith) in
    let rest = find-placed m x ps hs.1 in
    ap (λ (n : ℕ). cond (nat_le n x && nat_lt x (n + 4)) (Some (placed m p)) (find (fixup_covers 1 x) (map (placed m) ps))) e
    ∙ choose_placed m p (covers x p) (find (fixup_covers 1 x) (map (placed m) ps)) (find (covers x) ps) rest

-- ---- values

pub Data-module : (name bytes places : List ℕ) (x : ℕ) → Data (one_segment name bytes places) 1 x ≡ slice_index bytes x
Data-module name [] places x = refl
Data-module name (b ∷ bytes) places x =
    in_piece (λ (p : Piece). slice_index p.bytes (x - p.offset)) (record { seg = 1; offset = 0; bytes = b ∷ bytes }) (b ∷ bytes) x (ap (λ (n : ℕ). slice_index (b ∷ bytes) n) (sub-zero x))

pub standing-placed :
    (name bytes places : List ℕ) (p : ℕ) → standing_in (one_segment name bytes places) (fix_of p) ≡ standing bytes p
standing-placed name bytes places p =
    rw (Data-module name bytes places p, Data-module name bytes places (p + 1), Data-module name bytes places (p + 1 + 1), Data-module name bytes places (p + 1 + 1 + 1)) (number_at bytes p)

pub Value-placed :
    (name bytes places stem : List ℕ) (base at : ℕ) (imp : EntryPoints) (p : ℕ) →
    Value (link name bytes places stem base) (record { bases = at ∷ []; imp = imp }) (placed (one_segment name bytes places) p) ≡ Some (value at bytes p)
unfolding rules
Value-placed name bytes places stem base at imp p =
    let v : ℕ = wrapped (wrapped (wrapped (at + 0) + 0) + standing_in (one_segment name bytes places) (fix_of p)) in
    let same : v ≡ (at + standing bytes p) % 4294967296 = sum_wrapped at (standing_in (one_segment name bytes places) (fix_of p)) ∙ ap (λ (n : ℕ). (at + n) % 4294967296) (standing-placed name bytes places p) in
    ap (λ (t : List ℕ). Some t) (four_bytes v ∙ ap (λ (n : ℕ). to_le_bytes w32 n) same)

-- ---- bytes

pub data_at-link :
    (name bytes places stem : List ℕ) (base x : ℕ) → data_at (link name bytes places stem base) 1 x ≡ slice_index bytes x
unfolding rules
data_at-link name [] places stem base x = refl
data_at-link name (b ∷ bytes) places stem base x =
    in_piece (λ (p : PlacedPiece). slice_index p.bytes (x - p.offset)) (record { object = 1; offset = 0; bytes = b ∷ bytes }) (b ∷ bytes) x (ap (λ (n : ℕ). slice_index (b ∷ bytes) n) (sub-zero x))

pub in_page : (bytes places : List ℕ) → length bytes ≤ 4096 → AllByRecursion (λ p. p + 4 ≤ length bytes) places → AllByRecursion InPage places
in_page bytes [] len h = tt
in_page bytes (p ∷ ps) len h = let first = h.0 in (omega arith, in_page bytes ps len h.1)

pub live_at-link :
    (name bytes places stem : List ℕ) (base x : ℕ) → IsOneSegment bytes places → live_at (link name bytes places stem base) 1 x ≡ option_map (placed (one_segment name bytes places)) (find (covers x) places)
unfolding rules
live_at-link name bytes places stem base x one =
    let m = one_segment name bytes places in
    let inside = in_page bytes places one.one_page one.within in
    let alive : live_fixups (link name bytes places stem base) ≡ map (placed m) places = ap live (fixups-link name bytes places stem base) ∙ all_live m places inside one.apart in
    ap (find (fixup_covers 1 x)) alive ∙ find-placed m x places inside

found_by : (p : ℕ) (b : Bool) (rest : Option ℕ) → InPage p → IfSome rest InPage → IfSome (cond b (Some p) rest) InPage
found_by p true rest h hs = h
found_by p false rest h hs = hs

found_in_page : (x : ℕ) (ps : List ℕ) → AllByRecursion InPage ps → IfSome (find (covers x) ps) InPage
found_in_page x [] hs = tt
found_in_page x (p ∷ ps) hs =
    found_by p (covers x p) (find (covers x) ps) hs.0 (found_in_page x ps hs.1)

-- The byte of a value where a fixup was found, else of the data.
byte_found :
    (name bytes places stem : List ℕ) (base at : ℕ) (imp : EntryPoints) (x : ℕ) (found : Option ℕ) →
    IfSome found InPage → unwrap_or (option_and_then (value_at (link name bytes places stem base) (record { bases = at ∷ []; imp = imp }) x)
    (option_map (placed (one_segment name bytes places)) found)) (slice_index bytes x) ≡ mean_by at bytes x found
unfolding rules
byte_found name bytes places stem base at imp x None h = refl
byte_found name bytes places stem base at imp x (Some p) h =
    let e : wrapped (0 + p) ≡ p = wrapped_small p (omega (arith, h)) in
    ap (λ (o : Option (List ℕ)). unwrap_or (option_map (λ (b : List ℕ). slice_index b (x - wrapped (0 + p))) o) (slice_index bytes x))
    (Value-placed name bytes places stem base at imp p) ∙ ap (λ (n : ℕ). slice_index (value at bytes p) (x - n)) e

pub Mean-link :
    (name bytes places stem : List ℕ) (base at : ℕ) (imp : EntryPoints) (x : ℕ) →
    IsOneSegment bytes places → Mean (link name bytes places stem base) (record { bases = at ∷ []; imp = imp }) 1 x ≡ one_segment_mean at bytes places x
unfolding rules
Mean-link name bytes places stem base at imp x one =
    let l = link name bytes places stem base in
    let w : World = record { bases = at ∷ []; imp = imp } in
    let inside = in_page bytes places one.one_page one.within in
    let found = live_at-link name bytes places stem base x one in
    let there = data_at-link name bytes places stem base x in
    ap (λ (o : Option Fixup). unwrap_or (option_and_then (value_at l w x) o) (data_at l 1 x)) found
    ∙ (ap (λ (n : ℕ). unwrap_or (option_and_then (value_at l w x) (option_map (placed (one_segment name bytes places)) (find (covers x) places))) n) there
    ∙ byte_found name bytes places stem base at imp x (find (covers x) places) (found_in_page x places inside))
