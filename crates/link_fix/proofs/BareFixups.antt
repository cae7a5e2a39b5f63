-- What is left of fixups gives the same bytes and the same records.
use Rattle.std.specs.Prelude.{◌≡◌, ℕ, ◌+◌, ◌-◌, ◌<◌, Bool, true, false, cond, not, ◌&&◌, ◌||◌, ◌==◌, nat_le, List, [], ◌∷◌, Option, Some, None, map, filter, find, slice_get, slice_index, refl}
use Rattle.std.specs.Option.{option_map, option_map_or, option_and_then}
use Rattle.std.specs.List.{filter_map, flat_map, cons_option, list_any, range_with_len, enumerate_from, All}
use Rattle.std.proofs.Common.{ap, sym, ◌∙◌, arith, subst, true≢false}
use Rattle.std.proofs.Math.Bool.{and-false}
use Rattle.std.proofs.lemmas.Bool.{eqb-true}
use Rattle.std.proofs.lemmas.List.Elements.{All-nil, All-cons, All-head, All-tail, All-append, All-filter}
use Rattle.lx_types.specs.declared.limits.TheConstants.{BASE_UNIT}
use Rattle.lx_types.specs.declared.fix.FixTarget.{FixTarget}
use Rattle.lx_types.specs.declared.fix.FixTarget.TheVariants as leads
use Rattle.lx_bytes.specs.LittleEndian.{little, little_bytes}
use Rattle.obj_types.specs.declared.location.TheConstants.{LOCATION_BYTE, LOCATION_SELECTOR, LOCATION_OFFSET_32, LOCATION_LOADER_32}
use Rattle.obj_types.specs.declared.object.ObjModule.{ObjModule}
use Rattle.obj_types.specs.declared.object.FixAt.{FixAt}
use Rattle.obj_types.specs.Location.{location_len}
use Rattle.obj_types.specs.declared.symbol.Imp.{Imp}
use Rattle.link_model.specs.declared.refusals.FixRefusal.{FixRefusal}
use Rattle.link_model.specs.declared.symbols.LaidObject.{LaidObject}
use Rattle.link_model.specs.Words.{option_any, wrapped, difference}
use Rattle.link_model.specs.Data.{data_bytes}
use Rattle.link_model.specs.Link.{Link}
use Rattle.link_model.specs.Goals.{Target, Internal, Constant, Entry, object_of_target, target_of, location}
use Rattle.link_model.specs.Fixups.{Fixup, fix_refusal, fixups, fixup_at, fixup_of, is_far_self, is_frame_apart, is_const_selector, is_constant, is_short, offset_width, signed_byte, standing_in, stays_in_object, distance, is_past_reach}
use Rattle.link_model.specs.Value.{value_bytes}
use Rattle.link_model.specs.Mean.{PlacedPiece, live, overlap, fixup_covers}
use Rattle.link_model.specs.Patches.{is_patched, linked_world, patch_at, recorded}
use Rattle.link_model.specs.ImportTables.{import_target}
use Rattle.link_model.specs.Records.{stands_on}
use Rattle.link_fix.specs.Bare.{bare}
use Rattle.link_fix.specs.Pieces.{of_placed}
use Rattle.link_fix.specs.Values.{with_fields}
use Rattle.link_fix.specs.Tables.{pair_among, pairs_among}
use Rattle.link_fix.specs.Paging.{target_among, record_with, record_among, records_among}
use Rattle.link_fix.specs.Placed.{bytes_with}
use Rattle.link_fix.proofs.LinkPages.{Accepts, all-live, map-same, recorded-are}
use Rattle.link_fix.proofs.PatchValues.{with_target, internal_value, constant_value}

-- ---- which are live, and which get records

any_bare : (q : Fixup) (qs : List Fixup) → list_any (overlap (bare q)) (map bare qs) ≡ list_any (overlap q) qs
any_bare q [] = refl
any_bare q (r ∷ rs) = ap (λ (b : Bool). overlap q r || b) (any_bare q rs)

chosen_bare : (b : Bool) (q : Fixup) (qs : List Fixup) → cond b (map bare qs) (bare q ∷ map bare qs) ≡ map bare (cond b qs (q ∷ qs))
chosen_bare true q qs = refl
chosen_bare false q qs = refl

pub live-bare : (qs : List Fixup) → live (map bare qs) ≡ map bare (live qs)
live-bare [] = refl
live-bare (q ∷ qs) =
    ap (λ (b : Bool). cond b (live (map bare qs)) (bare q ∷ live (map bare qs))) (any_bare q qs)
    ∙ ap (λ (ls : List Fixup). cond (list_any (overlap q) qs) ls (bare q ∷ ls)) (live-bare qs)
    ∙ chosen_bare (list_any (overlap q) qs) q (live qs)

pub filter-mapped : {X Y : Type 0} (f : X → Y) (p : Y → Bool) (xs : List X) → map f (filter (λ x. p (f x)) xs) ≡ filter p (map f xs)
filter-mapped f p [] = refl
filter-mapped f p (x ∷ xs) = by (p (f x)) (filter-mapped f p xs)
  where
    by : (b : Bool) → map f (filter (λ y. p (f y)) xs) ≡ filter p (map f xs) → map f (cond b (x ∷ filter (λ y. p (f y)) xs) (filter (λ y. p (f y)) xs)) ≡ cond b (f x ∷ filter p (map f xs)) (filter p (map f xs))
    by true rest = ap (λ ys. f x ∷ ys) rest
    by false rest = rest

pub recorded-bare : (qs : List Fixup) → filter (λ q. not (is_patched q)) (map bare qs) ≡ map bare (filter (λ q. not (is_patched q)) qs)
recorded-bare qs = sym (filter-mapped bare (λ q. not (is_patched q)) qs)

-- ---- refusals

distance_sum : (x d s p : ℕ) → difference (x + wrapped (d + s) + 0) p ≡ difference (x + d + s) p
distance_sum x d s p = omega arith

distance_bare : (q : Fixup) (t : Target) → distance (bare q) t ≡ distance q t
distance_bare q (Internal o x) = distance_sum x q.fix.disp q.standing (q.offset + 1)
distance_bare q (Constant v) = refl
distance_bare q (Entry slot) = refl

far_bare : (q : Fixup) → is_far_self (bare q) ≡ is_far_self q
far_bare q =
    ap (λ (d : ℕ). q.fix.selfrel && (is_constant q.target || is_short q.fix.loc && not (stays_in_object q) || q.fix.loc == LOCATION_BYTE && is_past_reach d)) (distance_bare q q.target)

no_frame : (o : Option ℕ) → option_any (λ o. option_any (λ f. not (f == o)) None) o ≡ false
no_frame None = refl
no_frame (Some o) = refl

apart_bare : (q : Fixup) → is_frame_apart (bare q) ≡ false
apart_bare q =
    ap (λ (b : Bool). not q.fix.selfrel && not (q.fix.loc == LOCATION_OFFSET_32 || q.fix.loc == LOCATION_LOADER_32) && b) (no_frame (object_of_target q.target))
    ∙ and-false (not q.fix.selfrel && not (q.fix.loc == LOCATION_OFFSET_32 || q.fix.loc == LOCATION_LOADER_32))

still_none : (far far' apart constant none : Bool) (x y z u v w : FixRefusal) → far' ≡ far → none ≡ false
    → cond far (Some x) (cond apart (Some y) (cond constant (Some z) None)) ≡ None → cond far' (Some u) (cond none (Some v) (cond constant (Some w) None)) ≡ None
still_none true far' apart constant none x y z u v w same gone e = absurd cc
still_none false far' true constant none x y z u v w same gone e = absurd cc
still_none false far' false true none x y z u v w same gone e = absurd cc
still_none false true false false none x y z u v w same gone e = absurd (true≢false same)
still_none false false false false true x y z u v w same gone e = absurd (true≢false gone)
still_none false false false false false x y z u v w same gone e = refl

-- A fixup that is not refused is not refused without its frame.
pub bare-accepted : (q : Fixup) → fix_refusal q ≡ None → fix_refusal (bare q) ≡ None
unfolding fix_refusal
bare-accepted q e =
    still_none (is_far_self q) (is_far_self (bare q)) (is_frame_apart q) (is_const_selector q) (is_frame_apart (bare q)) _ _ _ _ _ _ (far_bare q) (apart_bare q) e

-- ---- bytes

same_distance : (x d s p : ℕ) → difference (x + (wrapped (d + s) + 0)) p ≡ difference (x + (d + s)) p
same_distance x d s p = omega arith

same_sum : (v d s : ℕ) → wrapped (v + (wrapped (d + s) + 0)) ≡ wrapped (v + (d + s))
same_sum v d s = omega arith

-- A constant is not refused with its frame either.
constant_accepted : (q : Fixup) (v : ℕ) → fix_refusal (bare (with_target q (Constant v))) ≡ None → fix_refusal (with_target q (Constant v)) ≡ None
unfolding fix_refusal
constant_accepted q v e =
    let r : Fixup = with_target q (Constant v) in
    still_none (is_far_self (bare r)) (is_far_self r) (is_frame_apart (bare r)) (is_const_selector r) (is_frame_apart r) _ _ _ _ _ _ refl (and-false (not q.fix.selfrel && not (q.fix.loc == LOCATION_OFFSET_32 || q.fix.loc == LOCATION_LOADER_32))) e

patched_bare :
    (l : Link) (q : Fixup) (t : Target) → fix_refusal (bare (with_target q t)) ≡ None → 0 < location_len q.fix.loc → is_patched (with_target q t) ≡ true
    → value_bytes l (linked_world l) (bare (with_target q t)) ≡ value_bytes l (linked_world l) (with_target q t)
patched_bare l q (Internal o x) accepted h e =
    internal_value l (bare q) o x e
    ∙ ap (little_bytes (location_len q.fix.loc)) (same_distance x q.fix.disp q.standing (q.offset + location_len q.fix.loc))
    ∙ sym (internal_value l q o x e)
patched_bare l q (Constant v) accepted h e =
    constant_value l (bare q) v accepted h
    ∙ ap (little_bytes (location_len q.fix.loc)) (same_sum v q.fix.disp q.standing)
    ∙ sym (constant_value l q v (constant_accepted q v accepted) h)
patched_bare l q (Entry slot) accepted h e = absurd (true≢false (sym e ∙ and-false q.fix.selfrel))

patch_by : (b : Bool) (v w : ℕ) → (b ≡ true → v ≡ w) → cond b v 0 ≡ cond b w 0
patch_by true v w e = e refl
patch_by false v w e = refl

patch_bare : (l : Link) (x : ℕ) (q : Fixup) → Accepts (bare q) → patch_at l x (bare q) ≡ patch_at l x q
patch_bare l x q a =
    patch_by (is_patched q) (slice_index (value_bytes l (linked_world l) (bare q)) (x - q.offset)) (slice_index (value_bytes l (linked_world l) q) (x - q.offset))
    (λ e. ap (λ (bs : List ℕ). slice_index bs (x - q.offset)) (patched_bare l q q.target a.0 a.1 e))

found_bare : (b : Bool) (l : Link) (x : ℕ) (q : Fixup) (o p : Option Fixup) (v : ℕ) → Accepts (bare q) → option_map_or (patch_at l x) o v ≡ option_map_or (patch_at l x) p v
    → option_map_or (patch_at l x) (cond b (Some (bare q)) o) v ≡ option_map_or (patch_at l x) (cond b (Some q) p) v
found_bare true l x q o p v a rest = patch_bare l x q a
found_bare false l x q o p v a rest = rest

-- What is left of a fixup is not refused, and is on a location that there is.
abbrev pub BareAccepts : Fixup → Type 0
BareAccepts q = Accepts (bare q)

fields_bare : (l : Link) (qs : List Fixup) (below : ℕ → ℕ → ℕ) (n x : ℕ) → All BareAccepts qs → with_fields l (map bare qs) below n x ≡ with_fields l qs below n x
fields_bare l [] below n x all = refl
fields_bare l (q ∷ qs) below n x all =
    found_bare (fixup_covers n x q) l x q (find (fixup_covers n x) (map bare qs)) (find (fixup_covers n x) qs) (below n x) (All-head BareAccepts q qs all)
    (fields_bare l qs below n x (All-tail BareAccepts q qs all))

pub bytes-bare : (l : Link) (qs : List Fixup) (ps : List PlacedPiece) (os : List LaidObject) → All BareAccepts qs → bytes_with l (map bare qs) ps os ≡ bytes_with l qs ps os
bytes-bare l qs ps os all =
    map-same (λ (q : ℕ × LaidObject). map (with_fields l (map bare qs) (of_placed ps) q.0) (range_with_len 0 q.1.size)) (λ (q : ℕ × LaidObject). map (with_fields l qs (of_placed ps) q.0) (range_with_len 0 q.1.size)) (enumerate_from 1 os)
    (λ q. map-same (with_fields l (map bare qs) (of_placed ps) q.0) (with_fields l qs (of_placed ps) q.0) (range_with_len 0 q.1.size) (λ x. fields_bare l qs (of_placed ps) q.0 x all))

-- ---- what stands in the location of a selector

-- Nothing stands in the location of a selector.
abbrev pub HasBareSelector : Fixup → Type 0
HasBareSelector q = q.fix.loc ≡ 2 → q.standing ≡ 0

nothing_by : (b : Bool) (x : ℕ) → cond (b && false) x 0 ≡ 0
nothing_by true x = refl
nothing_by false x = refl

nothing_stands : (m : ObjModule) (f : FixAt) → f.loc ≡ 2 → standing_in m f ≡ 0
nothing_stands m f e =
    let number : ℕ → ℕ = λ loc. little (data_bytes m f.seg f.offset (offset_width loc)) in
    subst (λ (loc : ℕ). cond (f.selfrel && loc == 0) (signed_byte (number loc)) (number loc) ≡ 0) (sym e) (nothing_by f.selfrel (signed_byte 0))

one_more : (l : Link) (n : ℕ) (m : ObjModule) (f : FixAt) (t : Option Target) (p : Option (ℕ × ℕ)) (rest : List Fixup) → All HasBareSelector rest
    → All HasBareSelector (cons_option (option_and_then (λ target. option_map (fixup_at l n m f target) p) t) rest)
one_more l n m f None p rest all = all
one_more l n m f (Some t) None rest all = all
one_more l n m f (Some t) (Some p) rest all = All-cons HasBareSelector (fixup_at l n m f t p) rest (nothing_stands m f) all

in_module : (l : Link) (n : ℕ) (m : ObjModule) (fs : List FixAt) → All HasBareSelector (filter_map (fixup_of l n m) fs)
in_module l n m [] = All-nil HasBareSelector
in_module l n m (f ∷ fs) = one_more l n m f (target_of l n f.goal) (location l n f) (filter_map (fixup_of l n m) fs) (in_module l n m fs)

in_modules : (l : Link) (start : ℕ) (ms : List ObjModule) → All HasBareSelector (flat_map (λ q. filter_map (fixup_of l q.0 q.1) q.1.fixes) (enumerate_from start ms))
in_modules l start [] = All-nil HasBareSelector
in_modules l start (m ∷ ms) =
    All-append HasBareSelector (filter_map (fixup_of l start m) m.fixes) (flat_map (λ q. filter_map (fixup_of l q.0 q.1) q.1.fixes) (enumerate_from (start + 1) ms))
    (in_module l start m m.fixes) (in_modules l (start + 1) ms)

have_bare_selectors : (l : Link) → All HasBareSelector (fixups l)
unfolding fixups
have_bare_selectors l = in_modules l 1 l.modules

pub recorded-selectors : (l : Link) → All HasBareSelector (recorded l)
recorded-selectors l =
    subst (λ (qs : List Fixup). All HasBareSelector qs) (sym (recorded-are l))
    (All-filter (λ q. not (is_patched q)) HasBareSelector (live (fixups l)) (all-live HasBareSelector (fixups l) (have_bare_selectors l)))

-- ---- records

picked_bare : {Y : Type 0} (f g : Fixup → Option Y) (qs : List Fixup) → ((q : Fixup) → f (bare q) ≡ g q) → filter_map f (map bare qs) ≡ filter_map g qs
picked_bare f g [] same = refl
picked_bare {Y} f g (q ∷ qs) same =
    ap (λ (o : Option Y). cons_option o (filter_map f (map bare qs))) (same q) ∙ ap (λ (ys : List Y). cons_option (g q) ys) (picked_bare f g qs same)

picked_among : {Y : Type 0} (P : Fixup → Type 0) (f g : Fixup → Option Y) (qs : List Fixup) → ((q : Fixup) → P q → f (bare q) ≡ g q) → All P qs → filter_map f (map bare qs) ≡ filter_map g qs
picked_among P f g [] same all = refl
picked_among {Y} P f g (q ∷ qs) same all =
    ap (λ (o : Option Y). cons_option o (filter_map f (map bare qs))) (same q (All-head P q qs all))
    ∙ ap (λ (ys : List Y). cons_option (g q) ys) (picked_among P f g qs same (All-tail P q qs all))

selected_sum : (x d s : ℕ) → s ≡ 0 → wrapped (x + wrapped (d + s)) ≡ wrapped (x + d)
selected_sum x d s e = omega arith

offset_sum : (x d s : ℕ) → wrapped (wrapped (x + wrapped (d + s)) + 0) ≡ wrapped (wrapped (x + d) + s)
offset_sum x d s = omega arith

additive_sum : (d s : ℕ) → wrapped (wrapped (d + s) + 0) ≡ wrapped (d + s)
additive_sum d s = omega arith

-- Where the record of a selector leads, and that of another location.
abbrev selected : ℕ → ℕ → FixTarget × ℕ
selected o at = (leads.Internal o 0, cond (nat_le BASE_UNIT at) at 0)

abbrev led : ℕ → ℕ → FixTarget × ℕ
led o at = (leads.Internal o at, 0)

internal_bare : (b : Bool) (o x d s : ℕ) → (b ≡ true → s ≡ 0)
    → cond b (selected o (wrapped (x + wrapped (d + s)))) (led o (wrapped (wrapped (x + wrapped (d + s)) + 0))) ≡ cond b (selected o (wrapped (x + d))) (led o (wrapped (wrapped (x + d) + s)))
internal_bare true o x d s none = ap (selected o) (selected_sum x d s (none refl))
internal_bare false o x d s none = ap (led o) (offset_sum x d s)

target_bare : (imports pairs : List Imp) (q : Fixup) (t : Target) → HasBareSelector q → target_among imports pairs (bare q) t ≡ target_among imports pairs q t
target_bare imports pairs q (Internal o x) none =
    ap (λ (t : FixTarget × ℕ). Some t) (internal_bare (q.fix.loc == LOCATION_SELECTOR) o x q.fix.disp q.standing (λ e. none (eqb-true q.fix.loc LOCATION_SELECTOR e)))
target_bare imports pairs q (Constant v) none = refl
target_bare imports pairs q (Entry slot) none =
    ap (λ (n : ℕ). option_map (λ (target : FixTarget). (target, n)) (option_and_then (import_target pairs) (slice_get imports slot))) (additive_sum q.fix.disp q.standing)

pub pairs-bare : (imports : List Imp) (qs : List Fixup) → pairs_among imports (map bare qs) ≡ pairs_among imports qs
pairs-bare imports qs = picked_bare (λ q. pair_among imports q.target) (λ q. pair_among imports q.target) qs (λ q. refl)

pub records-bare : (imports pairs : List Imp) (qs : List Fixup) (n k : ℕ) → All HasBareSelector qs → records_among imports pairs (map bare qs) n k ≡ records_among imports pairs qs n k
records-bare imports pairs qs n k all =
    ap (filter_map (record_among imports pairs k)) (sym (filter-mapped bare (stands_on n k) qs))
    ∙ picked_among HasBareSelector (record_among imports pairs k) (record_among imports pairs k) (filter (stands_on n k) qs)
    (λ q none. ap (option_map (record_with k q)) (target_bare imports pairs q q.target none)) (All-filter (stands_on n k) HasBareSelector qs all)
