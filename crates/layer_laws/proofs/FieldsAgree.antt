-- A fixup record to a place in the link puts there what the fixup means.
use Rattle.std.specs.Prelude.{◌≡◌, ℕ, zero, suc, ◌+◌, ◌-◌, ◌*◌, ◌/◌, ◌%◌, ◌<◌, ◌≤◌, ◌^◌, ◌==◌, ◌&&◌, ◌||◌, nat_le, Bool, true, false, cond, not, if◌then◌else◌, List, [], ◌∷◌, ◌++◌, Option, Some, find, length, get_or, slice_get, slice_index, is_some, unwrap_or, refl}
use Rattle.std.specs.Option.{option_map_or}
use Rattle.std.proofs.Common.{ap, sym, ◌∙◌, arith, true≢false, inl, inr}
use Rattle.std.proofs.Math.Nat.{add-mod-mod, mod-eq_of_lt}
use Rattle.std.proofs.lemmas.Bool.{eqb-true, or_cases, leb-false}
use Rattle.std.proofs.lemmas.Option.{unwrap_or-slice_get}
use Rattle.lx_bytes.specs.LittleEndian.{little_bytes}
use Rattle.lx_types.specs.Addresses.{address, is_big, tiled_selector, flat_selector, selector, selected_offset}
use Rattle.lx_types.specs.declared.limits.TheConstants.{BASE_UNIT, SHARED_END}
use Rattle.lx_types.specs.Parts.{no_object, object_of}
use Rattle.lx_types.specs.declared.bases.Bases.{Bases}
use Rattle.lx_types.specs.declared.fix.Source.{Source}
use Rattle.lx_types.specs.declared.fix.Source.TheVariants.{Byte, Sel, Far16, Off16, Far32, Off32, Self32}
use Rattle.lx_types.specs.declared.parts.Parts.{Parts}
use Rattle.obj_types.specs.Items.{item}
use Rattle.link_model.specs.declared.symbols.LaidObject.{LaidObject}
use Rattle.link_model.specs.Words.{wrapped}
use Rattle.link_model.specs.Link.{Link}
use Rattle.link_model.specs.Fixups.{Fixup}
use Rattle.link_model.specs.Layout.{objects, object_flags}
use Rattle.link_model.specs.Records.{source_of, has_alias, page_count}
use Rattle.link_model.specs.Value.{relative_to_segment}
use Rattle.link_model.proofs.Members.{item_at}
use Rattle.lx_model.specs.Fixed.{bases_of, base_of, field_bytes}
use Rattle.lx_model.specs.Library.{module_of}
use Rattle.image_model.specs.Linked.{image_of}
use Rattle.image_model.specs.ObjectTable.{object_heads_from}
use Rattle.image_model.specs.ReadBack.{parts_of_image}
use Rattle.image_model.specs.World.{world_of}
use Rattle.layer_laws.proofs.LoadedPages.{Loaded}

-- ---- sums of 32 bits

pub mod-first : (a b m : ℕ) → (a % m + b) % m ≡ (a + b) % m
mod-first a b m =
    let one : a % m + b ≡ b + a % m = omega arith in
    let other : b + a ≡ a + b = omega arith in
    ap (λ (n : ℕ). n % m) one ∙ add-mod-mod b a m ∙ ap (λ (n : ℕ). n % m) other

-- The address of a record's target, which has the number that stands in the location, is that of the goal and the number.
pub sums-agree : (base offset disp standing : ℕ) → address (address base (wrapped (wrapped (offset + disp) + standing))) 0 ≡ wrapped (wrapped (address base offset + disp) + standing)
sums-agree base offset disp standing =
    let m = 2 ^ 32 in
    let left : address (address base (wrapped (wrapped (offset + disp) + standing))) 0 ≡ (offset + disp + (base + standing)) % m =
    mod-first (base + ((offset + disp) % m + standing) % m) 0 m
    ∙ ap (λ (n : ℕ). n % m) (let e : base + ((offset + disp) % m + standing) % m + 0 ≡ base + ((offset + disp) % m + standing) % m = omega arith in e)
    ∙ add-mod-mod base ((offset + disp) % m + standing) m
    ∙ ap (λ (n : ℕ). n % m) (let e : base + ((offset + disp) % m + standing) ≡ (offset + disp) % m + (base + standing) = omega arith in e)
    ∙ mod-first (offset + disp) (base + standing) m in
    let right : wrapped (wrapped (address base offset + disp) + standing) ≡ (base + offset + (disp + standing)) % m =
    mod-first ((base + offset) % m + disp) standing m
    ∙ ap (λ (n : ℕ). n % m) (let e : (base + offset) % m + disp + standing ≡ (base + offset) % m + (disp + standing) = omega arith in e)
    ∙ mod-first (base + offset) (disp + standing) m in
    left ∙ ap (λ (n : ℕ). n % m) (let e : offset + disp + (base + standing) ≡ base + offset + (disp + standing) = omega arith in e) ∙ sym right

-- ---- selectors

-- A selector's target and additive lie in one tile: an object begins at the begin of one.
pub tiles-agree : (base offset disp : ℕ) → base % BASE_UNIT ≡ 0 → base ≤ SHARED_END → tiled_selector (address (address base 0) (if nat_le BASE_UNIT (wrapped (offset + disp)) then wrapped (offset + disp) else 0)) ≡ tiled_selector (wrapped (address base offset + disp))
tiles-agree base offset disp aligned low =
    let at = wrapped (offset + disp) in
    let target : wrapped (address base offset + disp) ≡ (base + at) % 2 ^ 32 =
    mod-first (base + offset) disp (2 ^ 32) ∙ ap (λ (n : ℕ). n % 2 ^ 32) (let e : base + offset + disp ≡ base + (offset + disp) = omega arith in e) ∙ sym (add-mod-mod base (offset + disp) (2 ^ 32)) in
    by (nat_le BASE_UNIT at) refl target
  where
    small : address base 0 ≡ base
    small = ap (λ (n : ℕ). n % 2 ^ 32) (let e : base + 0 ≡ base = omega arith in e) ∙ mod-eq_of_lt (omega (arith, low))

    tile_of : (at : ℕ) → at < BASE_UNIT → (base + at) / BASE_UNIT ≡ base / BASE_UNIT
    tile_of at below = omega (arith, aligned, below)

    by : (b : Bool) → nat_le BASE_UNIT (wrapped (offset + disp)) ≡ b → wrapped (address base offset + disp) ≡ (base + wrapped (offset + disp)) % 2 ^ 32 → tiled_selector (address (address base 0) (if b then wrapped (offset + disp) else 0)) ≡ tiled_selector (wrapped (address base offset + disp))
    by true is target = ap (λ (n : ℕ). tiled_selector (address n (wrapped (offset + disp)))) small ∙ ap tiled_selector (sym target)
    by false is target =
        let at = wrapped (offset + disp) in
        let below : at < BASE_UNIT = leb-false BASE_UNIT at is in
        let whole : (base + at) % 2 ^ 32 ≡ base + at = mod-eq_of_lt (omega (arith, low, below)) in
        let here : address (address base 0) 0 ≡ base = ap (λ (n : ℕ). address n 0) small ∙ small in
        ap tiled_selector here ∙ ap (λ (n : ℕ). (n * 8 + 7) % BASE_UNIT) (sym (tile_of at below)) ∙ ap tiled_selector (sym whole) ∙ ap tiled_selector (sym target)

selectors_agree : (narrow : Bool) (flags u t : ℕ) → tiled_selector u ≡ tiled_selector t → selector narrow flags u ≡ selector narrow flags t
selectors_agree narrow flags u t same = by (narrow || not (is_big flags))
  where
    by : (b : Bool) → (if b then tiled_selector u else flat_selector flags) ≡ (if b then tiled_selector t else flat_selector flags)
    by true = same
    by false = refl

-- ---- fields

abbrev source_by : Bool → Bool → Bool → Bool → Bool → Bool → Source
source_by low short sel far wide self =
    cond low Byte (cond short Off16 (cond sel Sel (cond far Far16 (cond wide Far32 (cond self Self32 Off32)))))

abbrev value_by : Bool → Bool → Bool → Bool → Bool → Bool → ℕ → ℕ → ℕ → List ℕ
value_by low short sel far wide narrow flags t v =
    cond low (little_bytes 1 v) (cond short (little_bytes 2 v) (cond sel (little_bytes 2 (selector narrow flags t)) (cond far (little_bytes 2 v ++ little_bytes 2 (tiled_selector v)) (cond wide (little_bytes 4 (selected_offset false flags v) ++ little_bytes 2 (selector false flags v)) (little_bytes 4 v)))))

-- Of a location that is not self-relative, by its kind.
fields_by : (low short sel far wide narrow : Bool) (flags u t v end_at : ℕ) → (low ≡ true → sel ≡ false) → (short ≡ true → sel ≡ false) → (sel ≡ true → far ≡ false) → (sel ≡ false → u ≡ v) → (sel ≡ true → tiled_selector u ≡ tiled_selector t)
    → field_bytes (source_by low short sel far wide false) (far || sel && narrow) flags u end_at ≡ value_by low short sel far wide narrow flags t v
fields_by true short sel far wide narrow flags u t v end_at a b c same tile = ap (little_bytes 1) (same (a refl))
fields_by false true sel far wide narrow flags u t v end_at a b c same tile = ap (little_bytes 2) (same (b refl))
fields_by false false true far wide narrow flags u t v end_at a b c same tile =
    ap (λ (f : Bool). little_bytes 2 (selector (f || narrow) flags u)) (c refl) ∙ ap (little_bytes 2) (selectors_agree narrow flags u t (tile refl))
fields_by false false false true wide narrow flags u t v end_at a b c same tile =
    ap (λ (n : ℕ). little_bytes 2 n ++ little_bytes 2 (tiled_selector n)) (same refl)
fields_by false false false false true narrow flags u t v end_at a b c same tile =
    ap (λ (n : ℕ). little_bytes 4 (selected_offset false flags n) ++ little_bytes 2 (selector false flags n)) (same refl)
fields_by false false false false false narrow flags u t v end_at a b c same tile = ap (little_bytes 4) (same refl)

differs : (loc a b : ℕ) → a == b ≡ false → loc == a ≡ true → loc == b ≡ false
differs loc a b apart is = ap (λ (n : ℕ). n == b) (eqb-true loc a is) ∙ apart

short_differs : (loc : ℕ) → (loc == 1 || loc == 5) ≡ true → loc == 2 ≡ false
short_differs loc is =
    elim (or_cases (loc == 1) (loc == 5) is) as (λ s. loc == 2 ≡ false) [ inl one ↦ differs loc 1 2 refl one | inr five ↦ differs loc 5 2 refl five ]

-- What a record puts for an address u, where a selector's address is in the tile of t and any other is v.
pub fields-agree : (q : Fixup) (flags u t v end_at : ℕ) → q.fix.selfrel ≡ false → (q.fix.loc == 2 ≡ false → u ≡ v) → (q.fix.loc == 2 ≡ true → tiled_selector u ≡ tiled_selector t)
    → field_bytes (source_of q) (has_alias q) flags u end_at ≡ relative_to_segment q.fix.loc t v flags q.narrow
fields-agree q flags u t v end_at plain same tile =
    let loc = q.fix.loc in
    ap (λ (self : Bool). field_bytes (source_by (loc == 0) (loc == 1 || loc == 5) (loc == 2) (loc == 3) (loc == 11) self) (has_alias q) flags u end_at) plain
    ∙ fields_by (loc == 0) (loc == 1 || loc == 5) (loc == 2) (loc == 3) (loc == 11) q.narrow flags u t v end_at (differs loc 0 2 refl) (short_differs loc) (differs loc 2 3 refl) same tile

-- ---- the objects of a load

-- The base of an object of the module in the world of the load.
pub base-same : (lib : List Parts) (m : ℕ) (bases : Bases) (j : ℕ) → unwrap_or (item (world_of lib m bases).bases (suc j)) 0 ≡ base_of bases m (suc j)
unfolding world_of
base-same lib m bases j =
    let place : j ≡ suc j - 1 = omega arith in
    unwrap_or-slice_get (bases_of (find (λ b. b.module == m) bases.mods)) j 0 ∙ ap (slice_index (bases_of (find (λ b. b.module == m) bases.mods))) place

heads_flags : (first : ℕ) (os : List LaidObject) (i : ℕ) (o : LaidObject) → slice_get os i ≡ Some o → (get_or (object_heads_from first os) i no_object).flags ≡ o.flags
heads_flags first [] i o e = absurd (true≢false (sym (ap is_some e)))
heads_flags first (p ∷ os) zero o e = ap (λ (x : Option LaidObject). (unwrap_or x o).flags) e
heads_flags first (p ∷ os) (suc i) o e = heads_flags (first + page_count p.size) os i o e

flags_in_file : (l : Link) (j : ℕ) (o : LaidObject) → slice_get (objects l) j ≡ Some o → (object_of (parts_of_image (image_of l)) (suc j)).flags ≡ o.flags
unfolding parts_of_image image_of
flags_in_file l j o e =
    let place : suc j - 1 ≡ j = omega arith in
    ap (λ (n : ℕ). (get_or (object_heads_from 1 (objects l)) n no_object).flags) place ∙ heads_flags 1 (objects l) j o e

pub flags-same : (l : Link) (lib : List Parts) (m : ℕ) → Loaded l lib m → (j : ℕ) → j < length (objects l) → (object_of (module_of lib m) (suc j)).flags ≡ object_flags l (suc j)
flags-same l lib m loaded j below =
    let o = item_at (objects l) j below in
    ap (λ (p : Parts). (object_of p (suc j)).flags) loaded.is ∙ flags_in_file l j o.item o.is ∙ sym (ap (λ (x : Option LaidObject). option_map_or (λ y. y.flags) x 0) o.is)
