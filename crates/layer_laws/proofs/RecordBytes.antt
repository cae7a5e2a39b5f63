-- What the fixup records of a link put into a page, byte by byte.
use Rattle.std.specs.Prelude.{◌≡◌, ℕ, pos, ◌+◌, ◌*◌, ◌-ℤ◌, ◌<◌, ◌≤◌, ◌⊎◌, ◌==◌, ◌&&◌, ◌||◌, nat_lt, nat_le, Bool, true, false, cond, List, [], ◌∷◌, Some, None, Result, Ok, Err, map, filter, length, refl}
use Rattle.std.specs.List.{AllByRecursion, filter_map}
use Rattle.std.proofs.Common.{ap, sym, ◌∙◌, arith, true≢false, inl, inr}
use Rattle.std.proofs.lemmas.Bool.{agree_below_at, cases_lt, eq-eqb, eqb-true, or_cases, and_from, le-leb, lt-ltb}
use Rattle.std.proofs.lemmas.List.Elements.{recursion_from_All, filter_passes}
use Rattle.lx_types.specs.declared.bases.Bases.{Bases}
use Rattle.lx_types.specs.declared.fix.Fix.{Fix}
use Rattle.lx_types.specs.declared.fix.Source.{Source}
use Rattle.lx_types.specs.declared.fix.Source.TheVariants.{Byte, Sel, Far16, Off16, Far32, Off32, Self32}
use Rattle.lx_types.specs.declared.fix.FixTarget.{FixTarget}
use Rattle.lx_types.specs.declared.object.PageId.{PageId}
use Rattle.lx_types.specs.declared.object.TheConstants.{PAGE_SIZE}
use Rattle.lx_types.specs.declared.parts.Parts.{Parts}
use Rattle.lx_types.specs.Addresses.{address}
use Rattle.lx_types.specs.Parts.{object_of}
use Rattle.obj_types.specs.Location.{location_len}
use Rattle.link_model.specs.Link.{Link}
use Rattle.link_model.specs.Fixups.{Fixup}
use Rattle.link_model.specs.Mean.{fixup_end, fixup_covers}
use Rattle.link_model.specs.Patches.{recorded}
use Rattle.link_model.specs.Records.{source_of, has_alias, target_and_additive, offset_on, record_on, stands_on, page_records}
use Rattle.link_model.proofs.Members.{In, here, there, from_filter, from_map}
use Rattle.link_model.proofs.ValueLengths.{no_location}
use Rattle.lx_model.specs.Entries.{target_spot}
use Rattle.lx_model.specs.Fixed.{spot_address, end_address, field_bytes, bytes_if, patch_of, index_in, byte_if}
use Rattle.lx_model.specs.declared.library.EntryFault.{EntryFault}
use Rattle.lx_model.specs.declared.library.Spot.{Spot}
use Rattle.lx_model.specs.Library.{module_of}
use Rattle.lx_model.specs.Sources.{source_size}
use Rattle.image_model.specs.Linked.{fix_in_file}
use Rattle.image_model.proofs.TargetsThere.{mapped, from_filter_map}
use Rattle.layer_laws.proofs.FixedBytes.{put, byte-outside}

-- ---- sizes

abbrev source_by : ℕ → Bool → Source
source_by loc selfrel =
    cond (loc == 0) Byte (cond (loc == 1 || loc == 5) Off16 (cond (loc == 2) Sel (cond (loc == 3) Far16 (cond (loc == 11) Far32 (cond selfrel Self32 Off32)))))

abbrev is_sized : Bool → ℕ → Bool
is_sized selfrel loc = location_len loc == 0 || source_size (source_by loc selfrel) == location_len loc

all_sized : (selfrel : Bool) (loc : ℕ) → loc < 14 → is_sized selfrel loc ≡ true
all_sized true loc h = agree_below_at (is_sized true) (λ n. true) 14 loc refl h
all_sized false loc h = agree_below_at (is_sized false) (λ n. true) 14 loc refl h

sized_by : (loc : ℕ) (selfrel : Bool) → 0 < location_len loc → is_sized selfrel loc ≡ true → source_size (source_by loc selfrel) ≡ location_len loc
sized_by loc selfrel h e =
    elim (or_cases (location_len loc == 0) (source_size (source_by loc selfrel) == location_len loc) e) as (λ s. source_size (source_by loc selfrel) ≡ location_len loc) [
      | inl z ↦ absurd (omega (arith, eqb-true (location_len loc) 0 z, h))
      | inr same ↦ eqb-true (source_size (source_by loc selfrel)) (location_len loc) same
    ]

-- A source is as long as its location.
pub source-long : (q : Fixup) → 0 < location_len q.fix.loc → source_size (source_of q) ≡ location_len q.fix.loc
source-long q h =
    elim (cases_lt q.fix.loc 14) as (λ s. source_size (source_of q) ≡ location_len q.fix.loc) [
      | inl below ↦ sized_by q.fix.loc q.fix.selfrel h (all_sized q.fix.selfrel q.fix.loc below)
      | inr past ↦ absurd (omega (arith, no_location q.fix.loc past, h))
    ]

-- A field has as many bytes as its source.
field-long : (s : Source) (alias : Bool) (flags v end_at : ℕ) → length (field_bytes s alias flags v end_at) ≡ source_size s
field-long Byte alias flags v end_at = refl
field-long Sel alias flags v end_at = refl
field-long Far16 alias flags v end_at = refl
field-long Off16 alias flags v end_at = refl
field-long Far32 alias flags v end_at = refl
field-long Off32 alias flags v end_at = refl
field-long Self32 alias flags v end_at = refl

bytes_short : (lib : List Parts) (m : ℕ) (bases : Bases) (p : PageId) (f : Fix) (s : Result Spot EntryFault) → length (bytes_if lib m bases p f s) ≤ source_size f.source
bytes_short lib m bases p f (Ok s) =
    let long = field-long f.source f.alias (object_of (module_of lib s.module) s.object).flags (address (spot_address bases s) f.additive) (end_address bases m p f) in
    omega (arith, long)
bytes_short lib m bases p f (Err e) = omega arith

-- ---- the fixup of a record

abbrev pub record-with : ℕ → Fixup → FixTarget × ℕ → Fix
record-with k q t = record { source = source_of q; alias = has_alias q; offset = offset_on k q; target = t.0; additive = t.1 }

-- A record of a page is that of a fixup that stands there.
pub record OfFixup (l : Link) (n k : ℕ) (f : Fix) : Type 0 where
  pub fixup : Fixup
  pub inside : In fixup (recorded l)
  pub stands : stands_on n k fixup ≡ true
  pub target : FixTarget × ℕ
  pub led : target_and_additive l fixup fixup.target ≡ Some target
  pub is : f ≡ fix_in_file l (record-with k fixup target)

pub passes : {X : Type 0} (test : X → Bool) (xs : List X) {x : X} → In x (filter test xs) → test x ≡ true
passes {X} test xs {x} i = each (filter test xs) (recursion_from_All (λ y. test y ≡ true) (filter test xs) (filter_passes test xs)) i
  where
    each : (ys : List X) → AllByRecursion (λ y. test y ≡ true) ys → In x ys → test x ≡ true
    each [] all j = elim j [ ]
    each (y ∷ ys) all here = all.0
    each (y ∷ ys) all (there j) = each ys all.1 j

pub of-fixup : (l : Link) (n k : ℕ) (f : Fix) → In f (map (fix_in_file l) (page_records l n k)) → OfFixup l n k f
unfolding page_records
of-fixup l n k f i =
    let g = from_map (fix_in_file l) (filter_map (record_on l k) (filter (stands_on n k) (recorded l))) i in
    let q = from_filter_map (record_on l k) (filter (stands_on n k) (recorded l)) g.inside in
    let t = mapped (record-with k q.item) (target_and_additive l q.item q.item.target) g.item q.gives in
    record {
      fixup = q.item;
      inside = from_filter (stands_on n k) (recorded l) q.inside;
      stands = passes (stands_on n k) (recorded l) q.inside;
      target = t.item;
      led = t.is;
      is = sym g.is ∙ ap (fix_in_file l) (sym t.gives);
    }

-- The bytes of its field.
abbrev pub bytes-of : List Parts → ℕ → Bases → PageId → Fix → List ℕ
bytes-of lib m bases p f = bytes_if lib m bases p f (target_spot lib m f.target)

-- What it puts at byte r of its page.
pub put-is : (lib : List Parts) (m : ℕ) (bases : Bases) (p : PageId) (r : ℕ) (l : Link) (k : ℕ) (q : Fixup) (t : FixTarget × ℕ)
    → put lib m bases p r (fix_in_file l (record-with k q t)) ≡ byte_if (bytes-of lib m bases p (fix_in_file l (record-with k q t))) (index_in (pos q.offset -ℤ pos (k * PAGE_SIZE)) r)
unfolding patch_of
put-is lib m bases p r l k q t = refl

-- ---- outside of its field

outside : (n x : ℕ) (q : Fixup) → q.object ≡ n → fixup_covers n x q ≡ false → (x < q.offset) ⊎ (fixup_end q ≤ x)
outside n x q same covers =
    elim (cases_lt x q.offset) as (λ s. (x < q.offset) ⊎ (fixup_end q ≤ x)) [
      | inl before ↦ inl before
      | inr from ↦ elim (cases_lt x (fixup_end q)) as (λ s. (x < q.offset) ⊎ (fixup_end q ≤ x)) [
        | inl below ↦ absurd (true≢false (sym (and_from (q.object == n && nat_le q.offset x) (nat_lt x (fixup_end q)) (and_from (q.object == n) (nat_le q.offset x) (eq-eqb q.object n same) (le-leb q.offset x from)) (lt-ltb x (fixup_end q) below)) ∙ covers))
        | inr after ↦ inr after
      ]
    ]

pub put-outside : (lib : List Parts) (m : ℕ) (bases : Bases) (p : PageId) (n x k r : ℕ) (l : Link) (q : Fixup) (t : FixTarget × ℕ) → 0 < location_len q.fix.loc → k * PAGE_SIZE + r ≡ x → q.object ≡ n → fixup_covers n x q ≡ false
    → put lib m bases p r (fix_in_file l (record-with k q t)) ≡ None
put-outside lib m bases p n x k r l q t some whole same covers =
    let f = fix_in_file l (record-with k q t) in
    let bytes = bytes-of lib m bases p f in
    let short = bytes_short lib m bases p f (target_spot lib m f.target) in
    let long = source-long q some in
    put-is lib m bases p r l k q t
    ∙ byte-outside bytes q.offset (k * PAGE_SIZE) r
    (elim (outside n x q same covers) as (λ s. (k * PAGE_SIZE + r < q.offset) ⊎ (q.offset + length bytes ≤ k * PAGE_SIZE + r)) [ inl before ↦ inl (omega (arith, before, whole)) | inr after ↦ inr (omega (arith, after, short, long, whole)) ])
