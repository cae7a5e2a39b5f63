-- What a fixup record puts into its field is the value of the fixup, where its address and flags are those of the target.
use Rattle.std.specs.Prelude.{◌≡◌, ℕ, pos, negsuc, zero, suc, ◌+◌, ◌-◌, ◌*◌, ◌/◌, ◌%◌, ◌-ℤ◌, ◌<◌, ◌^◌, ◌==◌, ◌||◌, ◌&&◌, Bool, true, false, cond, not, List, ◌∷◌, Some, None, is_some, refl}
use Rattle.std.proofs.Common.{ap, sym, ◌∙◌, arith, true≢false, inl, inr}
use Rattle.std.proofs.lemmas.Bool.{cases_lt, or_parts}
use Rattle.std.proofs.lemmas.Int.{ints}
use Rattle.std.proofs.lemmas.Nat.{mod-pow-add, field_of, mod_low, mod_below}
use Rattle.lx_bytes.specs.LittleEndian.{little_bytes}
use Rattle.lx_types.specs.Addresses.{address, tiled_selector}
use Rattle.lx_types.specs.declared.bases.Bases.{Bases}
use Rattle.lx_types.specs.declared.fix.Source.{Source}
use Rattle.lx_types.specs.declared.fix.Source.TheVariants.{Byte, Sel, Far16, Off16, Far32, Off32, Self32}
use Rattle.lx_types.specs.declared.object.TheConstants.{PAGE_SIZE}
use Rattle.lx_types.specs.declared.parts.Parts.{Parts}
use Rattle.obj_types.specs.Location.{location_len, has_selector}
use Rattle.link_model.specs.declared.refusals.FixRefusal.TheVariants.{FarSelf, FrameApart, ConstSelector}
use Rattle.link_model.specs.Words.{difference}
use Rattle.link_model.specs.Link.{Link}
use Rattle.link_model.specs.Fixups.{Fixup, is_constant, is_short, stays_in_object, is_past_reach, distance, is_far_self, is_frame_apart, is_const_selector, fix_refusal}
use Rattle.link_model.specs.Patches.{is_patched}
use Rattle.link_model.specs.Records.{source_of, has_alias}
use Rattle.link_model.specs.Value.{World, place_address, target_flags, relative_to_segment, relative_to_self, target_number, sum_number, value_bytes}
use Rattle.lx_model.specs.Fixed.{base_of, after, field_bytes}
use Rattle.lx_model.specs.Sources.{source_size}
use Rattle.image_model.specs.World.{world_of}
use Rattle.layer_laws.proofs.FieldsAgree.{mod-first, fields-agree, base-same}
use Rattle.layer_laws.proofs.RecordBytes.{source-long}

-- ---- the lowest bytes of a number

-- They are those of what is left of it modulo so many bytes.
low_bytes : (n x : ℕ) → little_bytes n (x % 2 ^ (8 * n)) ≡ little_bytes n x
low_bytes zero x = refl
low_bytes (suc n) x =
    let exponent : 8 * suc n ≡ 8 * n + 8 = omega arith in
    let cut : x % 2 ^ (8 * suc n) ≡ x % 2 ^ (8 * n + 8) = ap (λ (k : ℕ). x % 2 ^ k) exponent in
    let split : x % 2 ^ (8 * n + 8) ≡ (x / 2 ^ 8 % 2 ^ (8 * n)) * 2 ^ 8 + x % 2 ^ 8 = mod-pow-add x (8 * n) 8 in
    let first : x % 2 ^ (8 * suc n) % 256 ≡ x % 256 = ap (λ (k : ℕ). k % 256) (cut ∙ split) ∙ mod_low (x / 2 ^ 8 % 2 ^ (8 * n)) 8 (x % 2 ^ 8) (mod_below x (2 ^ 8) (omega arith)) in
    let others : x % 2 ^ (8 * suc n) / 256 ≡ x / 256 % 2 ^ (8 * n) = ap (λ (k : ℕ). k / 256) cut ∙ field_of x (8 * n) 8 in
    ap (λ (k : ℕ). k ∷ little_bytes n (x % 2 ^ (8 * suc n) / 256)) first ∙ ap (λ (k : ℕ). x % 256 ∷ little_bytes n k) others ∙ ap (λ (ks : List ℕ). x % 256 ∷ ks) (low_bytes n (x / 256))

-- A difference is wrapped where it is defined, and cut to four bytes where it is written.
differences-agree : (v end_at : ℕ) → little_bytes 4 (v + (2 ^ 32 - end_at % 2 ^ 32)) ≡ little_bytes 4 (difference v end_at)
differences-agree v end_at = sym (low_bytes 4 (v + (2 ^ 32 - end_at % 2 ^ 32)))

-- ---- the address after a field

-- Of a field at offset a of an object, on the page that begins at b, with so many bytes.
ends_by : (base a b size : ℕ) → after (2 ^ 32 + base + b + size) (pos a -ℤ pos b) ≡ 2 ^ 32 + (base + a + size)
ends_by base a b size =
    elim (cases_lt a b) as (λ s. after (2 ^ 32 + base + b + size) (pos a -ℤ pos b) ≡ 2 ^ 32 + (base + a + size)) [
      | inl below ↦ let z : negsuc (b - a - 1) ≡ pos a -ℤ pos b = omega (arith, ints) in ap (after (2 ^ 32 + base + b + size)) (sym z) ∙ (let e : 2 ^ 32 + base + b + size - suc (b - a - 1) ≡ 2 ^ 32 + (base + a + size) = omega (arith, below) in e)
      | inr past ↦ let z : pos (a - b) ≡ pos a -ℤ pos b = omega (arith, ints) in ap (after (2 ^ 32 + base + b + size)) (sym z) ∙ (let e : 2 ^ 32 + base + b + size + (a - b) ≡ 2 ^ 32 + (base + a + size) = omega (arith, past) in e)
    ]

ends-agree : (base a b size : ℕ) → after (2 ^ 32 + base + b + size) (pos a -ℤ pos b) % 2 ^ 32 ≡ (address base a + size) % 2 ^ 32
ends-agree base a b size =
    ap (λ (n : ℕ). n % 2 ^ 32) (ends_by base a b size) ∙ (let e : (2 ^ 32 + (base + a + size)) % 2 ^ 32 ≡ (base + a + size) % 2 ^ 32 = omega arith in e) ∙ sym (mod-first (base + a) size (2 ^ 32))

-- ---- which records are self-relative

-- Neither a selector nor a short location is: the reader refuses the one, and the link the other unless it is patched.
record Wide (loc : ℕ) : Type 0 where
  low : loc == 0 ≡ false
  short : (loc == 1 || loc == 5) ≡ false
  sel : loc == 2 ≡ false
  far : loc == 3 ≡ false
  wide : loc == 11 ≡ false

no_selector : (loc : ℕ) (selfrel : Bool) → (has_selector loc ≡ true → selfrel ≡ false) → selfrel ≡ true → has_selector loc ≡ false
no_selector loc selfrel whole is = by (has_selector loc) refl
  where
    by : (b : Bool) → has_selector loc ≡ b → has_selector loc ≡ false
    by true e = absurd (true≢false (sym is ∙ whole e))
    by false e = e

-- Left to the loader, it is in another object than its goal.
apart_from : (constant selfrel stays : Bool) → selfrel ≡ true → (constant || selfrel && stays) ≡ false → stays ≡ false
apart_from true selfrel stays is e = absurd (true≢false e)
apart_from false true stays is e = e
apart_from false false stays is e = absurd (true≢false (sym is))

far_by : (selfrel constant short stays low : Bool) → selfrel ≡ true → stays ≡ false → (selfrel && (constant || short && not stays || low)) ≡ false → short ≡ false
far_by true true short stays low is apart e = absurd (true≢false e)
far_by true false false stays low is apart e = refl
far_by true false true false low is apart e = absurd (true≢false e)
far_by true false true true low is apart e = absurd (true≢false apart)
far_by false constant short stays low is apart e = absurd (true≢false (sym is))

unrefused : (q : Fixup) → fix_refusal q ≡ None → is_far_self q ≡ false
unfolding fix_refusal
unrefused q none = by (is_far_self q) refl
  where
    by : (b : Bool) → is_far_self q ≡ b → is_far_self q ≡ false
    by true is = absurd (true≢false (sym (ap (λ (t : Bool). is_some (cond t (Some (FarSelf q.by q.fix.seg q.fix.offset)) (cond (is_frame_apart q) (Some (FrameApart q.by q.fix.seg q.fix.offset)) (cond (is_const_selector q) (Some (ConstSelector q.by q.fix.seg q.fix.offset)) None)))) is) ∙ ap is_some none))
    by false is = is

wide_when : (q : Fixup) → (has_selector q.fix.loc ≡ true → q.fix.selfrel ≡ false) → fix_refusal q ≡ None → is_patched q ≡ false → q.fix.selfrel ≡ true → Wide q.fix.loc
wide_when q whole none left is =
    let loc = q.fix.loc in
    let apart = apart_from (is_constant q.target) q.fix.selfrel (stays_in_object q) is left in
    let short = far_by q.fix.selfrel (is_constant q.target) (is_short loc) (stays_in_object q) (loc == 0 && is_past_reach (distance q q.target)) is apart (unrefused q none) in
    let one = or_parts (loc == 0 || loc == 1) (loc == 5) short in
    let two = or_parts (loc == 0) (loc == 1) one.0 in
    let sel = no_selector loc q.fix.selfrel whole is in
    let three = or_parts (loc == 2 || loc == 3) (loc == 11) sel in
    let four = or_parts (loc == 2) (loc == 3) three.0 in
    record {
      low = two.0;
      short = ap (λ (b : Bool). b || loc == 5) two.1 ∙ one.1;
      sel = four.0;
      far = four.1;
      wide = three.1;
    }

-- Its source is a self-relative doubleword.
pub record SelfWide (q : Fixup) : Type 0 where
  pub source : source_of q ≡ Self32
  pub long : location_len q.fix.loc ≡ 4
  pub plain : q.fix.loc == 2 ≡ false

abbrev source_by : Bool → Bool → Bool → Bool → Bool → Bool → Source
source_by low short sel far wide self =
    cond low Byte (cond short Off16 (cond sel Sel (cond far Far16 (cond wide Far32 (cond self Self32 Off32)))))

self_by : (low short sel far wide self : Bool) → low ≡ false → short ≡ false → sel ≡ false → far ≡ false → wide ≡ false → self ≡ true → source_by low short sel far wide self ≡ Self32
self_by true short sel far wide self a b c d e f = absurd (true≢false a)
self_by false true sel far wide self a b c d e f = absurd (true≢false b)
self_by false false true far wide self a b c d e f = absurd (true≢false c)
self_by false false false true wide self a b c d e f = absurd (true≢false d)
self_by false false false false true self a b c d e f = absurd (true≢false e)
self_by false false false false false true a b c d e f = refl
self_by false false false false false false a b c d e f = absurd (true≢false (sym f))

pub self-wide : (q : Fixup) → 0 < location_len q.fix.loc → (has_selector q.fix.loc ≡ true → q.fix.selfrel ≡ false) → fix_refusal q ≡ None → is_patched q ≡ false → q.fix.selfrel ≡ true → SelfWide q
self-wide q some whole none left is =
    let loc = q.fix.loc in
    let w = wide_when q whole none left is in
    let source : source_of q ≡ Self32 = self_by (loc == 0) (loc == 1 || loc == 5) (loc == 2) (loc == 3) (loc == 11) q.fix.selfrel w.low w.short w.sel w.far w.wide is in
    record { source = source; long = sym (source-long q some) ∙ ap source_size source; plain = w.sel }

-- ---- the value

self_agree : (q : Fixup) (flags u v end_at place : ℕ) → SelfWide q → u ≡ v → end_at ≡ (place + 4) % 2 ^ 32 → field_bytes (source_of q) (has_alias q) flags u end_at ≡ relative_to_self q.fix.loc place v
self_agree q flags u v end_at place wide same ends =
    ap (λ (s : Source). field_bytes s (has_alias q) flags u end_at) wide.source
    ∙ ap (λ (n : ℕ). little_bytes 4 (n + (2 ^ 32 - end_at))) same
    ∙ ap (λ (n : ℕ). little_bytes 4 (v + (2 ^ 32 - n))) ends
    ∙ differences-agree v (place + 4)
    ∙ ap (λ (n : ℕ). little_bytes n (difference v (place + n))) (sym wide.long)

-- What is known of a record's field.
pub record FieldOf (l : Link) (w : World) (q : Fixup) (flags u end_at : ℕ) : Type 0 where
  pub flags_same : flags ≡ target_flags l w q.target
  pub address_same : q.fix.loc == 2 ≡ false → u ≡ sum_number l w q
  pub tile_same : q.fix.loc == 2 ≡ true → tiled_selector u ≡ tiled_selector (target_number l w q)
  pub self_wide : q.fix.selfrel ≡ true → SelfWide q
  pub ends : q.fix.selfrel ≡ true → end_at ≡ (place_address w q.object q.offset + 4) % 2 ^ 32

pub field-means : (l : Link) (w : World) (q : Fixup) (flags u end_at : ℕ) → FieldOf l w q flags u end_at → field_bytes (source_of q) (has_alias q) flags u end_at ≡ value_bytes l w q
unfolding value_bytes
field-means l w q flags u end_at of = by q.fix.selfrel refl
  where
    by : (b : Bool) → q.fix.selfrel ≡ b → field_bytes (source_of q) (has_alias q) flags u end_at ≡ value_bytes l w q
    by true is =
        let wide = of.self_wide is in
        self_agree q flags u (sum_number l w q) end_at (place_address w q.object q.offset) wide (of.address_same wide.plain) (of.ends is) ∙ sym (ap (λ (b : Bool). cond b (relative_to_self q.fix.loc (place_address w q.object q.offset) (sum_number l w q)) (relative_to_segment q.fix.loc (target_number l w q) (sum_number l w q) (target_flags l w q.target) q.narrow)) is)
    by false is =
        fields-agree q flags u (target_number l w q) (sum_number l w q) end_at is of.address_same of.tile_same
        ∙ ap (λ (n : ℕ). relative_to_segment q.fix.loc (target_number l w q) (sum_number l w q) n q.narrow) of.flags_same
        ∙ sym (ap (λ (b : Bool). cond b (relative_to_self q.fix.loc (place_address w q.object q.offset) (sum_number l w q)) (relative_to_segment q.fix.loc (target_number l w q) (sum_number l w q) (target_flags l w q.target) q.narrow)) is)

-- The address after a self-relative field, on page k of the object.
pub self-ends : (lib : List Parts) (m : ℕ) (bases : Bases) (q : Fixup) (i k : ℕ) → q.object ≡ suc i → SelfWide q → after (2 ^ 32 + base_of bases m (suc i) + PAGE_SIZE * k + source_size (source_of q)) (pos q.offset -ℤ pos (k * PAGE_SIZE)) % 2 ^ 32 ≡ (place_address (world_of lib m bases) q.object q.offset + 4) % 2 ^ 32
self-ends lib m bases q i k same wide =
    let base = base_of bases m (suc i) in
    let order : PAGE_SIZE * k ≡ k * PAGE_SIZE = omega arith in
    let size : source_size (source_of q) ≡ 4 = ap source_size wide.source in
    ap (λ (n : ℕ). after (2 ^ 32 + base + n + source_size (source_of q)) (pos q.offset -ℤ pos (k * PAGE_SIZE)) % 2 ^ 32) order
    ∙ ap (λ (n : ℕ). after (2 ^ 32 + base + k * PAGE_SIZE + n) (pos q.offset -ℤ pos (k * PAGE_SIZE)) % 2 ^ 32) size
    ∙ ends-agree base q.offset (k * PAGE_SIZE) 4
    ∙ ap (λ (n : ℕ). (address n q.offset + 4) % 2 ^ 32) (sym (base-same lib m bases i))
    ∙ ap (λ (n : ℕ). (place_address (world_of lib m bases) n q.offset + 4) % 2 ^ 32) (sym same)
