-- A fixup record that leads to a place in the link puts there what the fixup means.
use Rattle.std.specs.Prelude.{◌≡◌, ℕ, pos, zero, suc, ◌+◌, ◌*◌, ◌%◌, ◌-ℤ◌, ◌≤◌, ◌^◌, ◌==◌, nat_le, Bool, true, false, cond, List, Some, length, refl}
use Rattle.std.proofs.Common.{ap, sym, ◌∙◌, arith, true≢false}
use Rattle.std.proofs.lemmas.Option.{same_Some}
use Rattle.lx_types.specs.Addresses.{address, tiled_selector}
use Rattle.lx_types.specs.declared.limits.TheConstants.{BASE_UNIT, SHARED_END}
use Rattle.lx_types.specs.Parts.{object_of}
use Rattle.lx_types.specs.declared.bases.Bases.{Bases}
use Rattle.lx_types.specs.declared.fix.FixTarget.{FixTarget}
use Rattle.lx_types.specs.declared.fix.FixTarget.TheVariants as leads
use Rattle.lx_types.specs.declared.object.PageId.{PageId}
use Rattle.lx_types.specs.declared.object.TheConstants.{PAGE_SIZE}
use Rattle.lx_types.specs.declared.parts.Parts.{Parts}
use Rattle.link_model.specs.Words.{wrapped}
use Rattle.link_model.specs.Link.{Link}
use Rattle.link_model.specs.Fixups.{Fixup}
use Rattle.link_model.specs.Layout.{objects}
use Rattle.link_model.specs.Goals.{Target, Internal}
use Rattle.link_model.specs.Records.{source_of, has_alias, target_and_additive}
use Rattle.link_model.specs.Value.{target_address, target_flags, target_number, value_bytes}
use Rattle.link_model.proofs.Members.{item_at}
use Rattle.lx_model.specs.Fixed.{base_of, after, end_address, field_bytes}
use Rattle.lx_model.specs.Sources.{source_size}
use Rattle.lx_model.specs.Library.{module_of}
use Rattle.image_model.specs.Linked.{fix_in_file}
use Rattle.image_model.specs.World.{world_of}
use Rattle.image_model.proofs.ObjectsThere.{IsThere}
use Rattle.layer_laws.specs.LoadedBytes.{StandsWell}
use Rattle.layer_laws.proofs.RecordBytes.{record-with, bytes-of}
use Rattle.layer_laws.proofs.LoadedPages.{Loaded}
use Rattle.layer_laws.proofs.FieldsAgree.{sums-agree, tiles-agree, base-same, flags-same}
use Rattle.layer_laws.proofs.SelfFields.{SelfWide, FieldOf, field-means, self-ends}

-- ---- the target and the additive of the record

abbrev led_to : Fixup → ℕ → ℕ → Bool → FixTarget × ℕ
led_to q o offset b =
    let at = wrapped (offset + q.fix.disp) in
    cond {A = FixTarget × ℕ} b (leads.Internal o 0, cond (nat_le BASE_UNIT at) at 0) (leads.Internal o (wrapped (at + q.standing)), 0)

target_is : (l : Link) (q : Fixup) (o offset : ℕ) (t : FixTarget × ℕ) → q.target ≡ Internal o offset → target_and_additive l q q.target ≡ Some t → led_to q o offset (q.fix.loc == 2) ≡ t
target_is l q o offset t is led =
    same_Some (led_to q o offset (q.fix.loc == 2)) t (sym (ap (target_and_additive l q) is) ∙ led)

-- The address that it has, where the object stands at a base.
abbrev address_by : Fixup → ℕ → ℕ → Bool → ℕ
address_by q base offset b =
    let at = wrapped (offset + q.fix.disp) in
    cond b (address (address base 0) (cond (nat_le BASE_UNIT at) at 0)) (address (address base (wrapped (at + q.standing))) 0)

bytes_by : (l : Link) (lib : List Parts) (m : ℕ) (bases : Bases) (p : PageId) (k : ℕ) (q : Fixup) (o offset : ℕ) (b : Bool)
    → bytes-of lib m bases p (fix_in_file l (record-with k q (led_to q o offset b))) ≡ field_bytes (source_of q) (has_alias q) (object_of (module_of lib m) o).flags (address_by q (base_of bases m o) offset b) (end_address bases m p (fix_in_file l (record-with k q (led_to q o offset b))))
bytes_by l lib m bases p k q o offset true = refl
bytes_by l lib m bases p k q o offset false = refl

ends_by : (l : Link) (bases : Bases) (m : ℕ) (p : PageId) (k : ℕ) (q : Fixup) (o offset : ℕ) (b : Bool)
    → end_address bases m p (fix_in_file l (record-with k q (led_to q o offset b))) ≡ after (2 ^ 32 + base_of bases m p.object + PAGE_SIZE * p.page + source_size (source_of q)) (pos q.offset -ℤ pos (k * PAGE_SIZE)) % 2 ^ 32
ends_by l bases m p k q o offset true = refl
ends_by l bases m p k q o offset false = refl

-- Unless it is a selector's it is the value's, and a selector's is in the tile of the target.
sum_by_kind : (q : Fixup) (base offset : ℕ) (b : Bool) → b ≡ false → address_by q base offset b ≡ wrapped (wrapped (address base offset + q.fix.disp) + q.standing)
sum_by_kind q base offset true is = absurd (true≢false is)
sum_by_kind q base offset false is = sums-agree base offset q.fix.disp q.standing

tile_by_kind : (q : Fixup) (base offset : ℕ) (b : Bool) → base % BASE_UNIT ≡ 0 → base ≤ SHARED_END → b ≡ true → tiled_selector (address_by q base offset b) ≡ tiled_selector (wrapped (address base offset + q.fix.disp))
tile_by_kind q base offset true aligned low is = tiles-agree base offset q.fix.disp aligned low
tile_by_kind q base offset false aligned low is = absurd (true≢false (sym is))

-- ---- the record of a fixup to a place in the link

inside_by : (l : Link) (lib : List Parts) (m : ℕ) → Loaded l lib m → (bases : Bases) → StandsWell l bases m → (i k : ℕ) (q : Fixup) (o offset : ℕ) (t : FixTarget × ℕ) → 1 ≤ o → o ≤ length (objects l) → q.object ≡ suc i → (q.fix.selfrel ≡ true → SelfWide q) → q.target ≡ Internal o offset
    → target_and_additive l q q.target ≡ Some t → bytes-of lib m bases (record { object = suc i; page = k }) (fix_in_file l (record-with k q t)) ≡ value_bytes l (world_of lib m bases) q
inside_by l lib m loaded bases well i k q zero offset t from to same wide is led = absurd (omega (arith, from))
inside_by l lib m loaded bases well i k q (suc j) offset t from to same wide is led =
    let w = world_of lib m bases in
    let p : PageId = record { object = suc i; page = k } in
    let o = item_at (objects l) j (omega (arith, to)) in
    let stands = well (suc j) o.item o.is in
    let low = stands.1 in
    let base = base_of bases m (suc j) in
    let sel = q.fix.loc == 2 in
    let u = address_by q base offset sel in
    let end_at = end_address bases m p (fix_in_file l (record-with k q (led_to q (suc j) offset sel))) in
    let target : wrapped (address base offset + q.fix.disp) ≡ target_number l w q =
    ap (λ (n : ℕ). wrapped (address n offset + q.fix.disp)) (sym (base-same lib m bases j)) ∙ ap (λ (x : Target). wrapped (target_address l w x + q.fix.disp)) (sym is) in
    let of : FieldOf l w q (object_of (module_of lib m) (suc j)).flags u end_at = record {
      flags_same = flags-same l lib m loaded j (omega (arith, to)) ∙ ap (target_flags l w) (sym is);
      address_same = λ other. sum_by_kind q base offset sel other ∙ ap (λ (n : ℕ). wrapped (n + q.standing)) target;
      tile_same = λ alone. tile_by_kind q base offset sel stands.0 (omega (arith, low)) alone ∙ ap tiled_selector target;
      self_wide = wide;
      ends = λ self. ends_by l bases m p k q (suc j) offset sel ∙ self-ends lib m bases q i k same (wide self);
    } in
    sym (ap (λ (v : FixTarget × ℕ). bytes-of lib m bases p (fix_in_file l (record-with k q v))) (target_is l q (suc j) offset t is led))
    ∙ bytes_by l lib m bases p k q (suc j) offset sel ∙ field-means l w q (object_of (module_of lib m) (suc j)).flags u end_at of

pub inside-means : (l : Link) (lib : List Parts) (m : ℕ) → Loaded l lib m → (bases : Bases) → StandsWell l bases m → (i k : ℕ) (q : Fixup) (o offset : ℕ) (t : FixTarget × ℕ) → IsThere l o → q.object ≡ suc i → (q.fix.selfrel ≡ true → SelfWide q) → q.target ≡ Internal o offset
    → target_and_additive l q q.target ≡ Some t → bytes-of lib m bases (record { object = suc i; page = k }) (fix_in_file l (record-with k q t)) ≡ value_bytes l (world_of lib m bases) q
inside-means l lib m loaded bases well i k q o offset t led_there same wide is led =
    inside_by l lib m loaded bases well i k q o offset t led_there.number.0 led_there.number.1 same wide is led
