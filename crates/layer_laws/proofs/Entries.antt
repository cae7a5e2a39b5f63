-- The bundles of a link's exports fit the entry table.
use Rattle.std.specs.Prelude.{◌≡◌, ℕ, zero, suc, ◌<◌, ◌≤◌, ◌^◌, ◌==◌, Bool, true, false, List, [], ◌∷◌, Option, Some, None, map, replicate, length, refl}
use Rattle.std.specs.List.{AllByRecursion, flat_map, range_with_len}
use Rattle.std.proofs.Common.{ap, sym, ◌∙◌, arith, subst, length-append}
use Rattle.std.proofs.Math.Nat.{max-le}
use Rattle.lx_types.specs.declared.entry.EntryHead.{EntryHead}
use Rattle.lx_types.specs.declared.entry.EntryHead.TheVariants as heads
use Rattle.lx_types.specs.declared.entry.FwdKey.TheVariants as keys
use Rattle.lx_types.proofs.Lists.{all_front, all_back}
use Rattle.link_model.specs.declared.limits.TheConstants.{MAX_NUMBER}
use Rattle.link_model.specs.Link.{Link}
use Rattle.link_model.specs.Layout.{objects}
use Rattle.link_model.specs.ImportTables.{link_pairs, modules_in}
use Rattle.lx_model.specs.declared.limits.TheConstants.{MAX_ORDINAL, MAX_ENTRIES}
use Rattle.lx_model.specs.Bundles.{AtEntry, GateEntry, ForwardEntry, Bundle, unused, narrow, gates, wide, forwarders, ordinal_count, ordinals_together, AtFits, GateFits, ForwardFits, ObjectFits, BodyFits, BundleFits}
use Rattle.lx_model.specs.ExportTables.{Exported, Slot, empty, narrow_at, gate_at, wide_at, forwarder, head_slot, slot_or_empty, export_at, greatest, slots_of, AreBundlesOf}
use Rattle.lx_model.specs.JoinedEntries.{bundles_for}
use Rattle.lx_model.proofs.JoinedBundles.{bundles_joined}
use Rattle.link_model.proofs.Members.{each_in, found_as}
use Rattle.image_model.proofs.LinkTables.{mapped, ranged}
use Rattle.layer_laws.proofs.Exports.{HeadFits, ExportFits}
use Rattle.image_model.proofs.LinksRead.{slots_together}

-- ---- what stands at an ordinal

abbrev SlotFits : ℕ → ℕ → Slot → Type 0
SlotFits objects imports empty = Unit {0}
SlotFits objects imports (narrow_at object e) = ObjectFits objects object × AtFits (2 ^ 16) e
SlotFits objects imports (gate_at object e) = ObjectFits objects object × GateFits e
SlotFits objects imports (wide_at object e) = ObjectFits objects object × AtFits (2 ^ 32) e
SlotFits objects imports (forwarder reserved e) = (reserved < 2 ^ 16) × ForwardFits imports e

head_fits : (l : Link) (words : ℕ) (w : Bool) (h : EntryHead) → length (modules_in (link_pairs l)) ≤ MAX_NUMBER → words ≤ 31 → HeadFits l w h → SlotFits (length (objects l)) (length (modules_in (link_pairs l))) (head_slot words w h)
head_fits l words true (heads.At object offset) few short fits =
    let small = fits.0.small in ((fits.0.number, omega (arith, small)), record { flags = omega (arith, short); offset = fits.1 })
head_fits l words false (heads.At object offset) few short fits =
    let small = fits.0.small in ((fits.0.number, omega (arith, small)), record { flags = omega (arith, short); offset = fits.2 refl })
head_fits l words w (heads.Gate286 object offset) few short fits = absurd fits
head_fits l words w (heads.Forward import (keys.Ordinal n)) few short fits =
    (omega arith, record { flags = omega arith; there = fits.0; import = omega (arith, fits.0.1, few); key = fits.1 })
head_fits l words w (heads.Forward import (keys.NameAt at)) few short fits =
    (omega arith, record { flags = omega arith; there = fits.0; import = omega (arith, fits.0.1, few); key = fits.1 })

slot_fits : (l : Link) (xs : List Exported) (o : Option Exported) (n : ℕ) → length (modules_in (link_pairs l)) ≤ MAX_NUMBER → AllByRecursion (ExportFits l) xs → export_at xs n ≡ o → SlotFits (length (objects l)) (length (modules_in (link_pairs l))) (slot_or_empty o)
slot_fits l xs None n few each e = tt
slot_fits l xs (Some x) n few each e =
    let fits = each_in (ExportFits l) xs each (found_as (λ (x : Exported). x.ordinal == n) xs x e).inside in
    head_fits l x.words x.wide x.head few fits.words fits.head

slots_fit : (l : Link) (xs : List Exported) (ns : List ℕ) → length (modules_in (link_pairs l)) ≤ MAX_NUMBER → AllByRecursion (ExportFits l) xs → AllByRecursion (SlotFits (length (objects l)) (length (modules_in (link_pairs l)))) (map (λ n. slot_or_empty (export_at xs n)) ns)
slots_fit l xs [] few each = tt
slots_fit l xs (n ∷ ns) few each = (slot_fits l xs (export_at xs n) n few each refl, slots_fit l xs ns few each)

-- ---- bundles

narrow_fit : (objects imports object : ℕ) (es : List AtEntry) → AllByRecursion (SlotFits objects imports) (map (narrow_at object) es) → AllByRecursion (AtFits (2 ^ 16)) es
narrow_fit objects imports object [] each = tt
narrow_fit objects imports object (e ∷ es) each = (each.0.1, narrow_fit objects imports object es each.1)

wide_fit : (objects imports object : ℕ) (es : List AtEntry) → AllByRecursion (SlotFits objects imports) (map (wide_at object) es) → AllByRecursion (AtFits (2 ^ 32)) es
wide_fit objects imports object [] each = tt
wide_fit objects imports object (e ∷ es) each = (each.0.1, wide_fit objects imports object es each.1)

gates_fit : (objects imports object : ℕ) (es : List GateEntry) → AllByRecursion (SlotFits objects imports) (map (gate_at object) es) → AllByRecursion GateFits es
gates_fit objects imports object [] each = tt
gates_fit objects imports object (e ∷ es) each = (each.0.1, gates_fit objects imports object es each.1)

forwarders_fit : (objects imports reserved : ℕ) (es : List ForwardEntry) → AllByRecursion (SlotFits objects imports) (map (forwarder reserved) es) → AllByRecursion (ForwardFits imports) es
forwarders_fit objects imports reserved [] each = tt
forwarders_fit objects imports reserved (e ∷ es) each = (each.0.1, forwarders_fit objects imports reserved es each.1)

body_fits : (objects imports : ℕ) (b : Bundle) → 0 < ordinal_count b → AllByRecursion (SlotFits objects imports) (slots_of b) → BodyFits objects imports b
body_fits objects imports (unused n) some each = tt
body_fits objects imports (narrow object []) some each = absurd (omega (arith, some))
body_fits objects imports (narrow object (e ∷ es)) some each = (each.0.0, narrow_fit objects imports object (e ∷ es) each)
body_fits objects imports (gates object []) some each = absurd (omega (arith, some))
body_fits objects imports (gates object (e ∷ es)) some each = (each.0.0, gates_fit objects imports object (e ∷ es) each)
body_fits objects imports (wide object []) some each = absurd (omega (arith, some))
body_fits objects imports (wide object (e ∷ es)) some each = (each.0.0, wide_fit objects imports object (e ∷ es) each)
body_fits objects imports (forwarders reserved []) some each = absurd (omega (arith, some))
body_fits objects imports (forwarders reserved (e ∷ es)) some each = (each.0.0, forwarders_fit objects imports reserved (e ∷ es) each)

each_fits : (objects imports : ℕ) (bs : List Bundle) → AllByRecursion (λ b. 0 < ordinal_count b) bs → AllByRecursion (λ b. ordinal_count b ≤ MAX_ENTRIES) bs → AllByRecursion (SlotFits objects imports) (flat_map slots_of bs) → AllByRecursion (BundleFits objects imports) bs
each_fits objects imports [] some most each = tt
each_fits objects imports (b ∷ bs) some most each =
    let few = most.0 in (
      record {
        some = some.0;
        few = omega (arith, few);
        body = body_fits objects imports b some.0 (all_front (SlotFits objects imports) (slots_of b) (flat_map slots_of bs) each);
      },
      each_fits objects imports bs some.1 most.1 (all_back (SlotFits objects imports) (slots_of b) (flat_map slots_of bs) each),
    )

pub bundles-fit : (l : Link) (xs : List Exported) → length (modules_in (link_pairs l)) ≤ MAX_NUMBER → AllByRecursion (ExportFits l) xs → AllByRecursion (BundleFits (length (objects l)) (length (modules_in (link_pairs l)))) (bundles_for xs)
bundles-fit l xs few each =
    let are : AreBundlesOf xs (bundles_for xs) = bundles_joined xs in
    let fits = slots_fit l xs (range_with_len 1 (greatest xs)) few each in
    each_fits (length (objects l)) (length (modules_in (link_pairs l))) (bundles_for xs) are.some are.most (subst (AllByRecursion (SlotFits (length (objects l)) (length (modules_in (link_pairs l))))) (sym are.each) fits)

-- ---- ordinals

greatest-is : (xs : List Exported) (bs : List Bundle) → AreBundlesOf xs bs → greatest xs ≡ ordinals_together bs
greatest-is xs bs are = sym (mapped (λ n. slot_or_empty (export_at xs n)) (range_with_len 1 (greatest xs)) ∙ ranged 1 (greatest xs)) ∙ sym (ap length are.each) ∙ slots_together bs

greatest_small : (l : Link) (xs : List Exported) → AllByRecursion (ExportFits l) xs → greatest xs ≤ MAX_NUMBER
greatest_small l [] each = omega arith
greatest_small l (x ∷ xs) each = let here = each.0.ordinal in let rest = greatest_small l xs each.1 in max-le here rest

pub ordinals-few : (l : Link) (xs : List Exported) → AllByRecursion (ExportFits l) xs → ordinals_together (bundles_for xs) ≤ MAX_ORDINAL
ordinals-few l xs each =
    let is = greatest-is xs (bundles_for xs) (bundles_joined xs) in
    let small = greatest_small l xs each in
    omega (arith, is, small)
