-- The entry table of exports is read as the exports, by rising ordinals.
use Rattle.std.proofs.Common.{◌≡◌, ℕ, zero, suc, ◌+◌, ◌≤◌, Bool, true, false, Option, Some, None, List, [], ◌∷◌, ◌++◌, map, length, Ok, refl, sym, subst, ap, ◌∙◌, arith, length-append}
use Rattle.std.specs.Prelude.{option_map, replicate}
use Rattle.std.specs.List.{flat_map, filter_map, cons_option, range_with_len, enumerate_from}
use Rattle.std.proofs.lemmas.List.FromFn.{length-map-range_with_len}
use Rattle.std.proofs.lemmas.List.{length-map, length-replicate}
use Rattle.lx_types.specs.declared.entry.EntryHead.{EntryHead}
use Rattle.lx_types.specs.declared.entry.EntryHead.TheVariants.{At, Gate286, Forward}
use Rattle.lx_types.specs.declared.entry.FwdKey.TheVariants.{Ordinal, NameAt}
use Rattle.lx_model.specs.EntryTable.{Numbered, forward_key}
use Rattle.lx_model.specs.declared.limits.TheConstants.{MAX_ORDINAL}
use Rattle.lx_model.specs.Bundles.{Bundle, unused, narrow, gates, wide, forwarders, ordinal_count, ordinals_together, heads_of, entries_after}
use Rattle.lx_model.specs.ExportTables.{Exported, Slot, empty, narrow_at, gate_at, wide_at, forwarder, head_slot, slot_or_empty, export_at, greatest, slots_of, AreBundlesOf}
use Rattle.lx_model.specs.ExportLaws.{ExportsReadAgain}
use Rattle.lx_model.proofs.BundlesRead.{table_reads}

-- ---- slots as entries

abbrev slot_head : Slot → Option EntryHead
slot_head empty = None
slot_head (narrow_at object e) = Some (At object e.offset)
slot_head (gate_at object e) = Some (Gate286 object e.offset)
slot_head (wide_at object e) = Some (At object e.offset)
slot_head (forwarder reserved e) = Some (Forward e.import (forward_key e.flags e.key))

abbrev in_front : ℕ → Option EntryHead → List Numbered → List Numbered
in_front n None others = others
in_front n (Some head) others = (n, head) ∷ others

abbrev used_from : ℕ → List Slot → List Numbered
used_from n [] = []
used_from n (s ∷ ss) = in_front n (slot_head s) (used_from (n + 1) ss)

one_on : (n k : ℕ) → n + 1 + k ≡ n + suc k
one_on n k = omega arith

-- entries of one kind stand one after the other
of_kind : {E : Type 0} (slot : E → Slot) (head : E → EntryHead) → ((e : E) → slot_head (slot e) ≡ Some (head e)) → (es : List E) (n : ℕ) (rest : List Slot) →
    used_from n (map slot es ++ rest) ≡ enumerate_from n (map head es) ++ used_from (n + length es) rest
of_kind slot head same [] n rest = ap (λ (m : ℕ). used_from m rest) (let none : n ≡ n + 0 = omega arith in none)
of_kind slot head same (e ∷ es) n rest =
    ap (λ (h : Option EntryHead). in_front n h (used_from (n + 1) (map slot es ++ rest))) (same e)
    ∙ ap (λ (xs : List Numbered). (n, head e) ∷ xs) (of_kind slot head same es (n + 1) rest ∙ ap (λ (m : ℕ). enumerate_from (n + 1) (map head es) ++ used_from m rest) (one_on n (length es)))

none_used : (k n : ℕ) (rest : List Slot) → used_from n (replicate k empty ++ rest) ≡ used_from (n + k) rest
none_used zero n rest = ap (λ (m : ℕ). used_from m rest) (let none : n ≡ n + 0 = omega arith in none)
none_used (suc k) n rest = none_used k (n + 1) rest ∙ ap (λ (m : ℕ). used_from m rest) (one_on n k)

bundle_used : (b : Bundle) (n : ℕ) (rest : List Slot) → used_from n (slots_of b ++ rest) ≡ enumerate_from n (heads_of b) ++ used_from (n + ordinal_count b) rest
bundle_used (unused k) n rest = none_used k n rest
bundle_used (narrow object es) n rest = of_kind (narrow_at object) (λ e. At object e.offset) (λ e. refl) es n rest
bundle_used (gates object es) n rest = of_kind (gate_at object) (λ e. Gate286 object e.offset) (λ e. refl) es n rest
bundle_used (wide object es) n rest = of_kind (wide_at object) (λ e. At object e.offset) (λ e. refl) es n rest
bundle_used (forwarders reserved es) n rest = of_kind (forwarder reserved) (λ e. Forward e.import (forward_key e.flags e.key)) (λ e. refl) es n rest

bundles_used : (bs : List Bundle) (last : ℕ) → used_from (last + 1) (flat_map slots_of bs) ≡ entries_after last bs
bundles_used [] last = refl
bundles_used (b ∷ bs) last =
    let next : last + 1 + ordinal_count b ≡ last + ordinal_count b + 1 = omega arith in
    bundle_used b (last + 1) (flat_map slots_of bs)
    ∙ ap (λ (m : ℕ). enumerate_from (last + 1) (heads_of b) ++ used_from m (flat_map slots_of bs)) next
    ∙ ap (λ (xs : List Numbered). enumerate_from (last + 1) (heads_of b) ++ xs) (bundles_used bs (last + ordinal_count b))

-- ---- exports as slots

head_again : (words : ℕ) (w : Bool) (head : EntryHead) → slot_head (head_slot words w head) ≡ Some head
head_again words true (At object offset) = refl
head_again words false (At object offset) = refl
head_again words true (Gate286 object offset) = refl
head_again words false (Gate286 object offset) = refl
head_again words true (Forward import (Ordinal ordinal)) = refl
head_again words true (Forward import (NameAt at)) = refl
head_again words false (Forward import (Ordinal ordinal)) = refl
head_again words false (Forward import (NameAt at)) = refl

abbrev listed : List Exported → ℕ → Option Numbered
listed xs n = option_map (λ x. (n, x.head)) (export_at xs n)

by_export : (o : Option Exported) (n : ℕ) (others : List Numbered) → in_front n (slot_head (slot_or_empty o)) others ≡ cons_option (option_map (λ x. (n, x.head)) o) others
by_export None n others = refl
by_export (Some x) n others = ap (λ (h : Option EntryHead). in_front n h others) (head_again x.words x.wide x.head)

exports_used : (xs : List Exported) (k n : ℕ) → used_from n (map (λ m. slot_or_empty (export_at xs m)) (range_with_len n k)) ≡ filter_map (listed xs) (range_with_len n k)
exports_used xs zero n = refl
exports_used xs (suc k) n =
    by_export (export_at xs n) n (used_from (n + 1) (map (λ m. slot_or_empty (export_at xs m)) (range_with_len (n + 1) k)))
    ∙ ap (λ (es : List Numbered). cons_option (listed xs n) es) (exports_used xs k (n + 1))

-- ---- the table

pub length-slots_of : (b : Bundle) → length (slots_of b) ≡ ordinal_count b
length-slots_of (unused n) = length-replicate n empty
length-slots_of (narrow object es) = length-map es (narrow_at object)
length-slots_of (gates object es) = length-map es (gate_at object)
length-slots_of (wide object es) = length-map es (wide_at object)
length-slots_of (forwarders reserved es) = length-map es (forwarder reserved)

pub together : (bs : List Bundle) → length (flat_map slots_of bs) ≡ ordinals_together bs
together [] = refl
together (b ∷ bs) =
    let here = length-slots_of b in
    let rest = together bs in
    omega (arith, here, rest, length-append (slots_of b) (flat_map slots_of bs))

ordinals_of : (xs : List Exported) (bs : List Bundle) → AreBundlesOf xs bs → ordinals_together bs ≡ greatest xs
ordinals_of xs bs are = sym (together bs) ∙ ap length are.each ∙ length-map-range_with_len (λ n. slot_or_empty (export_at xs n)) 1 (greatest xs)

pub exports_again : ExportsReadAgain
exports_again objects imports xs bs rest are fits most =
    let few : ordinals_together bs ≤ MAX_ORDINAL = subst (λ (n : ℕ). n ≤ MAX_ORDINAL) (sym (ordinals_of xs bs are)) most in
    table_reads objects imports bs rest fits few
    ∙ ap (λ (es : List Numbered). Ok es) (sym (bundles_used bs 0) ∙ ap (used_from 1) are.each ∙ exports_used xs (greatest xs) 1)
