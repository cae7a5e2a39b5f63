-- The tables of exports from their parts.
use Rattle.std.proofs.Common.{◌≡◌, ℕ, zero, suc, ◌+◌, ◌-◌, ◌<◌, ◌≤◌, Bool, List, [], ◌∷◌, length, map, take, drop, length-drop, refl, sym, subst, ap, ◌∙◌, arith, max}
use Rattle.std.specs.Prelude.{Option, Some, None}
use Rattle.std.specs.List.{range_with_len, zip, enumerate_from}
use Rattle.std.specs.Option.{option_or}
use Rattle.std.proofs.lemmas.List.{take_all}
use Rattle.lx_model.specs.Bundles.{table_spelling}
use Rattle.lx_model.specs.ExportTables as tables
use Rattle.lx_model.specs.ExportTables.{Exported, slot_or_empty, export_at, slots, greatest}
use Rattle.lx_model.specs.JoinedEntries.{bundles_for}
use Rattle.link_model.specs.Exports.{ordinals, ordinal_at}
use Rattle.lx_exports.specs.declared.exports.OutEntry.{OutEntry}
use Rattle.lx_exports.specs.declared.slots.Slot.{Slot}
use Rattle.lx_exports.specs.Exports.{asked, numbered, with_ordinals}
use Rattle.lx_exports.specs.Slots.{shown, greatest_of, slots_to, bundles_of}
use Rattle.lx_exports.proofs.GivenOrdinals.{asked_len}

-- each export has an ordinal
pub all_numbered : (os : List (Option ℕ)) → length (ordinals os) ≡ length os
all_numbered os = mapped (λ q. ordinal_at os q.0 q.1) 0 os
  where
    mapped : (f : (ℕ × Option ℕ) → ℕ) (n : ℕ) (ps : List (Option ℕ)) → length (map f (enumerate_from n ps)) ≡ length ps
    mapped f n [] = refl
    mapped f n (p ∷ ps) = ap suc (mapped f (n + 1) ps)

greatest_is : (xs : List OutEntry) (ns : List ℕ) → length ns ≡ length xs → greatest (with_ordinals xs ns) ≡ greatest_of ns
greatest_is [] [] same = refl
greatest_is [] (n ∷ ns) same = absurd (omega (arith, same))
greatest_is (x ∷ xs) [] same = absurd (omega (arith, same))
greatest_is (x ∷ xs) (n ∷ ns) same = ap (max n) (greatest_is xs ns (omega (arith, same)))

after_first : (found : List Slot) (last : ℕ) (xs : List Exported) → map shown found ≡ slots_to last xs → map shown (drop 1 found) ≡ map (λ n. slot_or_empty (export_at xs n)) (range_with_len 1 last)
after_first found last xs is = dropped found ∙ ap (drop 1) (is ∙ ap (λ (n : ℕ). map (λ (k : ℕ). slot_or_empty (export_at xs k)) (range_with_len 0 n)) {x = last + 1} {y = suc last} (omega arith))
  where
    dropped : (ss : List Slot) → map shown (drop 1 ss) ≡ drop 1 (map shown ss)
    dropped [] = refl
    dropped (s ∷ ss) = refl

-- the slots from the second on, as a slice has them
pub sliced : (ss : List Slot) → take (length ss - 1) (drop 1 ss) ≡ drop 1 ss
sliced ss = take_all (length ss - 1) (drop 1 ss) (omega (arith, length-drop 1 ss))

-- The entry table of the slots after the first, which is no ordinal's.
pub entries_are : (xs : List OutEntry) (found : List Slot) → map shown found ≡ slots_to (greatest_of (ordinals (asked xs))) (with_ordinals xs (ordinals (asked xs))) →
    table_spelling (bundles_of (map shown (drop 1 found))) ≡ table_spelling (bundles_for (with_ordinals xs (ordinals (asked xs))))
unfolding bundles_for
entries_are xs found is =
    let ns = ordinals (asked xs) in
    let ys = with_ordinals xs ns in
    ap (λ (ss : List tables.Slot). table_spelling (bundles_of ss))
    (after_first found (greatest_of ns) ys is
    ∙ ap (λ (n : ℕ). map (λ (k : ℕ). slot_or_empty (export_at ys k)) (range_with_len 1 n)) (sym (greatest_is xs ns (all_numbered (asked xs) ∙ asked_len xs))))

pub none_refused : {R : Type 0} (wrong past twice : Option R) → option_or wrong (option_or past None) ≡ None → twice ≡ None → option_or wrong (option_or past (option_or twice None)) ≡ None
none_refused None None None ordinals names = refl
none_refused None None (Some t) ordinals names = absurd cc
none_refused None (Some p) twice ordinals names = absurd cc
none_refused (Some w) past twice ordinals names = absurd cc
