-- The file of a link is read as what the link says.
use Rattle.std.proofs.Common.{◌≡◌, ℕ, zero, suc, ◌+◌, ◌≤◌, List, [], ◌∷◌, length, map, Result, refl, sym, subst, ap, ◌∙◌, length-append, arith}
use Rattle.std.specs.Prelude.{replicate}
use Rattle.std.specs.List.{flat_map, range_with_len, AllByRecursion as Each}
use Rattle.lx_types.specs.declared.parts.Parts.{Parts}
use Rattle.lx_types.specs.declared.refusal.LxRefusal.{LxRefusal}
use Rattle.link_model.specs.declared.symbols.LaidObject.{LaidObject}
use Rattle.link_model.specs.Link.{Link}
use Rattle.link_model.specs.Header.{module_name}
use Rattle.link_model.specs.Layout.{objects}
use Rattle.link_model.specs.Records.{page_count}
use Rattle.lx_model.specs.Reading.{value_or}
use Rattle.lx_model.specs.EntryTable.{Numbered}
use Rattle.lx_model.specs.declared.limits.TheConstants.{MAX_ORDINAL}
use Rattle.lx_model.specs.Bundles.{Bundle, unused, narrow, gates, wide, forwarders, ordinal_count, ordinals_together, entries_after, BundleFits}
use Rattle.lx_model.specs.ExportTables.{Exported, empty, narrow_at, gate_at, wide_at, forwarder, slots_of, slot_or_empty, export_at, greatest, AreBundlesOf, entries_by_ordinal}
use Rattle.lx_model.specs.JoinedEntries.{bundles_for}
use Rattle.lx_model.proofs.BundlesRead.{table_reads}
use Rattle.lx_model.proofs.ExportsRead.{exports_again}
use Rattle.lx_model.proofs.JoinedBundles.{bundles_joined}
use Rattle.image_model.specs.Exported.{exported_of}
use Rattle.image_model.specs.Linked.{image_of}
use Rattle.image_model.specs.LinkLaws.{laid, ReadAsLinked, LinksReadBack}
use Rattle.image_model.specs.ObjectTable.{object_heads_from}
use Rattle.image_model.specs.ReadBack.{ImageFits, parts_of_image}
use Rattle.image_model.proofs.LinkTables.{mapped, ranged}
use Rattle.image_model.proofs.PartsRead.{parts_read}

heads_laid : (os : List LaidObject) (first : ℕ) → map laid (object_heads_from first os) ≡ os
heads_laid [] first = refl
heads_laid (o ∷ os) first = ap (λ (others : List LaidObject). o ∷ others) (heads_laid os (first + page_count o.size))

-- ---- entries

slots_long : (b : Bundle) → length (slots_of b) ≡ ordinal_count b
slots_long (unused n) = repeated n
  where
    repeated : (k : ℕ) → length (replicate k empty) ≡ k
    repeated zero = refl
    repeated (suc k) = ap suc (repeated k)
slots_long (narrow object es) = mapped (narrow_at object) es
slots_long (gates object es) = mapped (gate_at object) es
slots_long (wide object es) = mapped (wide_at object) es
slots_long (forwarders reserved es) = mapped (forwarder reserved) es

pub slots_together : (bs : List Bundle) → length (flat_map slots_of bs) ≡ ordinals_together bs
slots_together [] = refl
slots_together (b ∷ bs) = omega (arith, slots_long b, slots_together bs, length-append (slots_of b) (flat_map slots_of bs))

greatest_is : (xs : List Exported) (bs : List Bundle) → AreBundlesOf xs bs → greatest xs ≡ ordinals_together bs
greatest_is xs bs are = sym (mapped (λ n. slot_or_empty (export_at xs n)) (range_with_len 1 (greatest xs)) ∙ ranged 1 (greatest xs)) ∙ sym (ap length are.each) ∙ slots_together bs

-- the entries of bundles that are those of exports
entries_are : (objects imports : ℕ) (xs : List Exported) (bs : List Bundle) → AreBundlesOf xs bs → Each (BundleFits objects imports) bs → ordinals_together bs ≤ MAX_ORDINAL → entries_after 0 bs ≡ entries_by_ordinal xs
entries_are objects imports xs bs are fits few =
    let most : greatest xs ≤ MAX_ORDINAL = omega (arith, few, greatest_is xs bs are) in
    ap (λ (r : Result (List Numbered) LxRefusal). value_or [] r) (sym (table_reads objects imports bs [] fits few) ∙ exports_again objects imports xs bs [] are fits most)

-- ---- the link

of_image : (l : Link) → ImageFits (image_of l) → ReadAsLinked l (parts_of_image (image_of l))
unfolding image_of parts_of_image module_name
of_image l fits = record { name = refl; flags = refl; start = refl; objects = heads_laid (objects l) 1; imports = refl; entries = entries_are (length (image_of l).objects) (length (image_of l).imports) (exported_of l) (bundles_for (exported_of l)) (bundles_joined (exported_of l)) fits.entries fits.ordinals }

pub links_read : LinksReadBack
links_read l fits = subst (λ (m : Parts). ReadAsLinked l m) (sym (parts_read (image_of l) fits)) (of_image l fits)
