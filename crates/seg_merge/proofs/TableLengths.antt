-- The tables of logical segments have one item for each.
use Rattle.std.specs.Prelude.{◌≡◌, ℕ, ◌<◌, List, Some, map, filter, length, slice_get}
use Rattle.std.specs.List.{All}
use Rattle.std.proofs.Common.{ap, sym, ◌∙◌, arith}
use Rattle.std.proofs.lemmas.List.{length-map}
use Rattle.std.proofs.lemmas.List.FromFn.{length-map-range_with_len}
use Rattle.obj_types.specs.declared.definition.DefFile.{DefFile}
use Rattle.link_model.specs.declared.keys.SegmentKey.{SegmentKey}
use Rattle.link_model.specs.Parts.{Part, joins}
use Rattle.seg_parts.specs.Attributes.{flags_in}
use Rattle.seg_parts.specs.LogicalSegments.{heads_of}
use Rattle.seg_parts.specs.Objects.{object_shown}
use Rattle.seg_parts.specs.Parts.{shown}
use Rattle.seg_merge.specs.declared.ordered.Tables.{Tables}
use Rattle.seg_merge.specs.InOrder.{AreTables}
use Rattle.seg_merge.specs.Ordered.{key_at}
use Rattle.seg_merge.proofs.Gets.{each-below}

module _ (def : DefFile) (ps : List Part) (names : List (List ℕ)) (members : List (List ℕ × SegmentKey)) (t : Tables) (are : AreTables def ps names members t) where
  count : length t.heads.items ≡ length (heads_of ps)
  count = sym (length-map t.heads.items shown) ∙ ap length are.heads_are

  pub below : (order : List ℕ) (items : List Part) → map (slice_get (heads_of ps)) order ≡ map (λ (s : Part). Some s) items → All (λ n. n < length t.heads.items) order
  below order items in_order k d lt = omega (arith, each-below (heads_of ps) order items in_order k d lt, count)

  pub flags-long : length t.flags.items ≡ length t.heads.items
  flags-long = ap length are.flags_are ∙ length-map (heads_of ps) (flags_in def) ∙ sym count

  pub objects-long : length t.objects.items ≡ length t.heads.items
  objects-long =
      sym (length-map t.objects.items object_shown) ∙ ap length are.objects_are
      ∙ length-map-range_with_len (key_at (heads_of ps) t.flags.items names (map (λ v. v.items) t.groups.items)) 0 (length (heads_of ps)) ∙ sym count

  pub parts-long : length t.parts.items ≡ length t.heads.items
  parts-long = sym (length-map t.parts.items (λ v. map shown v.items)) ∙ ap length are.parts_are ∙ length-map (heads_of ps) (λ s. filter (joins s) ps) ∙ sym count
