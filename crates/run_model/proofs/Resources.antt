-- The header of a written file counts no resources.
use Rattle.std.proofs.Common.{◌≡◌, ℕ, ◌+◌, ◌*◌, ◌&&◌, List, map, find, ap}
use Rattle.std.specs.Prelude.{option_map, slice_index}
use Rattle.std.specs.List.{range_with_len}
use Rattle.lx_model.specs.declared.lengths.TheConstants.{RESOURCE_ENTRY_LEN}
use Rattle.lx_model.specs.Module.{parts_of}
use Rattle.lx_model.specs.Resources.{resource_at, resource_table, resource_count, resources_of, has_key, is_whole, Res}
use Rattle.image_model.specs.Image.{Image}
use Rattle.image_model.specs.File.{file_of, header_fields_of}
use Rattle.image_model.specs.ReadBack.{ImageFits, FieldsReadBack}
use Rattle.run_model.specs.Resources.{WrittenHasNoResources}

counts_none : FieldsReadBack → (m : Image) → ImageFits m → resource_count (file_of m) ≡ 0
unfolding header_fields_of
counts_none fields m fits = ap (λ (xs : List ℕ). slice_index xs 21) (fields m fits)

pub no_resources : FieldsReadBack → WrittenHasNoResources
unfolding Res resources_of parts_of
no_resources fields m fits ty id =
    ap (λ n. option_map (λ r. r.spot) (find (λ r. has_key ty id r && is_whole (parts_of (file_of m)) r)
    (map (λ k. resource_at (file_of m) (resource_table (file_of m) + RESOURCE_ENTRY_LEN * k)) (range_with_len 0 n))))
    (counts_none fields m fits)
