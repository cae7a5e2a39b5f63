-- What holds of the module that an image is.
use Rattle.std.specs.Prelude.{◌≡◌, ◌<◌, ◌^◌, length, IfSome}
use Rattle.std.specs.List.{AllByRecursion}
use Rattle.lx_types.specs.Sound.{IsNumberOf, HasPages}
use Rattle.link_model.specs.ImportTables.{name_table}
use Rattle.lx_model.specs.RecordSpelling.{RecordFits}
use Rattle.lx_write.specs.declared.image.Image.{Image}
use Rattle.lx_write.specs.Value.{CanBeWritten, image_value}

-- The numbers of its fixup records fit their fields, where the import procedure names have places of 32 bits.
abbrev pub WrittenRecordsFit : Type 0
WrittenRecordsFit = (m : Image) → CanBeWritten m → length (name_table m.procs) < 2 ^ 32 → AllByRecursion (AllByRecursion RecordFits) (image_value m).records

-- Each page has its records, the pages of each object are in the page table, and the objects of the start and of the stack
-- are there.
pub record TablesFit (m : Image) : Type 0 where
  pub each : length (image_value m).records ≡ length (image_value m).pages
  pub own_pages : AllByRecursion (HasPages (length (image_value m).pages)) (image_value m).objects
  pub start : IfSome (image_value m).start (λ place. IsNumberOf place.0 (length (image_value m).objects))
  pub stack : IfSome (image_value m).stack (λ place. IsNumberOf place.0 (length (image_value m).objects))

abbrev pub WrittenTablesFit : Type 0
WrittenTablesFit = (m : Image) → CanBeWritten m → TablesFit m
