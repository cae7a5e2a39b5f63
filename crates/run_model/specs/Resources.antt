-- A module that a link wrote has no resources: its header counts none.
use Rattle.std.specs.Prelude.{◌≡◌, ℕ, None}
use Rattle.lx_model.specs.Module.{parts_of}
use Rattle.lx_model.specs.Resources.{Res}
use Rattle.image_model.specs.Image.{Image}
use Rattle.image_model.specs.File.{file_of}
use Rattle.image_model.specs.ReadBack.{ImageFits}

abbrev pub WrittenHasNoResources : Type 0
WrittenHasNoResources = (m : Image) → ImageFits m → (ty id : ℕ) → Res (parts_of (file_of m)) ty id ≡ None
