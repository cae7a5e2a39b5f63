-- The image of every input that links fits the format, so that its file is read again.
use Rattle.std.specs.Prelude.{◌≡◌, ◌<◌, ◌^◌, length, None}
use Rattle.obj_types.specs.Input.{WholeInput}
use Rattle.obj_types.specs.declared.input.LinkInput.{LinkInput}
use Rattle.link_model.specs.Link.{Link, IsLinkOf}
use Rattle.link_model.specs.Refusal.{link_refusal}
use Rattle.lx_model.specs.Module.{parts_of, Lx}
use Rattle.image_model.specs.File.{file_of}
use Rattle.image_model.specs.LinkLaws.{ReadAsLinked}
use Rattle.image_model.specs.Linked.{image_of}
use Rattle.image_model.specs.ReadBack.{ImageFits, parts_of_image}
use Rattle.layer_laws.specs.Ranges.{InputInRange}

-- The input links, and this is its link.
pub record Links (input : LinkInput) (l : Link) : Type 0 where
  pub whole : WholeInput input
  pub range : InputInRange input
  pub of_input : IsLinkOf input l
  pub accepted : link_refusal l ≡ None

-- A place in a file has 32 bits. The names of imports alone can pass them: 16,777,216 low bytes, each fixed up to another
-- name of 255 bytes, fill the 16 MiB that a module may have, and these names take 2^32 bytes.
abbrev pub LinkedImagesFit : Type 0
LinkedImagesFit =
    (input : LinkInput) (l : Link) → Links input l → length (file_of (image_of l)) < 2 ^ 32 → ImageFits (image_of l)

-- What the file is read as: the parts of the image, which are the link's.
pub record ReadAgain (l : Link) : Type 0 where
  pub means : Lx (file_of (image_of l)) (parts_of_image (image_of l))
  pub linked : ReadAsLinked l (parts_of (file_of (image_of l)))

abbrev pub LinkedFilesRead : Type 0
LinkedFilesRead =
    (input : LinkInput) (l : Link) → Links input l → length (file_of (image_of l)) < 2 ^ 32 → ReadAgain l
