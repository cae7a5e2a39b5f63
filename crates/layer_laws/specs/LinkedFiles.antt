-- What the file is that a link answers: the link itself, read again and loaded anywhere.
use Rattle.std.specs.Prelude.{◌≡◌, ℕ, ◌<◌, ◌^◌, List, length, Some}
use Rattle.lx_types.specs.declared.bases.Bases.{Bases}
use Rattle.lx_types.specs.declared.parts.Parts.{Parts}
use Rattle.obj_types.specs.Input.{WholeInput}
use Rattle.obj_types.specs.Items.{item}
use Rattle.obj_types.specs.declared.input.LinkInput.{LinkInput}
use Rattle.link_model.specs.declared.symbols.LaidObject.{LaidObject}
use Rattle.link_model.specs.Link.{Link, IsLinkOf}
use Rattle.link_model.specs.Layout.{objects}
use Rattle.lx_model.specs.Gathering.{IsLibrary}
use Rattle.lx_model.specs.Library.{module_of}
use Rattle.lx_model.specs.Module.{parts_of, Lx}
use Rattle.lx_model.specs.Reach.{IsFit}
use Rattle.image_model.specs.LinkLaws.{ReadAsLinked}
use Rattle.image_model.specs.LinkedFile.{IsLinkedFile}
use Rattle.layer_laws.specs.LoadedBytes.{StandsWell, MeansThere}
use Rattle.layer_laws.specs.Ranges.{InputInRange}

-- The file means a module, which has the link's parts; and in each library that holds it where it is fit, at all bases that
-- are multiples of 65,536 with each object's end at most 20000000h, its bytes are those that the link means.
pub record MeansItsLink (input : LinkInput) (file : List ℕ) : Type 0 where
  pub link : Link
  pub of_input : IsLinkOf input link
  pub read : Lx file (parts_of file)
  pub linked : ReadAsLinked link (parts_of file)
  pub loaded : (lib : List Parts) (m : ℕ) (bases : Bases) → module_of lib m ≡ parts_of file → IsLibrary lib → m < length lib → IsFit lib m →
      StandsWell link bases m
      → (object x : ℕ) (o : LaidObject) → item (objects link) object ≡ Some o → x < o.size → MeansThere link lib m bases object x

abbrev pub LinkedFilesMeanTheirLinks : Type 0
LinkedFilesMeanTheirLinks =
    (input : LinkInput) (file : List ℕ) → WholeInput input → InputInRange input → IsLinkedFile input file → length file < 2 ^ 32
    → MeansItsLink input file
