-- A module that is loaded alone, at its linked bases.
use Rattle.std.specs.Prelude.{◌≡◌, ℕ, ◌<◌, ◌^◌, ◌==◌, List, [], ◌∷◌, Option, Some, None, if◌then◌else◌, length, map}
use Rattle.std.specs.List.{range_with_len, enumerate_from}
use Rattle.lx_types.specs.declared.bases.Bases.{Bases}
use Rattle.lx_types.specs.declared.object.ObjHead.{ObjHead}
use Rattle.lx_types.specs.declared.parts.Parts.{Parts}
use Rattle.obj_types.specs.declared.input.LinkInput.{LinkInput}
use Rattle.link_model.specs.declared.symbols.LaidObject.{LaidObject}
use Rattle.link_model.specs.Link.{Link}
use Rattle.link_model.specs.Words.{first_of}
use Rattle.lx_model.specs.Gathering.{LibraryFault}
use Rattle.lx_model.specs.Library.{module_of}
use Rattle.lx_model.specs.Module.{parts_of}
use Rattle.lx_model.specs.ModuleBytes.{FixedByte}
use Rattle.lx_model.specs.Reach.{IsFit}
use Rattle.image_model.specs.File.{file_of}
use Rattle.image_model.specs.LinkLaws.{laid}
use Rattle.image_model.specs.Linked.{image_of}
use Rattle.layer_laws.specs.LinkedImages.{Links}
use Rattle.layer_laws.specs.LoadedBytes.{StandsWell}
use Rattle.image_pages.specs.declared.refusals.ImageRefusal.{ImageRefusal}
use Rattle.image_pages.specs.declared.refusals.ImageRefusal.TheVariants.{NoModule}
use Rattle.image_pages.specs.Memory.{no_module, arena_full, full_from}

-- ---- a library of one module

-- Its objects stand at their linked bases.
abbrev pub linked_bases : List ObjHead → Bases
linked_bases objects = record { mods = record { «module» = 0; objects = map (λ o. o.base) objects } ∷ [] }

-- The first module's objects in order, each with its bytes at these bases.
abbrev pub rows_of : List Parts → Bases → List (LaidObject × List ℕ)
rows_of lib bases =
    map (λ q. (laid q.1, map (FixedByte lib 0 bases q.0) (range_with_len 0 q.1.size))) (enumerate_from 1 (module_of lib 0).objects)

abbrev pub rows_alone : Parts → List (LaidObject × List ℕ)
rows_alone m = rows_of (m ∷ []) (linked_bases m.objects)

-- ---- answers

-- It is not loaded where it imports others, or an object ends past the arenas.
abbrev pub loading_refusal : Parts → Option ImageRefusal
loading_refusal m = first_of ((if length m.imports == 0 then None else Some NoModule) ∷ full_from 1 (map laid m.objects) ∷ [])

pub record IsLoadedAlone (m : Parts) (rows : List (LaidObject × List ℕ)) : Type 0 where
  pub accepted : loading_refusal m ≡ None
  pub is : rows ≡ rows_alone m

-- ---- what holds of a link's module

-- It is a library alone, can be loaded there, and stands well at its linked bases.
pub record LoadsAlone (l : Link) (m : Parts) : Type 0 where
  pub gathers : LibraryFault (m ∷ []) ≡ None
  pub fit : IsFit (m ∷ []) 0
  pub stands : StandsWell l (linked_bases m.objects) 0

abbrev pub LinkedModulesLoadAlone : Type 0
LinkedModulesLoadAlone =
    (input : LinkInput) (l : Link) → Links input l → length (file_of (image_of l)) < 2 ^ 32
    → no_module l ≡ None → arena_full l ≡ None → LoadsAlone l (parts_of (file_of (image_of l)))
