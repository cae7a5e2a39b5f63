-- A module that a link wrote means the object files' bytes, wherever it is loaded.
use Rattle.std.specs.Prelude.{◌≡◌, ℕ, ◌+◌, ◌%◌, ◌<◌, ◌≤◌, ◌^◌, false, List, length, Some}
use Rattle.std.specs.List.{list_any}
use Rattle.lx_types.specs.declared.limits.TheConstants.{BASE_UNIT, SHARED_END}
use Rattle.lx_types.specs.declared.bases.Bases.{Bases}
use Rattle.lx_types.specs.declared.parts.Parts.{Parts}
use Rattle.obj_types.specs.Items.{item}
use Rattle.obj_types.specs.declared.input.LinkInput.{LinkInput}
use Rattle.link_model.specs.declared.symbols.LaidObject.{LaidObject}
use Rattle.link_model.specs.Link.{Link}
use Rattle.link_model.specs.Layout.{objects}
use Rattle.link_model.specs.Mean.{fixup_covers, Mean}
use Rattle.link_model.specs.Patches.{recorded}
use Rattle.lx_model.specs.Fixed.{base_of}
use Rattle.lx_model.specs.Gathering.{IsLibrary}
use Rattle.lx_model.specs.Library.{module_of}
use Rattle.lx_model.specs.Module.{parts_of}
use Rattle.lx_model.specs.ModuleBytes.{FixedByte}
use Rattle.lx_model.specs.Reach.{IsFit}
use Rattle.image_model.specs.File.{file_of}
use Rattle.image_model.specs.Linked.{image_of}
use Rattle.image_model.specs.World.{world_of}
use Rattle.layer_laws.specs.LinkedImages.{Links}

-- Module m of a library is the one that the link's file means.
abbrev pub Holds : List Parts → ℕ → Link → Type 0
Holds lib m l = module_of lib m ≡ parts_of (file_of (image_of l))

-- Each object of module m stands at a multiple of 65,536, and ends at 20000000h at most.
abbrev pub StandsWell : Link → Bases → ℕ → Type 0
StandsWell l bases m =
    (object : ℕ) (o : LaidObject) → item (objects l) object ≡ Some o
    → (base_of bases m object % BASE_UNIT ≡ 0) × (base_of bases m object + o.size ≤ SHARED_END)

-- The loaded byte is the one that the link means.
abbrev pub MeansThere : Link → List Parts → ℕ → Bases → ℕ → ℕ → Type 0
MeansThere l lib m bases object x = FixedByte lib m bases object x ≡ Mean l (world_of lib m bases) object x

-- Where no fixup that is left to the loader covers a place: plain, iterated and zero-filled data, and what the linker
-- patched.
abbrev pub PlainBytesLoaded : Type 0
PlainBytesLoaded =
    (input : LinkInput) (l : Link) → Links input l → length (file_of (image_of l)) < 2 ^ 32
    → (lib : List Parts) (m : ℕ) (bases : Bases) → Holds lib m l
    → (object x : ℕ) (o : LaidObject) → item (objects l) object ≡ Some o → x < o.size
    → list_any (fixup_covers object x) (recorded l) ≡ false → MeansThere l lib m bases object x

-- Wherever the module is loaded, in a library in which it is fit, each of its bytes is the one that the link means there.
abbrev pub LinkedBytesLoaded : Type 0
LinkedBytesLoaded =
    (input : LinkInput) (l : Link) → Links input l → length (file_of (image_of l)) < 2 ^ 32
    → (lib : List Parts) (m : ℕ) (bases : Bases) → Holds lib m l → IsLibrary lib → m < length lib → IsFit lib m → StandsWell l bases m
    → (object x : ℕ) (o : LaidObject) → item (objects l) object ≡ Some o → x < o.size → MeansThere l lib m bases object x
