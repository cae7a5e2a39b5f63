-- The bytes of a library of object modules. "Microsoft LIB Library Format".
use Rattle.std.specs.Prelude.{ℕ, ◌+◌, ◌-◌, ◌*◌, ◌%◌, List, [], ◌∷◌, ◌++◌, length, replicate}
use Rattle.std.specs.List.{flat_map}
use Rattle.lx_bytes.specs.LittleEndian.{little_bytes}
use Rattle.obj_types.specs.declared.object.ObjModule.{ObjModule}
use Rattle.omf_frame.specs.declared.record_type.TheConstants.{LIBRARY_HEADER, LIBRARY_END}
use Rattle.omf_model.specs.Object.{IsModule}
use Rattle.implib_model.specs.declared.library.TheConstants.{PAGE}

-- zeros from the end of so many bytes up to the next page
abbrev pub fill_of : ℕ → List ℕ
fill_of n = replicate ((PAGE - n % PAGE) % PAGE) 0

-- a module, up to a page's end
abbrev pub page_up : List ℕ → List ℕ
page_up bytes = bytes ++ fill_of (length bytes)

abbrev pub pages_of : List (List ℕ) → List ℕ
pages_of modules = flat_map page_up modules

-- How long a library of these modules is: its header and its end are a page each.
abbrev pub library_len : List (List ℕ) → ℕ
library_len modules = 2 * PAGE + length (pages_of modules)

-- the header's type, and a length with which the page size is 16; where the dictionary would stand, which is the file's end, no
-- blocks of it, and the flag of names in which case counts
abbrev pub header_bytes : ℕ → List ℕ
header_bytes len = LIBRARY_HEADER ∷ 0x0D ∷ 0 ∷ (little_bytes 4 len ++ 0 ∷ 0 ∷ 1 ∷ replicate 6 0)

-- the end's type, and a length that fills a page
abbrev pub end_bytes : List ℕ
end_bytes = LIBRARY_END ∷ 0x0D ∷ 0 ∷ replicate 13 0

abbrev pub library_bytes : List (List ℕ) → List ℕ
library_bytes modules = header_bytes (library_len modules) ++ (pages_of modules ++ end_bytes)

-- Each of the bytes are those of the object module in its place.
abbrev pub AreModules : List (List ℕ) → List ObjModule → Type 0
AreModules [] [] = Unit {0}
AreModules [] (m ∷ ms) = ⊥
AreModules (bytes ∷ others) [] = ⊥
AreModules (bytes ∷ others) (m ∷ ms) = IsModule bytes m × AreModules others ms
