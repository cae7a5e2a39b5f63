-- What kind of file bytes are taken for, by the first of them. All others are taken for an object file.
use Rattle.std.specs.Prelude.{ℕ, ◌==◌, ◌&&◌, ◌||◌, Bool, List, slice_index}
use Rattle.res_model.specs.declared.item.TheConstants.{MARK}
use Rattle.omf_frame.specs.declared.record_type.TheConstants.{LIBRARY_HEADER}

-- A module begins with `LX`, or with the `MZ` of a program for DOS.
abbrev pub is_module : List ℕ → Bool
is_module bytes =
    slice_index bytes 0 == 0x4C && slice_index bytes 1 == 0x58 || slice_index bytes 0 == 0x4D && slice_index bytes 1 == 0x5A

-- A library begins with its header's type byte.
abbrev pub is_library : List ℕ → Bool
is_library bytes = slice_index bytes 0 == LIBRARY_HEADER

-- A resource file begins with the mark before an item's type.
abbrev pub is_resource : List ℕ → Bool
is_resource bytes = slice_index bytes 0 == MARK
