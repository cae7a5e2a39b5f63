-- The object module that gives one import: what an import library has for each export.
-- "80h THEADR"; "88h COMENT", IMPDEF; "8Ah MODEND".
use Rattle.std.specs.Prelude.{◌≢◌, ℕ, ◌<◌, ◌^◌, List, [], ◌∷◌, ◌++◌, bytes_eq, if◌then◌else◌}
use Rattle.omf_frame.specs.declared.record_type.TheConstants.{THEADR, COMENT, MODEND}
use Rattle.lx_bytes.specs.LittleEndian.{little_bytes}
use Rattle.lx_types.specs.Names.{IsName, uppercase}
use Rattle.lx_types.specs.declared.entry.EntryKey.{EntryKey}
use Rattle.lx_types.specs.declared.entry.EntryKey.TheVariants.{Ordinal, Named}
use Rattle.obj_types.specs.declared.symbol.Imp.{Imp}
use Rattle.obj_types.specs.declared.object.ObjModule.{ObjModule}
use Rattle.obj_types.specs.Fresh.{empty_module}
use Rattle.omf_frame.specs.declared.comment_class.TheConstants.{EXTENSION, IMPDEF}
use Rattle.implib_model.specs.Framed.{record_of, name_bytes}

-- ---- what is to be written

-- The entry is an ordinal of 16 bits, or has a name.
abbrev pub EntryFits : EntryKey → Type 0
EntryFits (Ordinal n) = n < 2 ^ 16
EntryFits (Named name) = name ≢ []

pub record ImportFits (imp : Imp) : Type 0 where
  pub from : imp.«module» ≢ []
  pub entry : EntryFits imp.entry

-- Each name fits its length byte, as every name does.
abbrev pub IsShortEntry : EntryKey → Type 0
IsShortEntry (Ordinal n) = Unit {0}
IsShortEntry (Named name) = IsName name

pub record NamesFit (imp : Imp) : Type 0 where
  pub internal : IsName imp.name
  pub from : IsName imp.«module»
  pub entry : IsShortEntry imp.entry

-- ---- how it is written

-- By ordinal the flag is 1, by name 0.
abbrev pub flag_of : EntryKey → ℕ
flag_of (Ordinal n) = 1
flag_of (Named name) = 0

-- A name that is also the internal one is left out.
abbrev pub entry_bytes : List ℕ → EntryKey → List ℕ
entry_bytes internal (Ordinal n) = little_bytes 2 n
entry_bytes internal (Named name) = if bytes_eq name internal then 0 ∷ [] else name_bytes name

-- flags, class A0h, subtype 01h; the module's name in upper case
abbrev pub import_comment : Imp → List ℕ
import_comment imp =
    0 ∷ EXTENSION ∷ IMPDEF ∷ flag_of imp.entry ∷ (name_bytes imp.name ++ (name_bytes (uppercase imp.«module») ++ entry_bytes imp.name imp.entry))

-- a header with the imported name, the comment, and the module's end
abbrev pub import_bytes : Imp → List ℕ
import_bytes imp = record_of THEADR (name_bytes imp.name) ++ (record_of COMENT (import_comment imp) ++ record_of MODEND (0 ∷ []))

-- ---- what it means

abbrev pub import_meant : Imp → Imp
import_meant imp = record imp { «module» = uppercase imp.«module» }

abbrev pub import_object : Imp → ObjModule
import_object imp = record empty_module { name = imp.name; imports = import_meant imp ∷ [] }
