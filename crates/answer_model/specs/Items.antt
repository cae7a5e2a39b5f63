-- How files are taken, and what the bytes of those mean that links and sessions read.
use Rattle.std.specs.Prelude.{ℕ, ◌==◌, ◌&&◌, ◌||◌, Bool, List, if◌then◌else◌, slice_index}
use Rattle.lx_types.specs.declared.parts.Parts.{Parts}
use Rattle.obj_types.specs.declared.object.ObjModule.{ObjModule}
use Rattle.obj_types.specs.declared.definition.DefFile.{DefFile}
use Rattle.omf_model.specs.Object as object_files
use Rattle.omf_model.specs.Library as libraries
use Rattle.def_model.specs.Reading as definitions
use Rattle.lx_model.specs.Module as modules
use Rattle.res_model.specs.declared.item.ResItem.{ResItem}
use Rattle.session_model.specs.declared.sessions.Session.{Session}
use Rattle.session_model.specs.Sessions as sessions

-- ---- forms of files

pub data Form : Type 0 where
  object_form : Form
  library_form : Form
  definition_form : Form
  module_form : Form
  session_form : Form
  resource_form : Form
  raw_form : Form

-- How a command takes a file: as an object file whatever its first byte is; as an object file or a library; as a
-- definition file; as a module or a definition file; as a module, as a session, or as a resource file, whatever its first bytes are;
-- as its bytes alone.
pub data Kind : Type 0 where
  object_file : Kind
  object_or_library : Kind
  definition_file : Kind
  module_or_definition : Kind
  module_file : Kind
  session_file : Kind
  resource_file : Kind
  raw_file : Kind

-- A library begins with F0h.
abbrev pub is_library : List ℕ → Bool
is_library bytes = slice_index bytes 0 == 0xF0

-- A module begins with `LX`, or with the `MZ` of a program for DOS.
abbrev pub is_module : List ℕ → Bool
is_module bytes =
    slice_index bytes 0 == 0x4C && slice_index bytes 1 == 0x58 || slice_index bytes 0 == 0x4D && slice_index bytes 1 == 0x5A

abbrev pub form_of : Kind → List ℕ → Form
form_of object_file bytes = object_form
form_of object_or_library bytes = if is_library bytes then library_form else object_form
form_of definition_file bytes = definition_form
form_of module_or_definition bytes = if is_module bytes then module_form else definition_form
form_of module_file bytes = module_form
form_of session_file bytes = session_form
form_of resource_file bytes = resource_form
form_of raw_file bytes = raw_form

-- ---- what is read

pub data Item : Type 0 where
  object : ObjModule → Item
  library : List ObjModule → Item
  definition : DefFile → Item
  linked : Parts → Item
  session : Session → Item
  resources : List ResItem → Item
  raw : List ℕ → Item

-- The bytes are a file of a form that links and sessions read, and this is what they mean. No resource file is among these.
abbrev pub IsLinkItem : Form → List ℕ → Item → Type 0
IsLinkItem object_form bytes (object m) = object_files.Obj bytes m
IsLinkItem library_form bytes (library ms) = libraries.Lib bytes ms
IsLinkItem definition_form bytes (definition d) = definitions.Def bytes d
IsLinkItem module_form bytes (linked m) = modules.Lx bytes m
IsLinkItem session_form bytes (session s) = sessions.Ses bytes s
IsLinkItem _ bytes item = ⊥
