-- What the bytes of any file are read as, and what is told of the first fault of bytes that are none such.
use Rattle.std.specs.Prelude.{◌≡◌, ℕ, List, Some}
use Rattle.lx_types.specs.declared.refusal.LxRefusal.{LxRefusal}
use Rattle.obj_types.specs.declared.refusal.OmfRefusal.{OmfRefusal}
use Rattle.def_model.specs.declared.refusal.DefRefusal.{DefRefusal}
use Rattle.omf_model.specs.Object as object_files
use Rattle.omf_model.specs.Library as libraries
use Rattle.def_model.specs.Reading as definitions
use Rattle.lx_model.specs.Module as modules
use Rattle.answer_model.specs.Items.{Form, object_form, library_form, definition_form, module_form, session_form, resource_form, raw_form, Item, resources, raw, IsLinkItem}
use Rattle.answer_model.specs.FileRefusals.{omf_text, lx_text, def_text}
use Rattle.answer_model.specs.SessionRefusals.{session_text}
use Rattle.answer_model.specs.ResourceRefusals.{res_text}
use Rattle.res_model.specs.ResFile.{IsResFile}
use Rattle.res_model.specs.Faults.{FirstFault}
use Rattle.res_model.specs.declared.refusal.ResRefusal.{ResRefusal}
use Rattle.session_model.specs.declared.sessions.SessionRefusal.{SessionRefusal}
use Rattle.session_model.specs.Sessions as sessions

-- ---- what is read

-- The bytes are a file of the form, and this is what they mean. What is taken as its bytes alone is them, and has no fault.
abbrev pub IsItem : Form → List ℕ → Item → Type 0
IsItem resource_form bytes (resources items) = IsResFile bytes items
IsItem raw_form bytes (raw own) = own ≡ bytes
IsItem form bytes item = IsLinkItem form bytes item

-- ---- faults

pub record ObjectFault (bytes text : List ℕ) : Type 0 where
  pub refusal : OmfRefusal
  pub first : object_files.FirstFault bytes refusal
  pub told : text ≡ omf_text refusal

pub record LibraryFault (bytes text : List ℕ) : Type 0 where
  pub refusal : OmfRefusal
  pub first : libraries.LibraryFault bytes refusal
  pub told : text ≡ omf_text refusal

pub record DefinitionFault (bytes text : List ℕ) : Type 0 where
  pub refusal : DefRefusal
  pub first : definitions.FirstFault bytes refusal
  pub told : text ≡ def_text refusal

pub record ModuleFault (bytes text : List ℕ) : Type 0 where
  pub refusal : LxRefusal
  pub first : modules.LxFault bytes ≡ Some refusal
  pub told : text ≡ lx_text refusal

pub record SessionFault (bytes text : List ℕ) : Type 0 where
  pub refusal : SessionRefusal
  pub first : sessions.SesFault bytes ≡ Some refusal
  pub told : text ≡ session_text refusal

pub record ResourceFault (bytes text : List ℕ) : Type 0 where
  pub refusal : ResRefusal
  pub first : FirstFault bytes refusal
  pub told : text ≡ res_text refusal

-- The bytes are no file of the form, and this is told of their first fault.
abbrev pub IsFault : Form → List ℕ → List ℕ → Type 0
IsFault object_form bytes text = ObjectFault bytes text
IsFault library_form bytes text = LibraryFault bytes text
IsFault definition_form bytes text = DefinitionFault bytes text
IsFault module_form bytes text = ModuleFault bytes text
IsFault session_form bytes text = SessionFault bytes text
IsFault resource_form bytes text = ResourceFault bytes text
IsFault raw_form bytes text = ⊥
