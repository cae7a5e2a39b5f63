-- Bytes are one item of a form, or have one fault, and not both.
use Rattle.std.proofs.Common.{◌≡◌, ◌⊎◌, ℕ, List, Some, inl, inr, refl, ap, sym, ◌∙◌}
use Rattle.lx_bytes.specs.LittleEndian.{AreBytes}
use Rattle.omf_model.proofs.ModuleLaws.{object_one, object_fault_one, object_either, object_not_both}
use Rattle.omf_model.proofs.LibraryLaws.{library_one}
use Rattle.omf_model.proofs.LibraryFaults.{library_fault_one, library_either, library_not_both}
use Rattle.obj_types.specs.declared.object.ObjModule.{ObjModule}
use Rattle.obj_types.specs.declared.refusal.OmfRefusal.{OmfRefusal}
use Rattle.obj_types.specs.declared.definition.DefFile.{DefFile}
use Rattle.omf_model.specs.Object as object_files
use Rattle.omf_model.specs.Library as libraries
use Rattle.std.specs.Prelude.{Result, Ok, Err, Option, None}
use Rattle.def_model.specs.declared.refusal.DefRefusal.{DefRefusal}
use Rattle.def_model.specs.Reading.{read_of}
use Rattle.lx_types.specs.declared.refusal.LxRefusal.{LxRefusal}
use Rattle.lx_model.specs.Module.{LxFault, parts_of}
use Rattle.answer_model.specs.FileRefusals.{omf_text, lx_text, def_text}
use Rattle.answer_model.specs.SessionRefusals.{session_text}
use Rattle.answer_model.specs.ResourceRefusals.{res_text}
use Rattle.session_model.specs.declared.sessions.SessionRefusal.{SessionRefusal}
use Rattle.session_model.specs.Sessions.{SesFault, session_of, statements_of}
use Rattle.session_model.specs.Lines.{lines_in}
use Rattle.answer_laws.proofs.Resources as res
use Rattle.answer_model.specs.Reading.{IsItem, IsFault}
use Rattle.answer_model.specs.Items.{Form, object_form, library_form, definition_form, module_form, session_form, resource_form, raw_form, Item, object, library, definition, linked, session, resources, raw}

-- ---- one item

one_ok : {A E : Type 0} (answer : Result A E) (d e : A) → answer ≡ Ok d → answer ≡ Ok e → d ≡ e
one_ok answer d e h k = cc

pub item_one : (form : Form) (bytes : List ℕ) (i j : Item) → IsItem form bytes i → IsItem form bytes j → i ≡ j
item_one object_form bytes (object m) (object n) h k = ap object (object_one bytes m n h k)
item_one object_form bytes (object m) j h k = absurd k
item_one object_form bytes i j h k = absurd h
item_one library_form bytes (library ms) (library ns) h k = ap library (library_one bytes ms ns h k)
item_one library_form bytes (library ms) j h k = absurd k
item_one library_form bytes i j h k = absurd h
item_one definition_form bytes (definition d) (definition e) h k = ap definition (one_ok (read_of bytes) d e h k)
item_one definition_form bytes (definition d) j h k = absurd k
item_one definition_form bytes i j h k = absurd h
item_one module_form bytes (linked m) (linked n) h k = ap linked (h.parts ∙ sym k.parts)
item_one module_form bytes (linked m) j h k = absurd k
item_one module_form bytes i j h k = absurd h
item_one session_form bytes (session s) (session t) h k = ap session (h.says ∙ sym k.says)
item_one session_form bytes (session s) j h k = absurd k
item_one session_form bytes i j h k = absurd h
item_one resource_form bytes (resources xs) (resources ys) h k = ap resources (one_ok (res.reading_of bytes) xs ys (res.items_read bytes xs h) (res.items_read bytes ys k))
item_one resource_form bytes (resources xs) j h k = absurd k
item_one resource_form bytes i j h k = absurd h
item_one raw_form bytes (raw xs) (raw ys) h k = ap raw (h ∙ sym k)
item_one raw_form bytes (raw xs) j h k = absurd k
item_one raw_form bytes i j h k = absurd h

-- ---- one fault

pub one_refusal : {A E : Type 0} (answer : Result A E) (f g : E) → answer ≡ Err f → answer ≡ Err g → f ≡ g
one_refusal answer f g h k = cc

pub one_some : {A : Type 0} (answer : Option A) (f g : A) → answer ≡ Some f → answer ≡ Some g → f ≡ g
one_some answer f g h k = cc

pub fault_one : (form : Form) (bytes t u : List ℕ) → IsFault form bytes t → IsFault form bytes u → t ≡ u
fault_one object_form bytes t u h k = h.told ∙ (ap omf_text (object_fault_one bytes h.refusal k.refusal h.first k.first) ∙ sym k.told)
fault_one library_form bytes t u h k = h.told ∙ (ap omf_text (library_fault_one bytes h.refusal k.refusal h.first k.first) ∙ sym k.told)
fault_one definition_form bytes t u h k = h.told ∙ (ap def_text (one_refusal (read_of bytes) h.refusal k.refusal h.first k.first) ∙ sym k.told)
fault_one module_form bytes t u h k = h.told ∙ (ap lx_text (one_some (LxFault bytes) h.refusal k.refusal h.first k.first) ∙ sym k.told)
fault_one session_form bytes t u h k = h.told ∙ (ap session_text (one_some (SesFault bytes) h.refusal k.refusal h.first k.first) ∙ sym k.told)
fault_one resource_form bytes t u h k =
    let same = one_refusal (res.reading_of bytes) h.refusal k.refusal (res.fault_read bytes h.refusal h.first) (res.fault_read bytes k.refusal k.first) in
    h.told ∙ (ap res_text same ∙ sym k.told)
fault_one raw_form bytes t u h k = absurd h

-- ---- not both

pub not_ok_and_err : {A E : Type 0} (answer : Result A E) (d : A) (f : E) → answer ≡ Ok d → answer ≡ Err f → ⊥
not_ok_and_err answer d f h k = cc

pub not_none_and_some : {A : Type 0} (answer : Option A) (f : A) → answer ≡ None → answer ≡ Some f → ⊥
not_none_and_some answer f h k = cc

pub item_not_fault : (form : Form) (bytes : List ℕ) (i : Item) (t : List ℕ) → IsItem form bytes i → IsFault form bytes t → ⊥
item_not_fault object_form bytes (object m) t h k = object_not_both bytes m k.refusal h k.first
item_not_fault object_form bytes i t h k = absurd h
item_not_fault library_form bytes (library ms) t h k = library_not_both bytes ms k.refusal h k.first
item_not_fault library_form bytes i t h k = absurd h
item_not_fault definition_form bytes (definition d) t h k = not_ok_and_err (read_of bytes) d k.refusal h k.first
item_not_fault definition_form bytes i t h k = absurd h
item_not_fault module_form bytes (linked m) t h k = not_none_and_some (LxFault bytes) k.refusal h.faultless k.first
item_not_fault module_form bytes i t h k = absurd h
item_not_fault session_form bytes (session s) t h k = not_none_and_some (SesFault bytes) k.refusal h.good k.first
item_not_fault session_form bytes i t h k = absurd h
item_not_fault resource_form bytes (resources xs) t h k = not_ok_and_err (res.reading_of bytes) xs k.refusal (res.items_read bytes xs h) (res.fault_read bytes k.refusal k.first)
item_not_fault resource_form bytes i t h k = absurd h
item_not_fault raw_form bytes i t h k = absurd k

-- ---- one of both

-- The bytes are an item of the form, or have a fault.
abbrev pub IsEither : Form → List ℕ → Type 0
IsEither form bytes = ((i : Item) × IsItem form bytes i) ⊎ ((t : List ℕ) × IsFault form bytes t)

of_object : (bytes : List ℕ) → ((m : ObjModule) × object_files.Obj bytes m) ⊎ ((f : OmfRefusal) × object_files.FirstFault bytes f) → IsEither object_form bytes
of_object bytes (inl h) = inl (object h.0, h.1)
of_object bytes (inr h) = inr (omf_text h.0, record { refusal = h.0; first = h.1; told = refl })

of_library : (bytes : List ℕ) → ((ms : List ObjModule) × libraries.Lib bytes ms) ⊎ ((f : OmfRefusal) × libraries.LibraryFault bytes f) → IsEither library_form bytes
of_library bytes (inl h) = inl (library h.0, h.1)
of_library bytes (inr h) = inr (omf_text h.0, record { refusal = h.0; first = h.1; told = refl })

of_definition : (bytes : List ℕ) (answer : Result DefFile DefRefusal) → read_of bytes ≡ answer → IsEither definition_form bytes
of_definition bytes (Ok d) is = inl (definition d, is)
of_definition bytes (Err f) is = inr (def_text f, record { refusal = f; first = is; told = refl })

of_module : (bytes : List ℕ) (fault : Option LxRefusal) → LxFault bytes ≡ fault → IsEither module_form bytes
of_module bytes None is = inl (linked (parts_of bytes), record { faultless = is; parts = refl })
of_module bytes (Some f) is = inr (lx_text f, record { refusal = f; first = is; told = refl })

of_session : (bytes : List ℕ) (fault : Option SessionRefusal) → SesFault bytes ≡ fault → IsEither session_form bytes
of_session bytes None is = inl (session (session_of (statements_of (lines_in bytes))), record { good = is; says = refl })
of_session bytes (Some f) is = inr (session_text f, record { refusal = f; first = is; told = refl })

of_resources : (bytes : List ℕ) → res.IsEither bytes → IsEither resource_form bytes
of_resources bytes (inl h) = inl (resources h.0, h.1)
of_resources bytes (inr h) = inr (res_text h.0, record { refusal = h.0; first = h.1; told = refl })

pub item_or_fault : (form : Form) (bytes : List ℕ) → AreBytes bytes → IsEither form bytes
item_or_fault object_form bytes h = of_object bytes (object_either bytes h)
item_or_fault library_form bytes h = of_library bytes (library_either bytes h)
item_or_fault definition_form bytes h = of_definition bytes (read_of bytes) refl
item_or_fault module_form bytes h = of_module bytes (LxFault bytes) refl
item_or_fault session_form bytes h = of_session bytes (SesFault bytes) refl
item_or_fault resource_form bytes h = of_resources bytes (res.resources_either bytes h)
item_or_fault raw_form bytes h = inl (raw bytes, refl)
