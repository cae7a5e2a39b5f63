-- What `show` comes to: one fault, or none, and one status; and some text.
use Rattle.std.proofs.Common.{◌≡◌, ◌⊎◌, ℕ, zero, suc, Bool, true, false, List, [], ◌∷◌, length, map, inl, inr, refl, ap, sym, subst, ◌∙◌, nat_le}
use Rattle.std.specs.Prelude.{Ok, Err, Option, None, Some, MatchBool, if◌then◌else◌}
use Rattle.std.proofs.lemmas.List.{append-nil}
use Rattle.lx_bytes.specs.LittleEndian.{AreBytes}
use Rattle.lx_types.specs.declared.refusal.LxRefusal.{LxRefusal}
use Rattle.lx_model.specs.Module.{LxFault, parts_of}
use Rattle.obj_types.specs.declared.object.ObjModule.{ObjModule}
use Rattle.obj_types.specs.declared.refusal.OmfRefusal.{OmfRefusal}
use Rattle.omf_model.specs.Object as object_files
use Rattle.omf_model.specs.Library as libraries
use Rattle.omf_model.proofs.ModuleLaws.{object_fault_one, object_either, object_not_both}
use Rattle.omf_model.proofs.LibraryFaults.{library_fault_one, library_either, library_not_both}
use Rattle.show_model.specs.Kinds.{is_module, is_library, is_resource}
use Rattle.show_model.specs.Lists.{module_lists, object_lists, library_lists, resource_lists}
use Rattle.show_model.specs.Outlines.{IsOutline, Tally, outline_text, tallies}
use Rattle.show_model.specs.Shows.{IsShown, ShowsLibrary, ShowsModule, ShowsObject, ShowsResources}
use Rattle.show_model.specs.declared.fault.ShowFault.{ShowFault}
use Rattle.show_model.specs.declared.fault.ShowFault.TheVariants.{Object, Module, Resources}
use Rattle.show_model.specs.declared.part.Part.{Part}
use Rattle.lx_ports.specs.Calls.{Call}
use Rattle.lx_ports.specs.Files.{Contents}
use Rattle.lx_ports.specs.declared.files.LoadFault.TheVariants.{TooLong}
use Rattle.answer_model.specs.Answer.{loaded}
use Rattle.answer_model.specs.AskedFiles.{Asked}
use Rattle.answer_model.specs.Items.{Item, raw, raw_file}
use Rattle.answer_model.specs.Loading.{AreRead, ReadsAnswer, file_limit}
use Rattle.answer_model.specs.Outcome.{Outcome, says_only}
use Rattle.answer_model.specs.ShowAnswer.{ShowAnswer, ShowsFile, shown_said}
use Rattle.answer_model.specs.declared.said.Said.{Said}
use Rattle.answer_laws.specs.AnswerLaws.{HasBytes, OneFault}
use Rattle.answer_laws.proofs.Items.{not_none_and_some, not_ok_and_err, one_refusal, one_some}
use Rattle.answer_laws.proofs.Loads.{AreSound, told_load}
use Rattle.answer_laws.proofs.Resources as res

-- ---- one fault

module_once : (file text other : List ℕ) (f g : Option ShowFault) → ShowsModule file text f → ShowsModule file other g → f ≡ g
module_once file text other None None h k = refl
module_once file text other None (Some (Module r)) h k = absurd (not_none_and_some (LxFault file) r h.1.faultless k.0)
module_once file text other (Some (Module r)) None h k = absurd (not_none_and_some (LxFault file) r k.1.faultless h.0)
module_once file text other (Some (Module r)) (Some (Module s)) h k = ap (λ (x : LxRefusal). Some (Module x)) (one_some (LxFault file) r s h.0 k.0)
module_once file text other f (Some (Object r)) h k = absurd k
module_once file text other f (Some (Resources r)) h k = absurd k
module_once file text other (Some (Object r)) g h k = absurd h
module_once file text other (Some (Resources r)) g h k = absurd h

object_once : (file text other : List ℕ) (f g : Option ShowFault) → ShowsObject file text f → ShowsObject file other g → f ≡ g
object_once file text other None None h k = refl
object_once file text other None (Some (Object r)) h k = absurd (object_not_both file h.0 r h.1 k.0)
object_once file text other (Some (Object r)) None h k = absurd (object_not_both file k.0 r k.1 h.0)
object_once file text other (Some (Object r)) (Some (Object s)) h k = ap (λ (x : OmfRefusal). Some (Object x)) (object_fault_one file r s h.0 k.0)
object_once file text other f (Some (Module r)) h k = absurd k
object_once file text other f (Some (Resources r)) h k = absurd k
object_once file text other (Some (Module r)) g h k = absurd h
object_once file text other (Some (Resources r)) g h k = absurd h

library_once : (file text other : List ℕ) (f g : Option ShowFault) → ShowsLibrary file text f → ShowsLibrary file other g → f ≡ g
library_once file text other None None h k = refl
library_once file text other None (Some (Object r)) h k = absurd (library_not_both file h.0 r h.1 k.0)
library_once file text other (Some (Object r)) None h k = absurd (library_not_both file k.0 r k.1 h.0)
library_once file text other (Some (Object r)) (Some (Object s)) h k = ap (λ (x : OmfRefusal). Some (Object x)) (library_fault_one file r s h.0 k.0)
library_once file text other f (Some (Module r)) h k = absurd k
library_once file text other f (Some (Resources r)) h k = absurd k
library_once file text other (Some (Module r)) g h k = absurd h
library_once file text other (Some (Resources r)) g h k = absurd h

resources_once : (file text other : List ℕ) (f g : Option ShowFault) → ShowsResources file text f → ShowsResources file other g → f ≡ g
resources_once file text other None None h k = refl
resources_once file text other None (Some (Resources r)) h k =
    absurd (not_ok_and_err (res.reading_of file) h.0 r (res.items_read file h.0 h.1) (res.fault_read file r k.0))
resources_once file text other (Some (Resources r)) None h k =
    absurd (not_ok_and_err (res.reading_of file) k.0 r (res.items_read file k.0 k.1) (res.fault_read file r h.0))
resources_once file text other (Some (Resources r)) (Some (Resources s)) h k =
    ap (λ x. Some (Resources x)) (one_refusal (res.reading_of file) r s (res.fault_read file r h.0) (res.fault_read file s k.0))
resources_once file text other f (Some (Module r)) h k = absurd k
resources_once file text other f (Some (Object r)) h k = absurd k
resources_once file text other (Some (Module r)) g h k = absurd h
resources_once file text other (Some (Object r)) g h k = absurd h

abbrev ShownAs : Bool → Bool → Bool → List ℕ → List ℕ → Option ShowFault → Type 0
ShownAs m l r file text fault =
    MatchBool m (ShowsModule file text fault)
    (MatchBool l (ShowsLibrary file text fault) (MatchBool r (ShowsResources file text fault) (ShowsObject file text fault)))

once : (m l r : Bool) (file text other : List ℕ) (f g : Option ShowFault) → ShownAs m l r file text f → ShownAs m l r file other g → f ≡ g
once true l r file text other f g h k = module_once file text other f g h k
once false true r file text other f g h k = library_once file text other f g h k
once false false true file text other f g h k = resources_once file text other f g h k
once false false false file text other f g h k = object_once file text other f g h k

pub fault_once : OneFault
fault_once file text other f g h k = once (is_module file) (is_library file) (is_resource file) file text other f g h k

-- ---- one status, and no save

abbrev status_by : Option ShowFault → ℕ
status_by None = 0
status_by (Some why) = 1

status_is : (name text : List ℕ) (fault : Option ShowFault) → (shown_said name text fault).status ≡ status_by fault
status_is name text None = refl
status_is name text (Some why) = refl

status_told : (name bytes : List ℕ) (o : Outcome) (h : ShowsFile name bytes o) → o.said.status ≡ status_by h.fault
status_told name bytes o h = ap (λ (p : Outcome). p.said.status) h.told ∙ status_is name h.text h.fault

pub record AreShownOnce (o p : Outcome) : Type 0 where
  pub unsaved : o.saved ≡ None
  pub other : p.saved ≡ None
  pub status : o.said.status ≡ p.said.status

shown_once : (name bytes : List ℕ) (o p : Outcome) → ShowsFile name bytes o → ShowsFile name bytes p → AreShownOnce o p
shown_once name bytes o p h k = record {
  unsaved = ap (λ (q : Outcome). q.saved) h.told;
  other = ap (λ (q : Outcome). q.saved) k.told;
  status = status_told name bytes o h ∙ ap status_by (fault_once bytes h.text k.text h.fault k.fault h.shows k.shows) ∙ sym (status_told name bytes p k);
}

pub show_once : (name : List ℕ) (items : List Item) (o p : Outcome) → ShowAnswer name items o → ShowAnswer name items p → AreShownOnce o p
show_once name (raw bytes ∷ []) o p h k = shown_once name bytes o p h k
show_once name items o p h k = absurd h

-- ---- some text

abbrev lines : ℕ → List (List ℕ)
lines zero = []
lines (suc n) = [] ∷ lines n

lines_are : (n : ℕ) → length (lines n) ≡ n
lines_are zero = refl
lines_are (suc n) = ap suc (lines_are n)

abbrev part : Tally → Part
part t = record { heading = t.0; lines = lines t.1 }

tallied : (lists : List Tally) → tallies (map part lists) ≡ lists
tallied [] = refl
tallied (t ∷ lists) = λ k. (t.0, lines_are t.1 k) ∷ tallied lists k

abbrev outline_of : List Tally → List ℕ
outline_of lists = outline_text (map part lists)

outlined : (lists : List Tally) → IsOutline (outline_of lists) lists
outlined lists = record { before = []; listed = map part lists; after = []; told = sym (append-nil (outline_of lists)); tallied = tallied lists }

-- A text, and a fault or none, that have this.
abbrev HasText : (List ℕ → Option ShowFault → Type 0) → Type 0
HasText P = (text : List ℕ) × (fault : Option ShowFault) × P text fault

module_some : (file : List ℕ) (fault : Option LxRefusal) → LxFault file ≡ fault → HasText (ShowsModule file)
module_some file None is = let m = parts_of file in (outline_of (module_lists m), None, (m, record { faultless = is; parts = refl }, outlined (module_lists m)))
module_some file (Some refusal) is = (outline_of [], Some (Module refusal), (is, outlined []))

object_some : (file : List ℕ) → ((m : ObjModule) × object_files.Obj file m) ⊎ ((r : OmfRefusal) × object_files.FirstFault file r) → HasText (ShowsObject file)
object_some file (inl h) = (outline_of (object_lists h.0), None, (h.0, h.1, outlined (object_lists h.0)))
object_some file (inr h) = (outline_of [], Some (Object h.0), (h.1, outlined []))

library_some : (file : List ℕ) → ((ms : List ObjModule) × libraries.Lib file ms) ⊎ ((r : OmfRefusal) × libraries.LibraryFault file r) → HasText (ShowsLibrary file)
library_some file (inl h) = (outline_of (library_lists h.0), None, (h.0, h.1, outlined (library_lists h.0)))
library_some file (inr h) = (outline_of [], Some (Object h.0), (h.1, outlined []))

resources_some : (file : List ℕ) → res.IsEither file → HasText (ShowsResources file)
resources_some file (inl h) = (outline_of (resource_lists h.0), None, (h.0, h.1, outlined (resource_lists h.0)))
resources_some file (inr h) = (outline_of [], Some (Resources h.0), (h.1, outlined []))

some_as : (m l r : Bool) (file : List ℕ) → AreBytes file → HasText (ShownAs m l r file)
some_as true l r file bytes = module_some file (LxFault file) refl
some_as false true r file bytes = library_some file (library_either file bytes)
some_as false false true file bytes = resources_some file (res.resources_either file bytes)
some_as false false false file bytes = object_some file (object_either file bytes)

text_some : (file : List ℕ) → AreBytes file → HasText (IsShown file)
text_some file bytes = some_as (is_module file) (is_library file) (is_resource file) file bytes

-- ---- of the file that is loaded

abbrev pub asked : List ℕ → Asked
asked name = record { kind = raw_file; name = name }

record HasRaw (item : Item) : Type 0 where
  bytes : List ℕ
  are : AreBytes bytes
  is : item ≡ raw bytes

raw_in : (name bytes : List ℕ) (b : Bool) (item : Item) → AreBytes bytes → ReadsAnswer (asked name) (if b then Ok bytes else Err TooLong) item → HasRaw item
raw_in name bytes true (raw own) are h = record { bytes = bytes; are = are; is = ap raw h.1 }
raw_in name bytes true item are h = absurd h.1
raw_in name bytes false item are h = absurd h

raw_of : (name : List ℕ) (has : Option (List ℕ)) (item : Item) → ((bytes : List ℕ) → has ≡ Some bytes → AreBytes bytes) → ReadsAnswer (asked name) (loaded has) item → HasRaw item
raw_of name None item are h = absurd h
raw_of name (Some bytes) item are h = raw_in name bytes (nat_le (length bytes) file_limit) item (are bytes refl) h

abbrev pub HasAnswer : List ℕ → List Item → Type 0
HasAnswer file items = (said : Said) × ShowAnswer file items (says_only said)

answered : (file : List ℕ) (item : Item) → HasRaw item → HasAnswer file (item ∷ [])
answered file item own =
    let found = text_some own.bytes own.are in
    let said = shown_said file found.0 found.1 in
    let P : Item → Type 0 = λ i. ShowAnswer file (i ∷ []) (says_only said) in
    (said, subst P (sym own.is) (record { text = found.0; fault = found.1; shows = found.2; told = refl }))

pub show_some : (contents : Contents) → HasBytes contents → (file : List ℕ) (calls : List Call) (items : List Item) → AreSound contents calls → AreRead (asked file ∷ []) calls items → HasAnswer file items
show_some contents has file (call ∷ []) (item ∷ []) sound read =
    let one = told_load contents (asked file) call (λ r. ReadsAnswer (asked file) r item) sound.0 read.0 in
    answered file item (raw_of file (contents file) item (λ bytes is. has file bytes is) one.holds)
show_some contents has file (call ∷ next ∷ calls) (item ∷ []) sound read = absurd read.1
show_some contents has file (call ∷ []) (item ∷ more ∷ items) sound read = absurd read.1
show_some contents has file (call ∷ next ∷ calls) (item ∷ more ∷ items) sound read = absurd read.1
show_some contents has file [] items sound read = absurd read
show_some contents has file (call ∷ calls) [] sound read = absurd read
