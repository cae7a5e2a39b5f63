-- What a library means, and its first fault. "Microsoft LIB Library Format".
use Rattle.std.specs.Prelude.{◌≡◌, ◌≢◌, ℕ, ◌+◌, ◌-◌, ◌*◌, ◌<◌, true, false, List, [], ◌∷◌, ◌++◌, length, slice_index}
use Rattle.lx_bytes.specs.LittleEndian.{little_bytes}
use Rattle.lx_bytes.specs.Cursor.{Cursor}
use Rattle.omf_frame.specs.Frame.{BeginsWhole}
use Rattle.omf_frame.specs.Refusal.{IsCutOff}
use Rattle.obj_types.specs.declared.refusal.OmfRefusal.{OmfRefusal}
use Rattle.obj_types.specs.declared.refusal.OmfRefusal.TheVariants.{Short, BadField}
use Rattle.obj_types.specs.declared.object.ObjModule.{ObjModule}
use Rattle.omf_fields.specs.Forms.{Form, ◌then◌}
use Rattle.omf_model.specs.Object.{IsModule, FaultAt}
use Rattle.omf_frame.specs.declared.record_type.TheConstants.{LIBRARY_HEADER, LIBRARY_END}
use Rattle.omf_model.specs.ReadModule.{is_page_size, up_to_page, ends_library}

-- A module, and zeros or other bytes up to a multiple of the page size, the file's place of the first
-- byte being a multiple.
pub record IsPaged (size : ℕ) (bytes : List ℕ) (m : ObjModule) : Type 0 where
  pub body : List ℕ
  pub fill : List ℕ
  pub joined : bytes ≡ body ++ fill
  pub is_module : IsModule body m
  pub fewer : length fill < size
  pub pages : ℕ
  pub whole : length bytes ≡ pages * size

-- Modules, each up to a page's end, and then F1h and anything.
abbrev pub ArePaged : ℕ → List ObjModule → Form
ArePaged size [] bytes = slice_index bytes 0 ≡ LIBRARY_END
ArePaged size (m ∷ ms) bytes = ((λ front. IsPaged size front m) then ArePaged size ms) bytes

-- The header: F0h, a length that is the page size less 3, and so many bytes.
pub record IsHeader (size : ℕ) (bytes : List ℕ) : Type 0 where
  pub contents : List ℕ
  pub joined : bytes ≡ LIBRARY_HEADER ∷ little_bytes 2 (size - 3) ++ contents
  pub whole : length bytes ≡ size
  pub page : is_page_size size ≡ true

pub record Lib (bytes : List ℕ) (ms : List ObjModule) : Type 0 where
  pub size : ℕ
  pub paged : (IsHeader size then ArePaged size ms) bytes

-- ---- faults

-- A cursor after a module.
abbrev pub after : ℕ → List ℕ → List ℕ → Cursor
after at body rest = record { at = at + length body; left = rest }

-- The first fault in a module's place: that of the module, or after a module one in the next place, which
-- is the next multiple of the page size, also where it is past the end.
pub data PageFault (size : ℕ) : ℕ → List ℕ → OmfRefusal → Type 0 where
  in_module : {at : ℕ} {bytes : List ℕ} {refusal : OmfRefusal} → ends_library bytes ≡ false → FaultAt at bytes refusal → PageFault size at bytes refusal
  after_module : {at : ℕ} {bytes : List ℕ} {refusal : OmfRefusal} (m : ObjModule) (body rest : List ℕ) → bytes ≡ body ++ rest → IsModule body m
      → PageFault size (up_to_page size (after at body rest)).at (up_to_page size (after at body rest)).left refusal → PageFault size at bytes refusal

-- The first fault of a library: no whole record stands first, or one of another type, or one whose length
-- gives no page size, or its modules have one.
pub data LibraryFault : List ℕ → OmfRefusal → Type 0 where
  no_record : {bytes : List ℕ} → IsCutOff bytes → LibraryFault bytes (Short 0)
  other_type : {bytes : List ℕ} (ty : ℕ) (body : List ℕ) (checksum : ℕ) (rest : List ℕ) → BeginsWhole bytes ty body checksum rest → ty ≢ LIBRARY_HEADER →
      LibraryFault bytes (BadField 0)
  no_page : {bytes : List ℕ} (body : List ℕ) (checksum : ℕ) (rest : List ℕ) → BeginsWhole bytes LIBRARY_HEADER body checksum rest →
      is_page_size (4 + length body) ≡ false → LibraryFault bytes (BadField 1)
  in_modules : {bytes : List ℕ} {refusal : OmfRefusal} (size : ℕ) (front back : List ℕ) → bytes ≡ front ++ back → IsHeader size front →
      PageFault size size back refusal → LibraryFault bytes refusal
