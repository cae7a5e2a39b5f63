-- The file of an image means the module that its parts are.
use Rattle.std.proofs.Common.{◌≡◌, Option, None, sym}
use Rattle.lx_types.specs.declared.refusal.LxRefusal.{LxRefusal}
use Rattle.lx_model.specs.Reading.{◌then◌}
use Rattle.lx_model.specs.Module.{LxFault}
use Rattle.image_model.specs.Image.{Image}
use Rattle.image_model.specs.File.{file_of}
use Rattle.image_model.specs.ReadBack.{ImageFits, FilesReadBack}
use Rattle.image_model.proofs.Faultless.{after_none, header_faultless, residents_faultless, others_faultless, imports_faultless, entries_faultless, start_faultless}
use Rattle.image_model.proofs.PagesFaultless.{pages_faultless}
use Rattle.image_model.proofs.PartsRead.{parts_read}
use Rattle.image_model.proofs.RecordsFaultless.{records_faultless}
use Rattle.image_model.proofs.TablesFaultless.{objects_faultless, spans_faultless}

-- a fault that there is not, and what follows it
before : (a b : Option LxRefusal) → a ≡ None → b ≡ None → (a then b) ≡ None
before a b is that = after_none a b is that

faultless : (m : Image) → ImageFits m → LxFault (file_of m) ≡ None
unfolding LxFault
faultless m fits =
    before _ _ (header_faultless m fits)
    (before _ _ (objects_faultless m fits)
    (before _ _ (pages_faultless m fits)
    (before _ _ (residents_faultless m fits)
    (before _ _ (others_faultless m fits)
    (before _ _ (imports_faultless m fits)
    (before _ _ (entries_faultless m fits)
    (before _ _ (start_faultless m fits)
    (before _ _ (spans_faultless m fits) (records_faultless m fits)))))))))

pub files_read : FilesReadBack
files_read m fits = record { faultless = faultless m fits; parts = sym (parts_read m fits) }
