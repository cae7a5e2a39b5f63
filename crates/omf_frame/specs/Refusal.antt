-- Why no record is read.
use Rattle.std.specs.Prelude.{◌≡◌, ℕ, ◌+◌, ◌<◌, List, length}
use Rattle.lx_bytes.specs.Cursor.{Cursor}
use Rattle.omf_frame.specs.declared.refusal.FrameRefusal.{FrameRefusal}
use Rattle.omf_frame.specs.declared.refusal.FrameRefusal.TheVariants.{Short, UnknownType, BadChecksum}
use Rattle.omf_frame.specs.Delimited.{length_word}
use Rattle.omf_frame.specs.Frame.{BeginsWhole, IsChecksum, record_sum}
use Rattle.omf_frame.specs.RecordType.{IsRecordType}

-- No whole record stands here: there is no length word, or it is 0, or the record passes the end.
pub data IsCutOff (bytes : List ℕ) : Type 0 where
  no_length : length bytes < 3 → IsCutOff bytes
  length_0 : length_word bytes ≡ 0 → IsCutOff bytes
  past_end : length bytes < 3 + length_word bytes → IsCutOff bytes

-- A whole record of a type that is not known stands here.
pub record BeginsUnknown (bytes : List ℕ) (ty : ℕ) : Type 0 where
  pub body : List ℕ
  pub checksum : ℕ
  pub rest : List ℕ
  pub whole : BeginsWhole bytes ty body checksum rest
  pub unknown : ¬ IsRecordType ty

-- A whole record of a known type stands here, whose bytes have the sum, and its checksum is not right.
pub record BeginsWrong (bytes : List ℕ) (total : ℕ) : Type 0 where
  pub ty : ℕ
  pub body : List ℕ
  pub checksum : ℕ
  pub rest : List ℕ
  pub whole : BeginsWhole bytes ty body checksum rest
  pub known : IsRecordType ty
  pub wrong : ¬ IsChecksum ty body checksum
  pub sum : total ≡ record_sum ty body checksum

-- The refusal says what stands at the cursor, and its place is the record's first byte.
abbrev pub Refuses : Cursor → FrameRefusal → Type 0
Refuses cur (Short at) = (at ≡ cur.at) × IsCutOff cur.left
Refuses cur (UnknownType at ty) = (at ≡ cur.at) × BeginsUnknown cur.left ty
Refuses cur (BadChecksum at total) = (at ≡ cur.at) × BeginsWrong cur.left total
