-- A record's bytes ("Relocatable Object Module Format", "Record Format"): a type byte, a length word, the
-- contents and a checksum byte.
use Rattle.std.specs.Prelude.{◌≡◌, ℕ, ◌+◌, ◌<◌, ◌%◌, ◌^◌, ◌⊎◌, List, [], ◌∷◌, ◌++◌, length, sum}
use Rattle.lx_bytes.specs.LittleEndian.{little_bytes}
use Rattle.omf_frame.specs.RecordType.{IsRecordType}

-- The length counts the contents and the checksum byte.
abbrev pub record_bytes : ℕ → List ℕ → ℕ → List ℕ
record_bytes ty body checksum = ty ∷ little_bytes 2 (length body + 1) ++ body ++ checksum ∷ []

-- the sum of all bytes of a record
abbrev pub record_sum : ℕ → List ℕ → ℕ → ℕ
record_sum ty body checksum = sum (record_bytes ty body checksum) % 256

-- The checksum byte is 0, or the one that makes the sum 0.
abbrev pub IsChecksum : ℕ → List ℕ → ℕ → Type 0
IsChecksum ty body checksum = (checksum ≡ 0) ⊎ (record_sum ty body checksum ≡ 0)

-- The bytes are those of a whole record and then the rest. Its type and its checksum may be any.
pub record BeginsWhole (bytes : List ℕ) (ty : ℕ) (body : List ℕ) (checksum : ℕ) (rest : List ℕ) : Type 0 where
  pub joined : bytes ≡ record_bytes ty body checksum ++ rest
  pub counted : length body + 1 < 2 ^ 16

-- The bytes are a spelling of the record, of a known type and with a right checksum, and then the rest.
pub record BeginsRecord (bytes : List ℕ) (ty : ℕ) (body rest : List ℕ) : Type 0 where
  pub checksum : ℕ
  pub whole : BeginsWhole bytes ty body checksum rest
  pub known : IsRecordType ty
  pub right : IsChecksum ty body checksum
