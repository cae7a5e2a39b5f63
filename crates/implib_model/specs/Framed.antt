-- A record with the checksum that makes the sum of its bytes 0. "Record Format".
use Rattle.std.specs.Prelude.{ℕ, ◌+◌, ◌-◌, ◌%◌, List, ◌∷◌, ◌++◌, length, sum}
use Rattle.lx_bytes.specs.LittleEndian.{little_bytes}
use Rattle.omf_frame.specs.Frame.{record_bytes}

-- what stands before the checksum byte
abbrev pub front_of : ℕ → List ℕ → List ℕ
front_of ty body = ty ∷ little_bytes 2 (length body + 1) ++ body

abbrev pub checksum_of : ℕ → List ℕ → ℕ
checksum_of ty body = (256 - sum (front_of ty body) % 256) % 256

abbrev pub record_of : ℕ → List ℕ → List ℕ
record_of ty body = record_bytes ty body (checksum_of ty body)

-- a length byte, and as many bytes
abbrev pub name_bytes : List ℕ → List ℕ
name_bytes text = length text ∷ text
