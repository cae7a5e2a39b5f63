-- What the reader of a header answers.
use Rattle.std.specs.Prelude.{◌≡◌, ℕ, ◌+◌, ◌*◌, map, List, Some, None, Result, Ok, Err}
use Rattle.std.specs.List.{range_with_len}
use Rattle.lx_types.specs.declared.refusal.LxRefusal.{LxRefusal}
use Rattle.lx_model.specs.Reading.{number_at}
use Rattle.lx_model.specs.Header.{header_place, header_fault, header_fields}
use Rattle.lx_head.specs.declared.head.Head.{Head}

-- A header that is read has no fault, and is where and what the definitions say; of another its first fault
-- is told.
abbrev pub ReadsHead : Result Head LxRefusal → List ℕ → Type 0
ReadsHead (Ok head) file = (header_fault file ≡ None) × (head.place ≡ header_place file) × (head.fields ≡ header_fields file)
ReadsHead (Err e) file = header_fault file ≡ Some e

-- the 43 doublewords at a place
unfoldable pub doublewords_at : List ℕ → ℕ → List ℕ
doublewords_at file place = map (λ k. number_at 4 file (place + 4 * k)) (range_with_len 0 43)
