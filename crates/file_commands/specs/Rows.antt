-- The objects of a linked module in memory, with their bytes.
use Rattle.std.specs.Prelude.{ℕ, ◌+◌, ◌^◌, ◌≤◌, List, length}
use Rattle.link_model.specs.declared.symbols.LaidObject.{LaidObject}
use Rattle.answer_model.specs.ImageText.{image_text}

abbrev pub Row : Type 0
Row = LaidObject × List ℕ

-- All bytes have addresses.
abbrev pub FitsBase : Row → Type 0
FitsBase row = row.0.base + length row.1 ≤ 2 ^ 32

abbrev pub row_text : Row → List ℕ
row_text row = image_text row.0.base row.1
