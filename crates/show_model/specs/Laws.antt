-- What is told is printable.
use Rattle.std.specs.Prelude.{◌≡◌, ℕ, ◌==◌, ◌&&◌, ◌||◌, Bool, true, List, nat_le}
use Rattle.std.specs.List.{list_all}
use Rattle.show_model.specs.Outlines.{Tally, IsOutline}

-- a byte from 20h to 7Eh, or the end of a line
abbrev pub is_text_byte : ℕ → Bool
is_text_byte b = nat_le 0x20 b && nat_le b 0x7E || b == 0x0A

abbrev pub TextIsPrintable : Type 0
TextIsPrintable = (text : List ℕ) (lists : List Tally) → IsOutline text lists → list_all is_text_byte text ≡ true
