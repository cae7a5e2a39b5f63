-- Outlines: the text of parts, each with a heading, the number of its lines, and the lines.
use Rattle.std.specs.Prelude.{◌≡◌, ℕ, ◌==◌, ◌&&◌, not, Bool, List, [], ◌∷◌, ◌++◌, codes, decimal, length, map, nat_le, if◌then◌else◌}
use Rattle.std.specs.List.{flat_map}
use Rattle.lx_types.specs.Escaped.{hex_byte}
use Rattle.show_model.specs.declared.part.Part.{Part}

-- from a blank to `~`, and no backslash
abbrev pub is_plain : ℕ → Bool
is_plain b = nat_le 0x20 b && nat_le b 0x7E && not (b == 0x5C)

-- a backslash twice, and a byte that is not printable as `\x` and two hexadecimal digits
abbrev pub shown_byte : ℕ → List ℕ
shown_byte b = if is_plain b then b ∷ [] else if b == 0x5C then 0x5C ∷ 0x5C ∷ [] else 0x5C ∷ 0x78 ∷ hex_byte b

abbrev pub shown : List ℕ → List ℕ
shown bytes = flat_map shown_byte bytes

-- a line under a heading
abbrev pub line_text : List ℕ → List ℕ
line_text line = codes "  " ++ shown line ++ 0x0A ∷ []

abbrev pub heading_text : Part → List ℕ
heading_text p = shown p.heading ++ codes ": " ++ decimal (length p.lines) ++ 0x0A ∷ []

abbrev pub part_text : Part → List ℕ
part_text p = heading_text p ++ flat_map line_text p.lines

abbrev pub outline_text : List Part → List ℕ
outline_text parts = flat_map part_text parts

-- a heading, and how many lines stand under it
abbrev pub Tally : Type 0
Tally = List ℕ × ℕ

abbrev pub tally : Part → Tally
tally p = (p.heading, length p.lines)

abbrev pub tallies : List Part → List Tally
tallies parts = map tally parts

-- The text is parts among which those stand, in a row, that have these headings and numbers of lines.
pub record IsOutline (text : List ℕ) (lists : List Tally) : Type 0 where
  pub before : List Part
  pub listed : List Part
  pub after : List Part
  pub told : text ≡ outline_text before ++ outline_text listed ++ outline_text after
  pub tallied : tallies listed ≡ lists
