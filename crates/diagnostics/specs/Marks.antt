-- What lines for a reader begin with.
use Rattle.std.specs.Prelude.{ℕ, List, codes}
use Rattle.diagnostics.specs.declared.watched.Mark.{Mark}
use Rattle.diagnostics.specs.declared.watched.Mark.TheVariants as mark

abbrev pub note_mark : List ℕ
note_mark = codes "lx: note: "

abbrev pub warning_mark : List ℕ
warning_mark = codes "lx: warning: "

-- What a line of each kind begins with.
abbrev pub mark_text : Mark → List ℕ
mark_text mark.Note = note_mark
mark_text mark.Warning = warning_mark
