-- How the first fault of a file is told: its place, its kind, and the other fields in decimal, each after a blank.
use Rattle.std.specs.Prelude.{ℕ, List, ◌++◌, codes}
use Rattle.std.specs.Fmt.{decimal}
use Rattle.lx_types.specs.declared.refusal.LxKind.{LxKind}
use Rattle.lx_types.specs.declared.refusal.LxKind.TheVariants as lx
use Rattle.lx_types.specs.declared.refusal.LxRefusal.{LxRefusal}
use Rattle.obj_types.specs.declared.refusal.OmfRefusal.{OmfRefusal}
use Rattle.obj_types.specs.declared.refusal.OmfRefusal.TheVariants.{Short, BadChecksum, UnknownType, BadIndex, BadField, DataRange, Nested, NoThread, BadLocation, NoData, FixOverlap, DataOverFix, TooMany}
use Rattle.def_model.specs.declared.refusal.DefKind.{DefKind}
use Rattle.def_model.specs.declared.refusal.DefKind.TheVariants as def
use Rattle.def_model.specs.declared.refusal.DefRefusal.{DefRefusal}

-- `@AT KIND`
abbrev pub placed : ℕ → List ℕ → List ℕ
placed at kind = codes "@" ++ (decimal at ++ (codes " " ++ kind))

-- a field after what stands before it
abbrev pub field : ℕ → List ℕ
field n = codes " " ++ decimal n

abbrev pub omf_text : OmfRefusal → List ℕ
omf_text (Short at) = placed at (codes "Short")
omf_text (BadChecksum at sum) = placed at (codes "BadChecksum" ++ field sum)
omf_text (UnknownType at ty) = placed at (codes "UnknownType" ++ field ty)
omf_text (BadIndex at index have) = placed at (codes "BadIndex" ++ (field index ++ field have))
omf_text (BadField at) = placed at (codes "BadField")
omf_text (DataRange at) = placed at (codes "DataRange")
omf_text (Nested at) = placed at (codes "Nested")
omf_text (NoThread at) = placed at (codes "NoThread")
omf_text (BadLocation at loc) = placed at (codes "BadLocation" ++ field loc)
omf_text (NoData at) = placed at (codes "NoData")
omf_text (FixOverlap at) = placed at (codes "FixOverlap")
omf_text (DataOverFix at) = placed at (codes "DataOverFix")
omf_text (TooMany at) = placed at (codes "TooMany")

abbrev pub lx_kind : LxKind → List ℕ
lx_kind lx.Signature = codes "Signature"
lx_kind lx.Short = codes "Short"
lx_kind lx.Field = codes "Field"
lx_kind lx.TooMany = codes "TooMany"
lx_kind lx.Object = codes "Object"
lx_kind lx.PageKind = codes "PageKind"
lx_kind lx.PageData = codes "PageData"
lx_kind lx.TooLong = codes "TooLong"
lx_kind lx.NameTable = codes "NameTable"
lx_kind lx.ImportTable = codes "ImportTable"
lx_kind lx.EntryTable = codes "EntryTable"
lx_kind lx.FixTable = codes "FixTable"
lx_kind lx.BadSource = codes "BadSource"
lx_kind lx.BadTarget = codes "BadTarget"
lx_kind lx.Straddle = codes "Straddle"

abbrev pub lx_text : LxRefusal → List ℕ
lx_text r = placed r.at (lx_kind r.kind)

abbrev pub def_kind : DefKind → List ℕ
def_kind def.Token = codes "Token"
def_kind def.Statement = codes "Statement"
def_kind def.Expected = codes "Expected"
def_kind def.Number = codes "Number"
def_kind def.Conflict = codes "Conflict"
def_kind def.Twice = codes "Twice"
def_kind def.TooLong = codes "TooLong"

-- `line N KIND`
abbrev pub at_line : ℕ → List ℕ → List ℕ
at_line number kind = codes "line " ++ (decimal number ++ (codes " " ++ kind))

abbrev pub def_text : DefRefusal → List ℕ
def_text r = at_line r.line (def_kind r.kind)
