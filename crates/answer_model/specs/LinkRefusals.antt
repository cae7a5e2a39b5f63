-- How the refusal of a link is told: its kind, and its fields, each after a blank; numbers in decimal.
use Rattle.std.specs.Prelude.{ℕ, List, ◌++◌, codes}
use Rattle.link_model.specs.declared.refusals.SymRefusal.{SymRefusal}
use Rattle.link_model.specs.declared.refusals.SymRefusal.TheVariants.{Twice, Missing, ImportsMany}
use Rattle.link_model.specs.declared.refusals.ComdatRefusal.{ComdatRefusal}
use Rattle.link_model.specs.declared.refusals.ComdatRefusal.TheVariants.{Clash}
use Rattle.link_model.specs.declared.refusals.LayRefusal.{LayRefusal}
use Rattle.link_model.specs.declared.refusals.LayRefusal.TheVariants.{AbsoluteSeg, UseMixed, GroupSplit, TooLarge}
use Rattle.link_model.specs.declared.refusals.FixRefusal.{FixRefusal}
use Rattle.link_model.specs.declared.refusals.FixRefusal.TheVariants.{FarSelf, FrameApart, ConstSelector, StartOutside}
use Rattle.link_model.specs.declared.refusals.EntryRefusal.{EntryRefusal}
use Rattle.link_model.specs.declared.refusals.EntryRefusal.TheVariants.{Ordinal, NameTwice}
use Rattle.answer_model.specs.FileRefusals.{field}
use Rattle.lx_types.specs.Escaped.{escaped}

abbrev pub named : List ℕ → List ℕ
named name = codes " " ++ escaped name

abbrev pub sym_text : SymRefusal → List ℕ
sym_text (Twice name first second) = codes "Twice" ++ (named name ++ (field first ++ field second))
sym_text (Missing name) = codes "Missing" ++ named name
sym_text (ImportsMany count) = codes "ImportsMany" ++ field count

abbrev pub comdat_text : ComdatRefusal → List ℕ
comdat_text (Clash name first second) = codes "Clash" ++ (named name ++ (field first ++ field second))

abbrev pub lay_text : LayRefusal → List ℕ
lay_text (AbsoluteSeg seg) = codes "AbsoluteSeg" ++ named seg
lay_text (UseMixed seg) = codes "UseMixed" ++ named seg
lay_text (GroupSplit group) = codes "GroupSplit" ++ named group
lay_text (TooLarge seg) = codes "TooLarge" ++ named seg

-- a fixup's module, segment and offset
abbrev pub fixup : ℕ → ℕ → ℕ → List ℕ
fixup by seg offset = field by ++ (field seg ++ field offset)

abbrev pub fix_text : FixRefusal → List ℕ
fix_text (FarSelf by seg offset) = codes "FarSelf" ++ fixup by seg offset
fix_text (FrameApart by seg offset) = codes "FrameApart" ++ fixup by seg offset
fix_text (ConstSelector by seg offset) = codes "ConstSelector" ++ fixup by seg offset
fix_text (StartOutside by) = codes "StartOutside" ++ field by

abbrev pub entry_text : EntryRefusal → List ℕ
entry_text (Ordinal n) = codes "Ordinal" ++ field n
entry_text (NameTwice name) = codes "NameTwice" ++ named name
