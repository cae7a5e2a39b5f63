-- Which values the statements can give.
use Rattle.std.specs.Prelude.{◌≡◌, true, false, IfSome}
use Rattle.std.specs.List.{All}
use Rattle.obj_types.specs.declared.definition.Attrs.{Attrs}
use Rattle.obj_types.specs.declared.definition.DefFile.{DefFile}
use Rattle.obj_types.specs.declared.definition.SegAttrs.{SegAttrs}
use Rattle.obj_types.specs.declared.definition.ModKind.TheVariants as modules
use Rattle.def_model.specs.Meaning.{is_code_class}

-- Without a word that makes it executable an item has the attributes of DATA for reading and executing.
abbrev pub StatedSegment : Attrs → SegAttrs → Type 0
StatedSegment plain s = s.attrs.exec ≡ false → (plain.exec ≡ false) × (s.attrs.read ≡ true) × IfSome s.class (λ c. is_code_class c ≡ false)

-- Only a library has words on its calls. CODE is executable, and each word that takes reading away makes
-- executable.
pub record Stated (d : DefFile) : Type 0 where
  pub init_each : d.kind ≡ modules.Program → d.init_each ≡ false
  pub term_each : d.kind ≡ modules.Program → d.term_each ≡ false
  pub code : d.code.exec ≡ true
  pub plain : d.plain.exec ≡ false → d.plain.read ≡ true
  pub segs : All (StatedSegment d.plain) d.segs
