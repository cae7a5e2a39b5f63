use Rattle.std.proofs.Common.{refl, sym, subst}
use Rattle.obj_types.specs.declared.definition.DefFile.{DefFile}
use Rattle.obj_types.specs.Definition.{WholeDef}
use Rattle.def_file.specs.Stated.{Stated}
use Rattle.def_file.proofs.KindLaws.{stated}
use Rattle.def_file.proofs.WholeLaws.{whole_file}
use Rattle.def_file.proofs.meaning.file_of.Goals as goal

pub returns-clause-value : goal.returns-clause-value
returns-clause-value c =
    rw (
      c.in_ok-segs.ensures,
      c.attrs_with-code.ensures,
      c.attrs_with-plain.ensures,
      c.unwrap_or.ensures,
      c.unwrap_or-2.ensures,
      c.unwrap_or-3.ensures,
      c.unwrap_or-4.ensures,
      c.unwrap_or-5.ensures,
      c.unwrap_or-6.ensures,
      c.empty.ensures,
      c.unwrap_or-7.ensures,
      c.unwrap_or-8.ensures,
    ) refl

-- (what is said of the value is said of the result, since they are equal)
pub returns-clause-whole : goal.returns-clause-whole
returns-clause-whole c = subst (λ (file : DefFile). WholeDef file) (sym (returns-clause-value c)) (whole_file c.args.draft c.requires)

pub returns-clause-stated : goal.returns-clause-stated
returns-clause-stated c = subst (λ (file : DefFile). Stated file) (sym (returns-clause-value c)) (stated c.args.draft c.requires)
