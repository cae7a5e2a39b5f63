use Rattle.std.proofs.Common.{Ok, subst, sym}
use Rattle.answer_model.specs.Words.{gen}
use Rattle.answer_model.specs.declared.said.Said.{Said}
use Rattle.file_commands.specs.Doing.{Does}
use Rattle.lx_tool.proofs.Generated.{gen_done}
use Rattle.lx_tool.proofs.tool.generated.Goals as goal

pub returns-in-Ok : goal.returns-in-Ok
returns-in-Ok g c =
    let P : Said → Type 0 = λ said. Does (gen c.args.count c.args.prefix.now) (g.F.Files.state c.args.files.now) (g.F.Files.state c.generate.new.files) (Ok said) in
    subst P (sym c.made_told.ensures) (gen_done _ _ _ _ (Ok c.in-Ok.made.said) c.in-Ok.ensures.does)

pub returns-in-Err : goal.returns-in-Err
returns-in-Err g c = gen_done _ _ _ _ _ c.in-Err.ensures.does
