use Rattle.std.proofs.Common.{ℕ, List, sym, subst}
use Rattle.session_model.specs.declared.sessions.ModLine.{ModLine}
use Rattle.session_model.specs.declared.sessions.ModLine.TheVariants.{Take}
use Rattle.session_files.specs.ModuleLines.{DoesLine}
use Rattle.session_files.proofs.Lines.{taken_line}
use Rattle.session_files.proofs.module_lines.module_given.Goals as goal

pub returns-in-Take-clause-done : goal.returns-in-Take-clause-done
returns-in-Take-clause-done g c =
    let e = c.read_module.ensures.read in
    let P : ModLine → Type 0 = λ l. DoesLine l (g.F.Files.state c.args.files.now) (g.F.Files.state c.read_module.new.files) c.read_module.result in
    let Q : List ℕ → Type 0 = λ f. P (Take f) in
    subst P (sym c.in-Take.is) (subst Q c.text_of.ensures (taken_line c.text_of.result.now e.0 _ _ c.read_module.result e.1 e.2))
