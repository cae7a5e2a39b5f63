use Rattle.std.proofs.Common.{ℕ, List, sym, subst}
use Rattle.omf_model.specs.Library.{Lib}
use Rattle.omf_write.proofs.LibraryRead.{library_read}
use Rattle.omf_write.proofs.Mapped.{answer_follows}
use Rattle.omf_write.proofs.libraries.library.Goals as goal

pub returns-clause-read : goal.returns-clause-read
returns-clause-read c = λ ms are.
    answer_follows _ (λ bytes. Lib bytes.items ms) _ c.written.result (λ bytes said. subst (λ (x : List ℕ). Lib x ms) (sym said.0) (library_read c.args.modules.now ms are)) c.written.ensures
