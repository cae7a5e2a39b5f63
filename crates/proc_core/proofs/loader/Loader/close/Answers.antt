use Rattle.proc_core.proofs.Words.{AreAll, AreOf, IsHistoryOf, subst, sym, ◌∙◌, ◌∷◌, ◌≡◌}
use Rattle.proc_core.proofs.Histories.{headed, owns_of, history_of}
use Rattle.proc_core.proofs.loader.Loader.close.Goals as goal

pub gather-pass-requires : goal.gather-pass-requires
gather-pass-requires c =
    let is = headed c.args.procs.items c.remove-first.result c.remove-first.new.self.items c.requires.all.some c.remove-first.ensures.value c.remove-first.ensures.items in
    owns_of c.args.self c.remove-first.result c.remove-first.new.self.items (subst (AreOf c.args.self) is c.requires.loader) (subst AreAll is c.requires.all)

pub returns : goal.returns
returns c =
    let is = headed c.args.procs.items c.remove-first.result c.remove-first.new.self.items c.requires.all.some c.remove-first.ensures.value c.remove-first.ensures.items in
    let all : AreAll (c.remove-first.result ∷ c.remove-first.new.self.items) = subst AreAll is c.requires.all in
    let owns = owns_of c.args.self c.remove-first.result c.remove-first.new.self.items (subst (AreOf c.args.self) is c.requires.loader) all in
    let at = history_of c.args.self c.remove-first.result c.remove-first.new.self.items c.gather-pass.result.me.0 c.close-board.result.board owns all c.gather-pass.ensures.first c.gather-pass.ensures.joined
    c.into_history.ensures.legal c.close-board.ensures.seen c.close-board.ensures.own c.close-board.ensures.about in
    let said : c.of.result ≡ c.close-board.result.board.history = c.of.ensures ∙ c.into_history.ensures.history in
    subst (λ ps. IsHistoryOf ps c.of.result) (sym is) (subst (IsHistoryOf (c.remove-first.result ∷ c.remove-first.new.self.items)) (sym said) at)
