use Rattle.proc_core.proofs.Words.{[], About, AllDealt, ap, arc_value, AreMade, BoardState, List, Parts, refl, rules, Some, subst, sym, ℕ, ◌∙◌, ◌≡◌}
use Rattle.proc_core.proofs.loader.Loader.make_with.Goals as goal

pub returns : goal.returns
returns c =
    let about : About = record { library = arc_value c.args.lib; failing = c.args.failing.items } in
    let shared : arc_value c.in_ok-try_clone.field-0 ≡ arc_value c.args.lib = search rules in
    let board : c.in_ok-board.board ≡ record { library = arc_value c.args.lib; failing = c.args.failing.items; history = []; keeper = c.in_ok-board.board.keeper } =
    c.in_ok-board.ensures ∙ ap (λ (l : List Parts). record { library = l; failing = c.args.failing.items; history = []; keeper = c.in_ok-board.board.keeper }) shared in
    let dealt : AllDealt c.in_ok-lock.lock (Some about) c.args.count c.in_ok-lock.passes.items =
    subst (λ (b : BoardState). AllDealt c.in_ok-lock.lock (Some (record { library = b.library; failing = b.failing })) c.args.count c.in_ok-lock.passes.items) board c.in_ok-lock.ensures in
    subst (λ (n : ℕ). AreMade c.in_ok-lock.lock about n c.in_ok-procs.procs.items) dealt.count
    (c.in_ok-procs.ensures about refl (subst (λ (n : ℕ). AllDealt c.in_ok-lock.lock (Some about) n c.in_ok-lock.passes.items) (sym dealt.count) dealt))
