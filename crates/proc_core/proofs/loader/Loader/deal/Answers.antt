use Rattle.proc_core.proofs.Words.{◌+◌, ◌++◌, [], About, ap, arc_value, arith, get_or, IsNew, length, length_push, List, new_view, Parts, proc_state, ProcState, rules, subst, sym, YieldsList-from_vec, YieldsList-turn, ℕ, ◌∙◌, ◌∷◌}
use Rattle.proc_core.proofs.Words.{◌≡◌}
use Rattle.proc_core.proofs.Beginnings.{dealt_at, dealt_holds, dealt_new, each_more}
use Rattle.proc_core.proofs.loader.Loader.deal.Goals as goal

pub invariant_of-push : goal.invariant_of-push
invariant_of-push c =
    let turn = YieldsList-turn (YieldsList-from_vec {s = c.into_iter-pass-iterator.result} c.args.passes.items c.into_iter-pass-iterator.ensures.into_iter_gives.0 (c.into_iter-pass-iterator.ensures.into_iter_gives.1 ∙ c.args.passes.ok.0)) c.loop-pass.yielded c.loop-pass.pass-iterator c.loop-pass.yielded_by c.next.result c.next.new.self c.in-Some.pass c.in-Some.is c.next.ensures.steps in
    let about : About = c.requires.dealt.0 in
    let here = dealt_at c.args.self.now about (length c.args.passes.items) c.args.passes.items (length c.loop-pass.yielded) c.in-Some.pass c.requires.dealt.2 turn.0 turn.1 in
    let library = c.requires.dealt.1 in
    let shared : arc_value c.in_ok-try_clone.field-0 ≡ arc_value c.args.lib.now = search rules in
    let number : c.pid.result ≡ c.in-Some.pass.me.0.pid = search rules in
    let view : c.make-view.result ≡ new_view about.library c.in-Some.pass.me.0.pid =
    c.make-view.ensures ∙ (ap (λ (l : List Parts). new_view l c.pid.result) (shared ∙ sym library) ∙ ap (new_view about.library) number) in
    dealt_holds c.histories_grow.ensures.nothing c.views_stand.ensures.new c.args.self.now about (length c.args.passes.items) (length c.loop-pass.yielded) c.in-Some.pass c.make-view.result here (omega arith) view

pub loop-pass-preserved : goal.loop-pass-preserved
loop-pass-preserved c =
    let turn = YieldsList-turn (YieldsList-from_vec {s = c.into_iter-pass-iterator.result} c.args.passes.items c.into_iter-pass-iterator.ensures.into_iter_gives.0 (c.into_iter-pass-iterator.ensures.into_iter_gives.1 ∙ c.args.passes.ok.0)) c.loop-pass.yielded c.loop-pass.pass-iterator c.loop-pass.yielded_by c.next.result c.next.new.self c.in-Some.pass c.in-Some.is c.next.ensures.steps in
    let n : ℕ = length c.loop-pass.yielded in
    let all : ℕ = length c.args.passes.items in
    let last : ProcState = proc_state c.in-Some.pass c.make-view.result in
    let more : length (c.loop-pass.yielded ++ c.in-Some.pass ∷ []) ≡ n + 1 = length_push c.loop-pass.yielded c.in-Some.pass in
    let items : c.push.new.self.items ≡ c.loop-pass.procs.items ++ last ∷ [] = search rules in
    let count : length c.loop-pass.procs.items ≡ n = c.loop-pass.invariant.2 in (
      tt,
      tt,
      ap length items ∙ (length_push c.loop-pass.procs.items last ∙ (ap (λ (j : ℕ). j + 1) count ∙ sym more)),
      λ about library dealt k d inside.
          let here = dealt_at c.args.self.now about all c.args.passes.items n c.in-Some.pass dealt turn.0 turn.1 in
          let shared : arc_value c.in_ok-try_clone.field-0 ≡ arc_value c.args.lib.now = search rules in
          let number : c.pid.result ≡ c.in-Some.pass.me.0.pid = search rules in
          let view : c.make-view.result ≡ new_view about.library c.in-Some.pass.me.0.pid =
          c.make-view.ensures ∙ (ap (λ (l : List Parts). new_view l c.pid.result) (shared ∙ sym library) ∙ ap (new_view about.library) number) in
          subst (λ xs. IsNew c.args.self.now about all k (get_or xs k d)) (sym items)
          (each_more (IsNew c.args.self.now about all) c.loop-pass.procs.items last n count (c.loop-pass.invariant.3 about library dealt) (dealt_new c.args.self.now about all n c.in-Some.pass c.make-view.result here view) k d (omega (arith, more))),
    )
