use Rattle.proc_core.proofs.Words.{◌+◌, ◌<◌, About, ap, arith, common_steps, Entry, get_or, Holds, IsPrefix, Joined, joining, Known, length, ProcState, refl, rules, subst, sym, ℕ, ◌∙◌, ◌≡◌}
use Rattle.proc_core.proofs.Endings.{joined_start, joined_more}
use Rattle.proc_core.proofs.loader.Loader.gather.Goals as goal

pub loop-last-init : goal.loop-last-init
loop-last-init c =
    let holds : Holds c.args.first = subst Holds c.first.view_is c.first.invariant.1 in
    let start = joined_start c.args.self.now c.args.first c.args.rest.items c.requires holds in (
      subst (λ (v : Known Entry About). Joined c.args.first c.args.rest.items (length c.args.rest.items) v) (ap (λ (s : ProcState). s.known) (sym c.first.view_is)) start,
      c.first.invariant.0,
      ap (λ (s : ProcState). s.lock) c.first.view_is ∙ c.requires.lock_is,
      omega arith,
      λ k d inside. refl,
    )

pub loop-last-preserved : goal.loop-last-preserved
loop-last-preserved c =
    let joined = ap (λ m. m.0) c.join.ensures.joined in
    let inv = c.loop-last.invariant in
    let n : ℕ = length c.pop.new.self.items in
    let up : length c.loop-last.rest.items ≡ n + 1 = grind (arith, common_steps) in
    let most = inv.3 in
    let holds : Holds c.in-Some.last = subst Holds c.last.view_is c.last.invariant.1 in
    let here : (d : ProcState) → get_or c.args.rest.items n d ≡ c.in-Some.last = λ d. sym (inv.4 n d (omega arith)) ∙ grind (arith, common_steps) in
    let pid = (c.requires.others n c.in-Some.last (omega arith)).1 in
    let w : Known Entry About = c.in-Some.last.known in
    let v : Known Entry About = c.loop-last.into.me.0 in
    let known : c.last.inside.pass.me.0 ≡ w = ap (λ (s : ProcState). s.known) c.last.view_is in
    let end : c.join.new.into.me.0 ≡ joining v w = ap (λ m. m.0) c.join.ensures.joined ∙ ap (joining v) known in
    let left : IsPrefix v.seen (joining v w).seen = subst (λ (u : Known Entry About). IsPrefix v.seen u.seen) end c.join.ensures.begin.0 in
    let right : IsPrefix w.seen (joining v w).seen =
    subst (λ (u : Known Entry About). IsPrefix u.seen (joining v w).seen) known (subst (λ (u : Known Entry About). IsPrefix c.last.inside.pass.me.0.seen u.seen) end c.join.ensures.begin.1) in
    let number : w.pid ≡ n + 2 = ap (λ (s : ProcState). s.known.pid) (sym (here c.in-Some.last)) ∙ pid in
    let more = joined_more c.args.first c.args.rest.items n (length c.loop-last.rest.items) v c.in-Some.last up (omega arith) inv.0 holds here number left right in
    let idle = c.join.ensures.joined in
    let same : (k : ℕ) (d : ProcState) → k < n → get_or c.pop.new.self.items k d ≡ get_or c.args.rest.items k d = λ k d lt. grind (arith, common_steps) ∙ inv.4 k d (omega arith) in
    (subst (Joined c.args.first c.args.rest.items n) (sym end) more, search rules, c.join.ensures.lock ∙ inv.2, omega arith, same)
