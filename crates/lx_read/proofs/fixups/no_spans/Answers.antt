use Rattle.std.proofs.Common.{◌+◌, None, refl, subst, sym, List, ℕ}
use Rattle.lx_read.proofs.TableLoop.{Kept, kept_more}
use Rattle.lx_read.proofs.fixups.no_spans.Goals as goal

pub loop-preserved : goal.loop-preserved
loop-preserved c =
    subst (λ (spans : List (ℕ × ℕ)). Kept (λ _. None) (λ _. (0, 0)) c.args.pages (c.loop.counter + 1) spans) (sym c.in_ok-push.ensures)
    (kept_more (λ _. None) (λ _. (0, 0)) c.args.pages c.loop.counter c.loop.spans c.loop-test.true refl c.loop.invariant)
