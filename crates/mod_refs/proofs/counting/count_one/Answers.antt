-- A module that has a count now, or more of it, is attached once.
use Rattle.std.proofs.Common.{rules, ◌≡◌, ◌==◌, ◌++◌, ◌∷◌, [], cond, get_or, sym, subst}
use Rattle.mod_refs.specs.Counts.{AreAttached}
use Rattle.mod_refs.proofs.Counts.{attached_kept}
use Rattle.mod_refs.proofs.counting.count_one.Goals as goal

pub returns : goal.returns
returns c =
    let attached : c.if-deref-k-eq0.attached.items ≡ cond (get_or c.args.reached.now.items c.args.k 0 == 0) (c.args.attached.now.items ++ c.args.k ∷ []) c.args.attached.now.items = search rules in
    record {
      reached = c.add_one.ensures;
      attached = attached;
      kept = subst (λ counts. AreAttached counts c.if-deref-k-eq0.attached.items) (sym c.add_one.ensures)
          (attached_kept c.args.reached.now.items c.args.attached.now.items c.if-deref-k-eq0.attached.items c.args.k c.requires.within c.requires.attached attached);
    }
