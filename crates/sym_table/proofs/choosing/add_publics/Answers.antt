use Rattle.std.proofs.Common.{◌∙◌, ap, ℕ, List, Bool, false, not, bytes_eq}
use Rattle.std.specs.Prelude.{◌&&◌}
use Rattle.name_table.specs.Entries.{value_named, with_entry}
use Rattle.sym_table.proofs.LeaderTables.{more_entry, item_given, not_given}
use Rattle.sym_table.proofs.choosing.add_publics.Goals as goal
use Rattle.sym_table.proofs.choosing.add_publics.Goals.{then-not-public+in_ok-push, else-not-public}

-- src/choosing.rt:28:5
pub loop-public-preserved : goal.loop-public-preserved
loop-public-preserved c = λ name.
    let x = c.public-item.result in
    let table = c.loop-public.table in
    let v = c.args.value in
    elim c.if-not-public.branch [
      | then-not-public+in_ok-push w ↦
          item_given (λ p. not p.local && bytes_eq p.name name) c.args.publics.now c.loop-public.public-index x (value_named name c.args.table.now) (value_named name table) (value_named name c.if-not-public.table)
          (bytes_eq x.name name) v c.loop-public-test.true c.public-item.is (c.loop-public.invariant name)
          (ap (λ (t : List (List ℕ × ℕ)). value_named name t) (w.table-is ∙ w.in_ok-push.ensures.entries ∙ ap (λ (n : List ℕ). with_entry table n v) w.bytes.ensures.same) ∙ more_entry name x.name v table)
          (ap (λ (l : Bool). not l && bytes_eq x.name name) w.if-not-public.true)
      | else-not-public w ↦
          item_given (λ p. not p.local && bytes_eq p.name name) c.args.publics.now c.loop-public.public-index x (value_named name c.args.table.now) (value_named name table) (value_named name c.if-not-public.table)
          false v c.loop-public-test.true c.public-item.is (c.loop-public.invariant name)
          (ap (λ (t : List (List ℕ × ℕ)). value_named name t) w.table-is ∙ not_given (value_named name table) v)
          (ap (λ (l : Bool). not l && bytes_eq x.name name) w.if-not-public.false)
    ]
