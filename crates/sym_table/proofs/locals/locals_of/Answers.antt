use Rattle.std.proofs.Common.{◌∙◌, ap, sym, ℕ, List, Bool, Option, take, bytes_eq}
use Rattle.std.specs.Prelude.{◌&&◌}
use Rattle.std.specs.Option.{option_or}
use Rattle.sym_table.proofs.Conflicts.{or_none}
use Rattle.obj_types.specs.declared.symbol.PubPlace.{PubPlace}
use Rattle.name_table.specs.Entries.{value_named, with_entry}
use Rattle.sym_table.proofs.LeaderTables.{when, more_entry}
use Rattle.sym_table.proofs.LocalTables.{local_place, place-more}
use Rattle.sym_table.proofs.locals.locals_of.Goals as goal
use Rattle.sym_table.proofs.locals.locals_of.Goals.{then-public+in_ok-push, else-public}

pub loop-public-preserved : goal.loop-public-preserved
loop-public-preserved c = λ name.
    let x = c.public-item.result in
    let xs = c.args.publics.now in
    let i = c.loop-public.public-index in
    let table = c.loop-public.table in
    let more = place-more name xs i x c.loop-public-test.true c.public-item.is in
    let before = local_place name (take i xs) in
    elim c.if-public.branch [
      | then-public+in_ok-push w ↦
          ap (λ (t : List (List ℕ × PubPlace)). value_named name t) (w.table-is ∙ w.in_ok-push.ensures.entries ∙ ap (λ (n : List ℕ). with_entry table n x.place) w.bytes.ensures.same)
          ∙ more_entry name x.name x.place table
          ∙ ap (λ (o : Option PubPlace). option_or o (when (bytes_eq x.name name) x.place)) (c.loop-public.invariant name)
          ∙ sym (more ∙ ap (λ (b : Bool). option_or before (when (b && bytes_eq x.name name) x.place)) w.if-public.true)
      | else-public w ↦
          ap (λ (t : List (List ℕ × PubPlace)). value_named name t) w.table-is ∙ c.loop-public.invariant name ∙ or_none before
          ∙ sym (more ∙ ap (λ (b : Bool). option_or before (when (b && bytes_eq x.name name) x.place)) w.if-public.false)
    ]
