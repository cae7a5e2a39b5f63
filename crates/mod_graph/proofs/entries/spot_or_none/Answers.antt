use Rattle.std.proofs.Common.{◌≡◌, suc, ◌∙◌, ap, sym, arith}
use Rattle.lx_model.specs.Entries.{Entry, followed, entry_or_none, entry_count}
use Rattle.mod_graph.proofs.entries.spot_or_none.Goals as goal

pub returns-in-Some : goal.returns-in-Some
unfolding Entry
returns-in-Some c =
    let count : c.args.places ≡ suc (entry_count c.args.mods.now) = omega (arith, c.requires.places) in
    c.spot_after.ensures ∙ ap (λ n. followed n c.args.mods.now c.in-Some.place) count ∙ ap (entry_or_none c.args.mods.now) (sym c.in-Some.is)
