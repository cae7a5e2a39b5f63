use Rattle.std.proofs.Common.{◌≡◌, ◌++◌, ap, ◌∙◌, map}
use Rattle.std.specs.Prelude.{filter_map}
use Rattle.load_model.specs.declared.deeds.Fresh.{Fresh}
use Rattle.load_model.specs.Entering.{init_of, main_of}
use Rattle.residence_table.specs.Residences.{residences}
use Rattle.residence_table.specs.Placing.{residences_with, state_with}
use Rattle.residence_table.proofs.EntryCalls.{entering_is}
use Rattle.residence_table.proofs.table.ResidenceTable.entering_calls.Goals as goal

pub returns : goal.returns
returns g c = λ e pid same is.
    let entering = c.args.entering.now in
    let first : c.push_inits.new.calls.items ≡ filter_map (init_of c.args.lib.now (state_with (residences_with c.args.self.now entering.fresh.now)) (map (λ (f : Fresh). f.«module») entering.fresh.now)) entering.joined.now =
    c.in_ok-push_inits.ensures
    ∙ ap (λ cs. cs ++ filter_map (init_of c.args.lib.now (state_with (residences_with c.args.self.now entering.fresh.now)) (map (λ (f : Fresh). f.«module») entering.fresh.now)) entering.joined.now) c.new-calls.ensures.items
    in
    c.from_vec.ensures ∙ c.in_ok-push_main.ensures
    ∙ ap (λ cs. cs ++ main_of c.args.lib.now (state_with (residences_with c.args.self.now entering.fresh.now)) entering.how entering.«module») first
    ∙ entering_is c.args.lib.now e pid entering.how entering.«module» entering.fresh.now (residences c.args.self.now) entering.joined.now same is.joined is.fresh
