use Rattle.std.proofs.Common.{◌++◌, List, ap, sym, ◌∙◌, subst, arith}
use Rattle.load_model.specs.State.{Residence}
use Rattle.load_model.specs.Entering.{ranges_of}
use Rattle.load_model.specs.ResidenceBases.{Stands}
use Rattle.residence_table.specs.Residences.{residences}
use Rattle.residence_table.specs.Placing.{AreResidencesOf}
use Rattle.residence_table.proofs.Placed.{stay_within, stay_stands, taken_more, taken_all}
use Rattle.residence_table.proofs.table.ResidenceTable.occupied.Goals as goal

pub take-requires-clause-module : goal.take-requires-clause-module
take-requires-clause-module g c =
    let Listed : List (Residence × g.row.T.Denot) → Type 0 = λ rows. AreResidencesOf c.args.lib.now (residences rows) in
    let within = stay_within c.args.lib.now c.rows-row-items.result.now (subst Listed (sym c.rows-row-items.ensures) c.requires) c.loop-row.row-index c.row-item.result
    c.row-item.is c.loop-row-test.true
    in
    omega (arith, within, c.module.ensures)

pub take-requires-clause-stands : goal.take-requires-clause-stands
take-requires-clause-stands g c =
    let Listed : List (Residence × g.row.T.Denot) → Type 0 = λ rows. AreResidencesOf c.args.lib.now (residences rows) in
    let stands = stay_stands c.args.lib.now c.rows-row-items.result.now (subst Listed (sym c.rows-row-items.ensures) c.requires) c.loop-row.row-index c.row-item.result
    c.row-item.is c.loop-row-test.true
    in
    subst (λ m. Stands c.args.lib.now m c.as_slice.result.now) (sym c.module.ensures) (subst (Stands c.args.lib.now c.row-item.result.0.«module») (sym (c.as_slice.ensures ∙ c.bases.ensures)) stands)

pub loop-row-preserved : goal.loop-row-preserved
loop-row-preserved g c =
    let Listed : List (Residence × g.row.T.Denot) → Type 0 = λ rows. AreResidencesOf c.args.lib.now (residences rows) in
    taken_more c.args.lib.now c.rows-row-items.result.now (subst Listed (sym c.rows-row-items.ensures) c.requires) c.loop-row.row-index c.row-item.result c.row-item.is c.loop-row-test.true
    c.loop-row.occupied _ c.loop-row.invariant
    (c.in_ok-take.ensures ∙ ap (λ ranges. c.loop-row.occupied ++ ranges)
    (ap (λ m. ranges_of c.args.lib.now m c.as_slice.result.now) c.module.ensures ∙ ap (ranges_of c.args.lib.now c.row-item.result.0.«module») (c.as_slice.ensures ∙ c.bases.ensures)))

pub returns : goal.returns
returns g c = λ e same.
    let Of : List (Residence × g.row.T.Denot) → List Residence = λ rows. residences rows in
    taken_all c.args.lib.now c.rows-row-items.result.now e c.loop-row.row-index c.loop-row.occupied (same ∙ ap Of (sym c.rows-row-items.ensures)) c.loop-row-test.false c.loop-row.invariant
