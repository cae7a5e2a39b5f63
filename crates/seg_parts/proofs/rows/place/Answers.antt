use Rattle.std.proofs.Common.{◌≡◌, ◌∙◌, ◌<◌, ◌≤◌, ap, sym, subst, arith}
use Rattle.link_model.specs.declared.limits.TheConstants.{MAX_MEMORY}
use Rattle.link_model.specs.LayoutRefusals.{object_limit}
use Rattle.link_model.specs.Rows.{Row}
use Rattle.seg_parts.specs.Parts.{shown}
use Rattle.seg_parts.specs.Rows.{row_later}
use Rattle.seg_parts.specs.Placing.{unplaced_shown, span_shown}
use Rattle.seg_parts.proofs.EndSums.{row-found, ends-after, past-end, past-memory, within-limits}
use Rattle.seg_parts.proofs.rows.place.Goals as goal

pub returns-in-None : goal.returns-in-None
returns-in-None c = λ count rows are.
    past-end rows (row_later rows (unplaced_shown c.args.unit.now))
    (subst (λ (r : Row). object_limit (shown c.args.unit.now.head) < r.end) (row-found count rows c.args.unit.now c.args.ends.now c.index.result.now are c.requires.object c.index.ensures) c.in-None.ensures.past)

pub returns-then-ends-from : goal.returns-then-ends-from
returns-then-ends-from c = λ count rows are.
    let r : Row = row_later rows (unplaced_shown c.args.unit.now) in
    let same : span_shown c.args.unit.now (c.in-Some.start, c.in-Some.end) ≡ r = c.in-Some.ensures.stands.0 ∙ row-found count rows c.args.unit.now c.args.ends.now c.index.result.now are c.requires.object c.index.ensures in
    let end : r.end ≡ c.in-Some.end = ap (λ (q : Row). q.end) (sym same) in
    let after = ends-after count rows c.args.unit.now c.args.ends.now c.add.new.self c.in-Some.end are c.requires.object end c.add.ensures in
    past-memory rows r (omega (arith, after.total, c.if-ends-from.true, c.from.ensures))

pub returns-else-unit : goal.returns-else-unit
returns-else-unit c = λ count rows are.
    let r : Row = row_later rows (unplaced_shown c.args.unit.now) in
    let same : span_shown c.args.unit.now (c.in-Some.start, c.in-Some.end) ≡ r = c.in-Some.ensures.stands.0 ∙ row-found count rows c.args.unit.now c.args.ends.now c.index.result.now are c.requires.object c.index.ensures in
    let end : r.end ≡ c.in-Some.end = ap (λ (q : Row). q.end) (sym same) in
    let after = ends-after count rows c.args.unit.now c.args.ends.now c.add.new.self c.in-Some.end are c.requires.object end c.add.ensures in
    let within : c.add.new.self.sum ≤ MAX_MEMORY = omega (arith, c.if-ends-from.false, c.from.ensures) in (
      same,
      within-limits rows r (omega (arith, end, c.in-Some.ensures.stands.1)) (omega (arith, after.total, within)) (omega (arith, c.if-unit.false)),
      after,
      within,
    )
