use Rattle.std.proofs.Common.{rules, ◌∙◌, sym}
use Rattle.page_fix.proofs.Spots.{no_spot_puts, spot_puts}
use Rattle.page_fix.proofs.fixing.Site.put_source.Goals as goal

pub returns-in_default : goal.returns-in_default
returns-in_default c = λ i below. no_spot_puts _ _ _ _ _ i _ c.in_default.field-0 (sym c.target.ensures ∙ c.in_default.is)

pub returns : goal.returns
returns c = λ i below.
    c.put.ensures i below
    ∙ spot_puts _ _ _ _ _ i _ c.in-Ok.spot c.bytes.result.now (sym c.target.ensures ∙ c.in-Ok.is) (c.bytes.ensures ∙ c.field_for-field.ensures ∙ search rules)
