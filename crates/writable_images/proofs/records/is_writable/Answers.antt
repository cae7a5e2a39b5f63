use Rattle.std.proofs.Common.{◌≡◌, to_z, of_z, w32, subst, sym, rules}
use Rattle.std.proofs.lemmas.Int.{to_z-of_z}
use Rattle.std.specs.Prelude.{FitsSigned}
use Rattle.lx_model.specs.RecordSpelling.{OffsetFits}
use Rattle.writable_images.proofs.SourcesApart.{no_by}
use Rattle.writable_images.proofs.records.is_writable.Goals as goal

pub returns-then-not-offset_fits : goal.returns-then-not-offset_fits
returns-then-not-offset_fits c =
    let fits : FitsSigned w32 c.args.fix.now.offset = search rules in
    let same : to_z w32 (of_z w32 c.args.fix.now.offset) ≡ c.args.fix.now.offset = to_z-of_z w32 c.args.fix.now.offset fits in
    no_by c.offset_fits.result c.if-not-offset_fits.true (λ w. c.offset_fits.ensures.1 (subst (OffsetFits c.args.fix.now.source) (sym same) w.source))

pub returns-then-not-alias_fits : goal.returns-then-not-alias_fits
returns-then-not-alias_fits c = no_by c.alias_fits.result c.if-not-alias_fits.true (λ w. c.alias_fits.ensures.1 w.alias)

pub returns : goal.returns
returns c =
    let fits : FitsSigned w32 c.args.fix.now.offset = search rules in
    let same : to_z w32 (of_z w32 c.args.fix.now.offset) ≡ c.args.fix.now.offset = to_z-of_z w32 c.args.fix.now.offset fits in (
      λ yes. record {
        source = subst (OffsetFits c.args.fix.now.source) same (c.offset_fits.ensures.0 c.if-not-offset_fits.false);
        alias = c.alias_fits.ensures.0 c.if-not-alias_fits.false;
        target = c.numbers_fit.ensures.0 yes;
        additive = search rules;
      },
      λ w. c.numbers_fit.ensures.1 w.target,
    )
