use Rattle.std.proofs.Common.{◌∙◌, List, refl, ap}
use Rattle.lx_types.specs.declared.parts.Parts.{Parts}
use Rattle.lx_model.specs.Library.{module_of}
use Rattle.page_fix.specs.Fixable.{fixable_pages}
use Rattle.page_fix.specs.Rights.{marked_pages}
use Rattle.page_fix.proofs.Made.{rows_are_fixable}
use Rattle.page_fix.proofs.rights.Rights.make.Goals as goal

pub returns : goal.returns
returns c = (
  refl,
  ap marked_pages c.in_ok-rows.ensures ∙ rows_are_fixable c.module.result.now ∙ ap fixable_pages c.module.ensures
      ∙ ap (λ (lib : List Parts). fixable_pages (module_of lib c.args.m)) c.deref.ensures,
)
