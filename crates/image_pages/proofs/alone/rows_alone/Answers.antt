use Rattle.std.proofs.Common.{◌∙◌, ap, List, [], ◌∷◌, ◌++◌}
use Rattle.lx_types.specs.declared.parts.Parts.{Parts}
use Rattle.lx_model.specs.Gathering.{LibraryFault}
use Rattle.image_pages.proofs.OneModule.{alone_gathers}
use Rattle.image_pages.proofs.alone.rows_alone.Goals as goal

pub gather_faultless-requires-clause-accepted : goal.gather_faultless-requires-clause-accepted
gather_faultless-requires-clause-accepted c =
    ap LibraryFault (c.in_ok-push.ensures.items ∙ ap (λ (ms : List Parts). ms ++ c.args.«module» ∷ []) c.new-modules.ensures.items) ∙ alone_gathers c.args.«module»
