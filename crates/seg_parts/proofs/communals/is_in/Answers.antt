use Rattle.std.proofs.Common.{◌∙◌, ap, map}
use Rattle.std.specs.List.{list_any}
use Rattle.link_model.specs.Parts as rules
use Rattle.seg_parts.specs.contracts.logical_segments.SegmentNamePartialEq.TheImpl.{eq-value}
use Rattle.seg_parts.specs.LogicalSegments.{name_shown}
use Rattle.seg_parts.proofs.Names.{names-shown}
use Rattle.seg_parts.proofs.Tables.{any-shown}
use Rattle.seg_parts.proofs.communals.is_in.Goals as goal

pub returns : goal.returns
returns c =
    c.contains.ensures
    ∙ any-shown eq-value.it rules.same_segment name_shown names-shown c.name_of.result c.args.names.now.keys
    ∙ ap (λ k. list_any (rules.same_segment k) (map name_shown c.args.names.now.keys)) c.name_of.ensures
