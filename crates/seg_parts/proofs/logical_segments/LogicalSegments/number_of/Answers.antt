use Rattle.std.proofs.Common.{◌∙◌, ap, position}
use Rattle.link_model.specs.Parts as rules
use Rattle.seg_parts.specs.contracts.logical_segments.SegmentNamePartialEq.TheImpl.{eq-value}
use Rattle.seg_parts.specs.LogicalSegments.{name_shown, segment_keys_of}
use Rattle.seg_parts.proofs.Names.{names-shown}
use Rattle.seg_parts.proofs.Tables.{position-shown}
use Rattle.seg_parts.proofs.logical_segments.LogicalSegments.number_of.Goals as goal

pub returns : goal.returns
returns c =
    let k = c.get_index_of.ensures.index in
    let v = c.self.view_is in
    let i = c.self.invariant.names_are in
    c.get_index_of.ensures.index
    ∙ position-shown eq-value.it rules.same_segment name_shown names-shown c.args.name c.self.inside.numbering.names.keys
    ∙ ap (position (rules.same_segment (name_shown c.args.name))) (c.self.invariant.names_are ∙ ap segment_keys_of c.self.view_is)
