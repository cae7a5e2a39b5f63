use Rattle.std.proofs.Common.{ℕ, List, [], ◌∷◌, ◌++◌, ap, ◌∙◌, sym}
use Rattle.omf_fields.proofs.SpanLaws.{ok_is}
use Rattle.omf_model.specs.Blocks.{expanded}
use Rattle.omf_model.specs.ReadBlocks.{blocks_in}
use Rattle.omf_data.proofs.Stay.{read-more}
use Rattle.omf_data.proofs.Placed.{so_far, is_debug}
use Rattle.omf_data.proofs.IteratedRead.{dropped, kept}
use Rattle.omf_data.proofs.iterated.lidata_marked.Goals as goal

pub see-requires-clause-limit : goal.see-requires-clause-limit
see-requires-clause-limit c = so_far c.args.into.now c.requires.begun

pub fields_of-requires-clause-limit : goal.fields_of-requires-clause-limit
fields_of-requires-clause-limit c = so_far c.args.into.now c.requires.begun

pub returns-then-segment-clause-read : goal.returns-then-segment-clause-read
returns-then-segment-clause-read c =
    let d = c.in_ok-fields.fields in
    dropped c.args.rec.now c.args.into.now d c.requires.kind c.in_ok-fields.ensures.read
    (is_debug c.args.into.now d.place.seg c.segment.result.now c.segment.ensures ∙ (cc))

pub returns-clause-read : goal.returns-clause-read
returns-clause-read c =
    let d = c.in_ok-fields.fields in
    let bytes = c.from_vec-bytes.ensures ∙ sym (ok_is (expanded (blocks_in d.wide d.body.now)) c.in_ok-data.data.items c.in_ok-data.ensures) in
    kept c.args.rec.now c.args.into.now d c.push.new.self c.from_vec-body.result c.requires.kind c.in_ok-fields.ensures.read
    (is_debug c.args.into.now d.place.seg c.segment.result.now c.segment.ensures ∙ (cc))
    (c.in_ok-push.ensures ∙ ap (λ (bytes : List ℕ). c.args.into.now.module.pieces ++ record { seg = d.place.seg; offset = d.place.offset; bytes = bytes } ∷ []) bytes)
    (c.from_vec-body.ensures ∙ c.in_ok-from_slice.ensures.items ∙ c.in_ok-fields.ensures.spelled.spelled)

pub returns-then-segment-clause-marks : goal.returns-then-segment-clause-marks
returns-then-segment-clause-marks c = read-more c.fields_of.new.marks c.args.into.now _ c.args.rec.now c.requires.begun (returns-then-segment-clause-read c) c.in_ok-fields.ensures.marks.marks

pub returns-clause-marks : goal.returns-clause-marks
returns-clause-marks c = read-more c.fields_of.new.marks c.args.into.now _ c.args.rec.now c.requires.begun (returns-clause-read c) c.in_ok-fields.ensures.marks.marks
