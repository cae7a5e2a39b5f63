use Rattle.std.proofs.Common.{ℕ, ◌^◌, ◌<◌, List, [], ◌∷◌, ◌++◌, length, arith, ap, ◌∙◌}
use Rattle.omf_data.proofs.Placed.{so_far, is_debug}
use Rattle.omf_data.proofs.Stay.{read-more}
use Rattle.omf_data.proofs.StraightRead.{dropped, kept}
use Rattle.omf_data.proofs.straight.ledata_marked.Goals as goal

pub see-requires-clause-limit : goal.see-requires-clause-limit
see-requires-clause-limit c = so_far c.args.into.now c.requires.begun

pub fields_of-requires-clause-limit : goal.fields_of-requires-clause-limit
fields_of-requires-clause-limit c = so_far c.args.into.now c.requires.begun

pub segment-requires-clause-some : goal.segment-requires-clause-some
segment-requires-clause-some c = c.in_ok-place.ensures.range.0

pub segment-requires-clause-there : goal.segment-requires-clause-there
segment-requires-clause-there c = c.in_ok-place.ensures.range.1

pub returns-then-segment-clause-read : goal.returns-then-segment-clause-read
returns-then-segment-clause-read c =
    let d = c.in_ok-place.field-0 in
    dropped c.args.rec.now c.args.into.now d c.requires.kind c.in_ok-place.ensures.read
    (is_debug c.args.into.now d.place.seg c.segment.result.now c.segment.ensures ∙ (cc))

pub overflow_cast-len : goal.overflow_cast-len
overflow_cast-len c =
    let d = c.in_ok-place.field-0 in
    let fits : length d.bytes.now < 2 ^ 32 = c.in_ok-place.ensures.fits (is_debug c.args.into.now d.place.seg c.segment.result.now c.segment.ensures ∙ (cc)) in
    omega (arith, fits)

pub returns-clause-read : goal.returns-clause-read
returns-clause-read c =
    let d = c.in_ok-place.field-0 in
    kept c.args.rec.now c.args.into.now d c.push.new.self c.requires.kind c.in_ok-place.ensures.read
    (is_debug c.args.into.now d.place.seg c.segment.result.now c.segment.ensures ∙ (cc))
    (c.in_ok-push.ensures ∙ ap (λ (bytes : List ℕ). c.args.into.now.module.pieces ++ record { seg = d.place.seg; offset = d.place.offset; bytes = bytes } ∷ []) (c.from_vec-bytes.ensures ∙ c.in_ok-from_slice.ensures.items))

pub returns-then-segment-clause-marks : goal.returns-then-segment-clause-marks
returns-then-segment-clause-marks c = read-more c.fields_of.new.marks c.args.into.now _ c.args.rec.now c.requires.begun (returns-then-segment-clause-read c) c.in_ok-place.ensures.marks.marks

pub returns-clause-marks : goal.returns-clause-marks
returns-clause-marks c = read-more c.fields_of.new.marks c.args.into.now _ c.args.rec.now c.requires.begun (returns-clause-read c) c.in_ok-place.ensures.marks.marks
