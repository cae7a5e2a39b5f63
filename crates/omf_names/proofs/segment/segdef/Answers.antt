use Rattle.std.proofs.Common.{ℕ, List, [], ◌∷◌, ◌++◌, sym, ap, ◌∙◌}
use Rattle.obj_types.specs.declared.object.Seg.{Seg}
use Rattle.omf_model.specs.Items.{seg_of}
use Rattle.omf_names.specs.Segments.{def_of}
use Rattle.omf_names.proofs.SegmentRead.{after, added}
use Rattle.omf_names.proofs.segment.segdef.Goals as goal

pub returns : goal.returns
returns c =
    after c.args.rec.now c.requires.kind c.args.into.now
    ∙ added c.args.into.now _ c.fields_of.result c.in_ok-fields.fields c.push.new.self c.fields_of.ensures.read (sym c.said.ensures ∙ c.in_ok-fields.was)
    (c.in_ok-push.ensures ∙ ap (λ (s : Seg). c.args.into.now.module.segs ++ s ∷ []) (c.in_ok-segment.ensures ∙ ap (λ (names : List (List ℕ)). seg_of names (def_of c.in_ok-fields.fields)) c.as_slice-2.ensures))
