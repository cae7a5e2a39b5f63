use Rattle.std.proofs.Common.{Ok, Err, ap, sym, ◌∙◌}
use Rattle.obj_types.specs.declared.parts.ObjParts.{ObjParts}
use Rattle.omf_names.specs.Comments.{comment_record}
use Rattle.omf_names.proofs.CommentRead.{after}
use Rattle.omf_names.proofs.GroupRead.{contents-are}
use Rattle.omf_names.proofs.comments.coment.Goals as goal

pub returns-in-Err : goal.returns-in-Err
returns-in-Err c =
    after c.args.rec.now c.requires.kind c.args.into.now c.of-fields.result (Err c.in-Err.refusal) (contents-are c.args.rec.now c.of-fields.result c.of-fields.ensures.place c.of-fields.ensures.bytes) c.in-Err.ensures.read

pub returns : goal.returns
returns c =
    after c.args.rec.now c.requires.kind c.args.into.now c.of-fields.result (Ok (comment_record c.in-Ok.comment)) (contents-are c.args.rec.now c.of-fields.result c.of-fields.ensures.place c.of-fields.ensures.bytes) c.in-Ok.ensures.read
    ∙ ap (λ (p : ObjParts). Ok p) (sym c.in_ok-add_comment.ensures)
