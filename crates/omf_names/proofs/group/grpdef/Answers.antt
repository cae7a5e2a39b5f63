use Rattle.std.proofs.Common.{ℕ, List, [], ◌∷◌, ◌++◌, length, ap, ◌∙◌}
use Rattle.std.specs.Prelude.{bytes_eq, codes}
use Rattle.std.proofs.lemmas.Result.{err_from_is_err_and}
use Rattle.obj_types.specs.declared.object.Group.{Group}
use Rattle.omf_model.specs.Items.{name_with, group_of}
use Rattle.omf_names.proofs.GroupRead.{contents-are, after, refused, members-refused, added}
use Rattle.omf_names.proofs.group.grpdef.Goals as goal

pub returns-in-Err : goal.returns-in-Err
returns-in-Err c =
    after c.args.rec.now c.requires.kind c.args.into.now c.of-fields.result (contents-are c.args.rec.now c.of-fields.result c.of-fields.ensures.place c.of-fields.ensures.bytes)
    c.in_ok-names.names (c.in_ok-names.ensures ∙ ap (λ (ns : List (List ℕ)). length ns) c.as_slice.ensures)
    ∙ refused c.args.into.now _ c.in-Err.refusal c.in-Err.ensures.read.0

pub returns-in_err-members : goal.returns-in_err-members
returns-in_err-members c =
    let p = err_from_is_err_and c.from_residual-in_err-members.result c.from_residual-in_err-members.ensures.1 in
    let read =
    after c.args.rec.now c.requires.kind c.args.into.now c.of-fields.result (contents-are c.args.rec.now c.of-fields.result c.of-fields.ensures.place c.of-fields.ensures.bytes)
    c.in_ok-names.names (c.in_ok-names.ensures ∙ ap (λ (ns : List (List ℕ)). length ns) c.as_slice.ensures) in
    rw (p.1, p.2, read)
    (members-refused (λ m. m) (λ (u : Unit {0}). c.args.into.now) c.in_err-members.field-0.0 c.args.into.now _ c.in-Ok.index c.index_below.new.self c.is_flat.result c.in-Ok.ensures.read
    (c.is_flat.ensures ∙ ap (λ (name : List ℕ). bytes_eq name (codes "FLAT")) (c.text-name.ensures.name ∙ ap (λ (ns : List (List ℕ)). name_with ns c.in-Ok.index) c.as_slice-3.ensures))
    c.in_err-members.ensures)

pub returns : goal.returns
returns c =
    let named = c.text-name.ensures.name ∙ ap (λ (ns : List (List ℕ)). name_with ns c.in-Ok.index) c.as_slice-3.ensures in
    after c.args.rec.now c.requires.kind c.args.into.now c.of-fields.result (contents-are c.args.rec.now c.of-fields.result c.of-fields.ensures.place c.of-fields.ensures.bytes)
    c.in_ok-names.names (c.in_ok-names.ensures ∙ ap (λ (ns : List (List ℕ)). length ns) c.as_slice.ensures)
    ∙ added c.args.into.now _ c.in-Ok.index c.index_below.new.self c.is_flat.result c.in_ok-members.members c.push.new.self c.in-Ok.ensures.read
    (c.is_flat.ensures ∙ ap (λ (name : List ℕ). bytes_eq name (codes "FLAT")) named)
    c.in_ok-members.ensures
    (c.in_ok-push.ensures
    ∙ ap (λ (g : Group). c.args.into.now.module.groups ++ g ∷ []) c.in_ok-group.ensures
    ∙ ap (λ (name : List ℕ). c.args.into.now.module.groups ++ group_of name c.in_ok-members.members ∷ []) named)
