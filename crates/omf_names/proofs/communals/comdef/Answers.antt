use Rattle.std.proofs.Common.{ℕ, List, [], ◌∷◌, ◌++◌, false, Some, ap, ◌∙◌}
use Rattle.obj_types.specs.declared.symbol.Common.{Common}
use Rattle.omf_model.specs.Items.{com_of}
use Rattle.omf_model.specs.ReadNames.{com_at}
use Rattle.omf_names.specs.Symbols.{com_def}
use Rattle.omf_names.proofs.ListRead.{one-more, refused, done}
use Rattle.omf_names.proofs.Takes.{com-takes}
use Rattle.omf_names.proofs.ExternalsRead.{exts, with_exts, exts-in, after-communals}
use Rattle.omf_names.proofs.communals.comdef.Goals as goal

pub returns-in-Err : goal.returns-in-Err
returns-in-Err c =
    after-communals c.args.rec.now c.requires.kind c.args.into.now
    ∙ refused com_at com_of exts with_exts com-takes _ c.communals.fields c.args.into.now c.communals.into c.in-Err.refusal c.communals.invariant c.is_empty.ensures.bytes
    (λ none. let full = c.is_empty.ensures.empty.1 none in absurd cc) c.in-Err.ensures.read

pub communals-smaller : goal.communals-smaller
communals-smaller c = (com-takes c.communals.fields (com_def c.in-Ok.communal) c.communal_name.new.fields c.is_empty.ensures.bytes c.in-Ok.ensures.read).0

pub communals-preserved : goal.communals-preserved
communals-preserved c =
    one-more com_at com_of exts with_exts com-takes exts-in _ c.communals.fields c.communal_name.new.fields c.args.into.now c.communals.into (com_def c.in-Ok.communal) c.push.new.self c.communals.invariant c.is_empty.ensures.bytes
    (λ none. let full = c.is_empty.ensures.empty.1 none in absurd cc) c.in-Ok.ensures.read
    (c.in_ok-push.ensures
    ∙ ap (λ (name : List ℕ). c.communals.into.module.exts ++ record { name = name; local = false; common = Some c.common.result } ∷ []) c.in_ok-name.ensures
    ∙ ap (λ (kept : Common). c.communals.into.module.exts ++ record { name = c.in-Ok.communal.name.now; local = false; common = Some kept } ∷ []) c.common.ensures)

pub returns : goal.returns
returns c =
    after-communals c.args.rec.now c.requires.kind c.args.into.now
    ∙ done com_at com_of exts with_exts _ c.communals.fields c.args.into.now c.communals.into c.communals.invariant (c.is_empty.ensures.empty.0 c.communals-test.false)
