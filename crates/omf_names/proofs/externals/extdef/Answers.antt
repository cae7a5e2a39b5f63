use Rattle.std.proofs.Common.{ℕ, List, [], ◌∷◌, ◌++◌, eqb, not, None, ap, ◌∙◌}
use Rattle.omf_model.specs.Items.{ext_of}
use Rattle.omf_model.specs.ReadNames.{ext_at}
use Rattle.omf_names.specs.Symbols.{ext_named}
use Rattle.omf_names.proofs.ListRead.{one-more, refused, done}
use Rattle.omf_names.proofs.Takes.{ext-takes}
use Rattle.omf_names.proofs.ExternalsRead.{exts, with_exts, exts-in, after}
use Rattle.omf_names.proofs.externals.extdef.Goals as goal

pub returns-in-Err : goal.returns-in-Err
returns-in-Err c =
    after c.args.rec.now c.requires.kind c.args.into.now
    ∙ refused ext_at (ext_of (not (eqb c.args.rec.now.ty 0x8C))) exts with_exts ext-takes _ c.externals.fields c.args.into.now c.externals.into c.in-Err.refusal c.externals.invariant c.is_empty.ensures.bytes
    (λ none. let full = c.is_empty.ensures.empty.1 none in absurd cc) c.in-Err.ensures.read

pub externals-smaller : goal.externals-smaller
externals-smaller c = (ext-takes c.externals.fields (ext_named c.in-Ok.name.now) c.external.new.fields c.is_empty.ensures.bytes c.in-Ok.ensures.read).0

pub externals-preserved : goal.externals-preserved
externals-preserved c =
    one-more ext_at (ext_of (not (eqb c.args.rec.now.ty 0x8C))) exts with_exts ext-takes exts-in _ c.externals.fields c.external.new.fields c.args.into.now c.externals.into (ext_named c.in-Ok.name.now) c.push.new.self c.externals.invariant c.is_empty.ensures.bytes
    (λ none. let full = c.is_empty.ensures.empty.1 none in absurd cc) c.in-Ok.ensures.read
    (c.in_ok-push.ensures ∙ ap (λ (name : List ℕ). c.externals.into.module.exts ++ record { name = name; local = not (eqb c.args.rec.now.ty 0x8C); common = None } ∷ []) c.in_ok-name.ensures)

pub returns : goal.returns
returns c =
    after c.args.rec.now c.requires.kind c.args.into.now
    ∙ done ext_at (ext_of (not (eqb c.args.rec.now.ty 0x8C))) exts with_exts _ c.externals.fields c.args.into.now c.externals.into c.externals.invariant (c.is_empty.ensures.empty.0 c.externals-test.false)
