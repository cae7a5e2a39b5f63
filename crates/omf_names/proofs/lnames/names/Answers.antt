use Rattle.std.proofs.Common.{ℕ, List, [], ◌∷◌, ◌++◌, ap, ◌∙◌}
use Rattle.omf_names.proofs.NamesRead.{one-more, refused, done}
use Rattle.omf_names.proofs.lnames.names.Goals as goal

pub returns-in-Err : goal.returns-in-Err
returns-in-Err c =
    refused c.args.rec.now c.args.into.now c.names.into c.names.fields c.in-Err.refusal c.requires.kind c.names.invariant c.is_empty.ensures.bytes
    (λ none. let full = c.is_empty.ensures.empty.1 none in absurd cc) c.in-Err.ensures.read.0

pub names-preserved : goal.names-preserved
names-preserved c =
    one-more _ c.names.fields c.name.new.self c.args.into.now c.names.into c.in-Ok.bytes.now c.push.new.self c.names.invariant c.is_empty.ensures.bytes
    (λ none. let full = c.is_empty.ensures.empty.1 none in absurd cc) c.in-Ok.ensures.read
    (c.in_ok-push.ensures ∙ ap (λ (name : List ℕ). c.names.into.names ++ name ∷ []) c.in_ok-name.ensures)

pub returns : goal.returns
returns c = done c.args.rec.now c.args.into.now c.names.into c.names.fields c.requires.kind c.names.invariant (c.is_empty.ensures.empty.0 c.names-test.false)
