use Rattle.std.proofs.Common.{ℕ, List, [], ◌∷◌, ◌++◌, leb, ap, ◌∙◌}
use Rattle.std.specs.Prelude.{◌%◌, ◌==◌}
use Rattle.obj_types.specs.declared.symbol.PubPlace.{PubPlace}
use Rattle.omf_model.specs.Items.{pub_of}
use Rattle.omf_model.specs.ReadNames.{pub_at}
use Rattle.omf_names.specs.Symbols.{pub_def}
use Rattle.omf_names.proofs.ListRead.{one-more, refused, done}
use Rattle.omf_names.proofs.Takes.{pub-takes}
use Rattle.omf_names.proofs.GroupRead.{contents-are}
use Rattle.omf_names.proofs.PublicsRead.{pubs, with_pubs, pubs-in, after, based, base-refused}
use Rattle.omf_names.proofs.publics.pubdef.Goals as goal

pub returns-in-Err : goal.returns-in-Err
returns-in-Err c =
    after c.args.rec.now c.requires.kind c.args.into.now c.of-fields.result (contents-are c.args.rec.now c.of-fields.result c.of-fields.ensures.place c.of-fields.ensures.bytes)
    ∙ base-refused (leb 0xB6 c.args.rec.now.ty) (c.args.rec.now.ty % 2 == 1) c.args.into.now _ c.in-Err.refusal c.in-Err.ensures

pub returns-in-Err-public : goal.returns-in-Err-public
returns-in-Err-public c =
    after c.args.rec.now c.requires.kind c.args.into.now c.of-fields.result (contents-are c.args.rec.now c.of-fields.result c.of-fields.ensures.place c.of-fields.ensures.bytes)
    ∙ based (leb 0xB6 c.args.rec.now.ty) (c.args.rec.now.ty % 2 == 1) c.args.into.now _ c.in-Ok.seg c.base.new.fields c.in-Ok.ensures
    ∙ refused (pub_at (c.args.rec.now.ty % 2 == 1)) (pub_of (leb 0xB6 c.args.rec.now.ty) c.in-Ok.seg) pubs with_pubs (pub-takes (c.args.rec.now.ty % 2 == 1)) c.base.new.fields c.publics.fields c.args.into.now c.publics.into c.in-Err-public.refusal c.publics.invariant c.is_empty.ensures.bytes
    (λ none. let full = c.is_empty.ensures.empty.1 none in absurd cc) c.in-Err-public.ensures.read

pub publics-smaller : goal.publics-smaller
publics-smaller c = (pub-takes (c.args.rec.now.ty % 2 == 1) c.publics.fields (pub_def c.in-Ok-public.public) c.public.new.fields c.is_empty.ensures.bytes c.in-Ok-public.ensures.read).0

pub publics-preserved : goal.publics-preserved
publics-preserved c =
    one-more (pub_at (c.args.rec.now.ty % 2 == 1)) (pub_of (leb 0xB6 c.args.rec.now.ty) c.in-Ok.seg) pubs with_pubs (pub-takes (c.args.rec.now.ty % 2 == 1)) pubs-in c.base.new.fields c.publics.fields c.public.new.fields c.args.into.now c.publics.into (pub_def c.in-Ok-public.public) c.push.new.self c.publics.invariant c.is_empty.ensures.bytes
    (λ none. let full = c.is_empty.ensures.empty.1 none in absurd cc) c.in-Ok-public.ensures.read
    (c.in_ok-push.ensures
    ∙ ap (λ (name : List ℕ). c.publics.into.module.pubs ++ record { name = name; local = leb 0xB6 c.args.rec.now.ty; place = c.place.result } ∷ []) c.in_ok-name.ensures
    ∙ ap (λ (place : PubPlace). c.publics.into.module.pubs ++ record { name = c.in-Ok-public.public.name.now; local = leb 0xB6 c.args.rec.now.ty; place = place } ∷ []) c.place.ensures)

pub returns : goal.returns
returns c =
    after c.args.rec.now c.requires.kind c.args.into.now c.of-fields.result (contents-are c.args.rec.now c.of-fields.result c.of-fields.ensures.place c.of-fields.ensures.bytes)
    ∙ based (leb 0xB6 c.args.rec.now.ty) (c.args.rec.now.ty % 2 == 1) c.args.into.now _ c.in-Ok.seg c.base.new.fields c.in-Ok.ensures
    ∙ done (pub_at (c.args.rec.now.ty % 2 == 1)) (pub_of (leb 0xB6 c.args.rec.now.ty) c.in-Ok.seg) pubs with_pubs c.base.new.fields c.publics.fields c.args.into.now c.publics.into c.publics.invariant (c.is_empty.ensures.empty.0 c.publics-test.false)
