use Rattle.std.proofs.Common.{rules, ◌∙◌}
use Rattle.omf_model.specs.ReadAfter.{contents_at}
use Rattle.omf_model.specs.ReadModule.{is_wide}
use Rattle.omf_model.specs.ReadFixups.{field_at}
use Rattle.omf_fix.proofs.Marked.{adds-more}
use Rattle.omf_fix.proofs.Fields.{one-more, after, refused, done, shrinks, gives-refusal}
use Rattle.omf_fix.proofs.fixupp.fixups_marked.Goals as goal

pub fields-smaller : goal.fields-smaller
fields-smaller c = shrinks (is_wide c.args.rec.now.ty) c.args.rec.now.at c.fields.into c.next_field.new.into c.fields.fields c.next_field.new.fields c.is_empty.ensures.bytes c.in_ok-next_field.ensures.added

pub fields-preserved : goal.fields-preserved
fields-preserved c = record {
  marks = adds-more c.next_field.new.marks c.fields.into c.next_field.new.into (field_at (is_wide c.args.rec.now.ty) c.fields.into c.args.rec.now.at c.fields.fields) c.next_field.new.fields c.in_ok-next_field.ensures.marks c.in_ok-next_field.ensures.added;
  read = one-more (is_wide c.args.rec.now.ty) c.args.rec.now.at c.in_ok-have.have (contents_at c.args.rec.now.at c.args.rec.now.body.now) c.fields.fields c.next_field.new.fields c.args.into.now c.fields.into c.next_field.new.into c.fields.invariant.read c.is_empty.ensures.bytes
      (λ none. let full = c.is_empty.ensures.empty.1 none in absurd cc) c.in_ok-next_field.ensures.added;
}

pub returns-in_err-next_field-clause-read : goal.returns-in_err-next_field-clause-read
returns-in_err-next_field-clause-read c =
    gives-refusal _ c.next_field.new.into c.next_field.result c.in_err-next_field.field-0.0 c.from_residual-in_err-next_field.result _ _ _ c.next_field.ensures.added c.in_err-next_field.was (search rules) λ g e.
    after c.args.rec.now c.requires.kind c.args.into.now
    ∙ refused (is_wide c.args.rec.now.ty) c.args.rec.now.at c.in_ok-have.have (contents_at c.args.rec.now.at c.args.rec.now.body.now) c.fields.fields c.args.into.now c.fields.into g c.fields.invariant.read c.is_empty.ensures.bytes
    (λ none. let full = c.is_empty.ensures.empty.1 none in absurd cc) e

pub returns-clause-read : goal.returns-clause-read
returns-clause-read c =
    after c.args.rec.now c.requires.kind c.args.into.now
    ∙ done (is_wide c.args.rec.now.ty) c.args.rec.now.at c.in_ok-have.have (contents_at c.args.rec.now.at c.args.rec.now.body.now) c.fields.fields c.args.into.now c.fields.into c.fields.invariant.read (c.is_empty.ensures.empty.0 c.fields-test.false)
