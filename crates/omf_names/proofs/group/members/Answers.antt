use Rattle.std.proofs.Common.{ℕ, List, sym, ap, ◌∙◌}
use Rattle.omf_fields.proofs.ItemLaws.{onto-item, onto-refused, onto-done}
use Rattle.omf_fields.specs.Fields.{list_at}
use Rattle.omf_fields.specs.Onto.{onto}
use Rattle.omf_model.specs.ReadNames.{member_at}
use Rattle.omf_names.proofs.Takes.{member-takes}
use Rattle.omf_names.proofs.group.members.Goals as goal

pub returns-in-Err : goal.returns-in-Err
returns-in-Err c =
    sym c.members.invariant
    ∙ onto-refused (member_at c.args.flat c.args.before.now) (member-takes c.args.flat c.args.before.now) c.members.members c.members.fields c.in-Err.refusal c.is_empty.ensures.bytes
    (λ none. let full = c.is_empty.ensures.empty.1 none in absurd cc) c.in-Err.ensures

pub members-smaller : goal.members-smaller
members-smaller c = (member-takes c.args.flat c.args.before.now c.members.fields c.in-Ok.member c.member.new.fields c.is_empty.ensures.bytes c.in-Ok.ensures).0

pub members-preserved : goal.members-preserved
members-preserved c =
    ap (λ (xs : List ℕ). onto xs (list_at (member_at c.args.flat c.args.before.now) c.member.new.fields)) c.in_ok-push.ensures
    ∙ sym (onto-item (member_at c.args.flat c.args.before.now) (member-takes c.args.flat c.args.before.now) c.members.members c.members.fields c.in-Ok.member c.member.new.fields c.is_empty.ensures.bytes
    (λ none. let full = c.is_empty.ensures.empty.1 none in absurd cc) c.in-Ok.ensures)
    ∙ c.members.invariant

pub returns : goal.returns
returns c =
    sym c.members.invariant
    ∙ onto-done (member_at c.args.flat c.args.before.now) c.members.members c.members.fields (c.is_empty.ensures.empty.0 c.members-test.false)
