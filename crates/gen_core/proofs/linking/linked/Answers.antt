use Rattle.std.proofs.Common.{subst}
use Rattle.obj_types.specs.declared.input.LinkInput.{LinkInput}
use Rattle.link_core.specs.Links.{IsLinked, RefusesLink}
use Rattle.gen_core.proofs.Answered.{refused_with}
use Rattle.gen_core.proofs.Linked.{not_refused}
use Rattle.gen_core.proofs.linking.linked.Goals as goal

pub unreachable-requires : goal.unreachable-requires
unreachable-requires c =
    let refused = subst (λ (input : LinkInput). RefusesLink input c.in-Err-Said.field-0-0) c.in_ok-input.ensures (refused_with (IsLinked c.in_ok-input.input) (RefusesLink c.in_ok-input.input) c.in-Err-Said.field-0 c.in-Err-Said.field-0-0 c.in-Err-Said.field-0-is c.in-Err-Said.ensures.linked) in
    not_refused c.inputs_link.ensures c.args.k c.in-Err-Said.field-0-0 c.requires.first c.requires.last refused
