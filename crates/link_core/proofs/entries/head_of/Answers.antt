use Rattle.std.specs.Prelude.{◌≡◌, List, None, Some, length, refl, slice_get, option_and_then}
use Rattle.std.proofs.Common.{ap, subst, sym, ◌∙◌}
use Rattle.std.proofs.lemmas.Option.{slice_get_past, slice_get_read}
use Rattle.std.proofs.lemmas.Result.{IfOk-weaker}
use Rattle.obj_types.specs.declared.symbol.Imp.{Imp}
use Rattle.link_fix.specs.Shown.{target_shown}
use Rattle.link_core.specs.Exports.{forward_among, head_among}
use Rattle.link_core.proofs.entries.head_of.Goals as goal

pub returns-in-Internal : goal.returns-in-Internal
returns-in-Internal c = λ pairs are offsets. ap (λ target. head_among c.args.context.now.syms.now.imports pairs (target_shown target)) (sym c.in-Internal.is)

pub returns-in-Constant : goal.returns-in-Constant
returns-in-Constant c = λ pairs are offsets. ap (λ target. head_among c.args.context.now.syms.now.imports pairs (target_shown target)) (sym c.in-Constant.is)

pub returns-in-None : goal.returns-in-None
returns-in-None c = λ pairs are offsets.
    let imports = c.args.context.now.syms.now.imports in
    let past : slice_get imports c.in-Entry.slot ≡ None =
    subst (λ (xs : List Imp). slice_get xs c.in-Entry.slot ≡ None) c.imports.ensures (slice_get_past c.imports.result.now c.in-Entry.slot c.in-None.ensures.lookup.3) in
    sym (ap (λ target. head_among imports pairs (target_shown target)) c.in-Entry.is ∙ ap (option_and_then (forward_among pairs)) past)

pub returns-in-Some : goal.returns-in-Some
returns-in-Some c =
    let imports = c.args.context.now.syms.now.imports in
    let found = c.in-Some.ensures.lookup in
    let within : slice_get imports c.in-Entry.slot ≡ Some c.in-Some.pair.now =
    subst (λ (xs : List Imp). slice_get xs c.in-Entry.slot ≡ Some c.in-Some.pair.now) c.imports.ensures
    (slice_get_read c.imports.result.now (length c.imports.result.now) c.in-Entry.slot c.in-Some.pair.now refl found.3.0 found.1) in
    IfOk-weaker c.forward_of.result _ _
    (λ head made pairs are offsets.
    made pairs are offsets ∙ sym (ap (λ target. head_among imports pairs (target_shown target)) c.in-Entry.is ∙ ap (option_and_then (forward_among pairs)) within))
    c.forward_of.ensures
