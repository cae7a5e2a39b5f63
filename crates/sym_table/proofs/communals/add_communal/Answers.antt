use Rattle.std.proofs.Common.{◌≡◌, ◌∙◌, ◌++◌, ◌∷◌, [], ap, sym, ℕ}
use Rattle.std.specs.List.{position_or_len}
use Rattle.obj_types.specs.declared.symbol.Common.{Common}
use Rattle.link_model.specs.declared.symbols.SymDef.{SymDef}
use Rattle.link_model.specs.declared.symbols.SymDef.TheVariants as means
use Rattle.name_table.specs.Entries.{is_named, with_entry}
use Rattle.sym_table.specs.Communals.{long_as}
use Rattle.sym_table.proofs.CommunalOnes.{new_slot, old_slot, slot_entry}
use Rattle.sym_table.proofs.communals.add_communal.Goals as goal

pub returns-in_ok-push : goal.returns-in_ok-push
returns-in_ok-push c =
    let x = c.args.comdef.now in
    let name = x.name.now in
    let list = c.args.communals.now.list in
    let slots = c.args.communals.now.slots in
    let common : ℕ → Common = λ n. record { far = x.common.far; len = n } in
    let both = new_slot name (long_as c.args.lens.now x) list c.push-then-place-slot.new.self slots c.in_ok-place.place c.requires
    (c.in_ok-place.ensures.place ∙ ap (λ n. position_or_len (is_named {V = SymDef} n) slots) c.bytes.ensures.same) (c.if-place-slot.true ∙ c.len-slot.ensures)
    (c.in_ok-push.ensures ∙ ap (λ n. list ++ (n, common c.len_in.result) ∷ []) c.in_ok-copied.ensures ∙ ap (λ k. list ++ (name, common k) ∷ []) c.len_in.ensures) in
    let entries : c.push.new.self ≡ slot_entry slots name =
    c.in_ok-place.ensures.entries
    ∙ ap (λ n. with_entry slots n (means.Common c.in_ok-count.field-0)) c.bytes.ensures.same
    ∙ ap (λ k. with_entry slots name (means.Common k)) (c.in_ok-count.ensures ∙ c.len-slot.ensures) in
    record { list = both.0; slots = entries ∙ both.1 }

pub returns-else-place-slot : goal.returns-else-place-slot
returns-else-place-slot c =
    let x = c.args.comdef.now in
    let name = x.name.now in
    let slots = c.args.communals.now.slots in
    let both = old_slot name (long_as c.args.lens.now x) c.args.communals.now.list slots c.in_ok-place.place c.requires
    (c.in_ok-place.ensures.place ∙ ap (λ n. position_or_len (is_named {V = SymDef} n) slots) c.bytes.ensures.same) (λ e. c.if-place-slot.false (e ∙ sym c.len-slot.ensures)) in
    let entries : c.push.new.self ≡ slot_entry slots name =
    c.in_ok-place.ensures.entries
    ∙ ap (λ n. with_entry slots n (means.Common c.in_ok-count.field-0)) c.bytes.ensures.same
    ∙ ap (λ k. with_entry slots name (means.Common k)) (c.in_ok-count.ensures ∙ c.len-slot.ensures) in
    record { list = both.0; slots = entries ∙ both.1 }
