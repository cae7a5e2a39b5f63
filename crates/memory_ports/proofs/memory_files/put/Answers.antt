use Rattle.std.proofs.Common.{◌≡◌, ◌∙◌, ap, Some, None, rules}
use Rattle.std.specs.List.{position}
use Rattle.memory_ports.specs.Names.{Entry, is_named}
use Rattle.memory_ports.proofs.Entries.{held-set, held-set_other, held-push, held-push_other, own_name, place_named}
use Rattle.memory_ports.proofs.memory_files.put.Goals as goal

pub returns-in-Some-clause-saved : goal.returns-in-Some-clause-saved
returns-in-Some-clause-saved c =
    let entries = c.args.entries.now.items in
    let name = c.args.name.now in
    let found : position (is_named name) entries ≡ Some c.in-Some.place = cc in
    let copied : c.in_ok-copy.copy.items ≡ c.args.bytes.now = search rules in
    held-set name entries c.in-Some.place (c.index_mut.result.now.0, c.in_ok-copy.copy) found
    (place_named name entries c.in-Some.place c.index_mut.result.now found c.index_mut.ensures.value)
    ∙ ap Some copied

pub returns-in-Some-clause-others : goal.returns-in-Some-clause-others
returns-in-Some-clause-others c =
    let entries = c.args.entries.now.items in
    let name = c.args.name.now in
    let found : position (is_named name) entries ≡ Some c.in-Some.place = cc in
    λ other. held-set_other name other entries c.in-Some.place (c.index_mut.result.now.0, c.in_ok-copy.copy) c.index_mut.result.now found
    (place_named name entries c.in-Some.place c.index_mut.result.now found c.index_mut.ensures.value)

pub returns-in_ok-push-in-None-clause-saved : goal.returns-in_ok-push-in-None-clause-saved
returns-in_ok-push-in-None-clause-saved c =
    let entries = c.args.entries.now.items in
    let name = c.args.name.now in
    let entry : Entry = (c.in_ok-to_string-in-None.field-0, c.in_ok-copy.copy) in
    let none : position (is_named name) entries ≡ None = cc in
    let copied : c.in_ok-copy.copy.items ≡ c.args.bytes.now = search rules in
    rw c.in_ok-push-in-None.ensures.items (held-push name entries entry none (own_name name entry c.in_ok-to_string-in-None.ensures.ok) ∙ ap Some copied)

pub returns-in_ok-push-in-None-clause-others : goal.returns-in_ok-push-in-None-clause-others
returns-in_ok-push-in-None-clause-others c =
    let entries = c.args.entries.now.items in
    let name = c.args.name.now in
    let entry : Entry = (c.in_ok-to_string-in-None.field-0, c.in_ok-copy.copy) in
    rw c.in_ok-push-in-None.ensures.items (λ other. held-push_other name other entries entry (own_name name entry c.in_ok-to_string-in-None.ensures.ok))
