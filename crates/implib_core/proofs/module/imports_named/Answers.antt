use Rattle.std.proofs.Common.{◌≡◌, ◌∙◌, ap, sym, subst, List, map}
use Rattle.std.specs.List.{flat_map}
use Rattle.lx_types.proofs.Options.{ok_weaker}
use Rattle.implib_model.specs.ModuleImports.{Named, import_named, imports_named}
use Rattle.omf_write.specs.Lent.{imports_of}
use Rattle.implib_core.specs.NamePlaces.{name_at, places_in, places_from, ArePlaces}
use Rattle.implib_core.proofs.NamePlaces.{Entries, ordered_are, same_order, imports_are}
use Rattle.implib_core.proofs.module.imports_named.Goals as goal

pub imports_at-requires-clause-places : goal.imports_at-requires-clause-places
imports_at-requires-clause-places c =
    let m = c.args.m.now in
    let named = c.read_modules_are_whole.ensures.named m c.requires in
    let order : c.deref.result.now ≡ flat_map (λ e. places_from e.0 0 m.names) m.entries =
    c.deref.ensures.value ∙ c.in_ok-order.ensures ∙ ap (λ (es : Entries). flat_map (λ e. places_in c.in_ok-places.places e.0) es) c.entries.ensures
    ∙ same_order c.in_ok-places.places m.names m.entries (λ o. c.in_ok-places.ensures o ∙ ap (places_from o 0) c.names-names.ensures) in
    subst (λ (ns : List Named). ArePlaces ns c.deref.result.now) (sym c.names-names.ensures)
    (subst (ArePlaces m.names) (sym order) (ordered_are m.names m.entries named.1))

pub returns-clause-are : goal.returns-clause-are
returns-clause-are c =
    let m = c.args.m.now in
    let order : c.deref.result.now ≡ flat_map (λ e. places_from e.0 0 m.names) m.entries =
    c.deref.ensures.value ∙ c.in_ok-order.ensures ∙ ap (λ (es : Entries). flat_map (λ e. places_in c.in_ok-places.places e.0) es) c.entries.ensures
    ∙ same_order c.in_ok-places.places m.names m.entries (λ o. c.in_ok-places.ensures o ∙ ap (places_from o 0) c.names-names.ensures) in
    ok_weaker
    (λ imports. imports_of imports.items ≡ map (λ p. import_named c.name.result.now (name_at c.names-names.result.now p)) c.deref.result.now)
    (λ imports. imports_of imports.items ≡ imports_named m)
    c.imports_at.result
    (λ imports are. are ∙ ap (λ (ns : List Named). map (λ p. import_named c.name.result.now (name_at ns p)) c.deref.result.now) c.names-names.ensures
    ∙ imports_are m c.name.result.now c.deref.result.now c.name.ensures order)
    c.imports_at.ensures.are
