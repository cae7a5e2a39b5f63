use Rattle.std.proofs.Common.{◌≡◌, ◌∙◌, sym, ap, rules, List, ℕ, true, false, bytes_eq, map, [], ◌∷◌, ◌++◌}
use Rattle.std.specs.List.{list_any}
use Rattle.name_table.specs.Entries.{with_entry}
use Rattle.link_model.specs.Appearance.{firsts}
use Rattle.link_fix.proofs.FirstTables.{Named, named, names-new, names-old, places-new}
use Rattle.link_fix.proofs.tables.FirstNames.push.Goals as goal

pub returns-in_ok-push-2 : goal.returns-in_ok-push-2
returns-in_ok-push-2 c = λ pushed are.
    let fs : List (List ℕ) = firsts bytes_eq pushed in
    let no : c.has.result ≡ false = search rules in
    let not_there : list_any (bytes_eq c.args.name) fs ≡ false = sym (c.has.ensures fs are) ∙ no in (
      c.in_ok-push-2.ensures ∙ ap (λ (ns : List (List ℕ)). ns ++ c.args.name ∷ []) are.0 ∙ names-new pushed c.args.name not_there,
      c.in_ok-push.ensures.entries
          ∙ ap (λ (t : List Named). with_entry t c.bytes.result.now tt) are.1
          ∙ ap (λ (n : List ℕ). with_entry (map named fs) n tt) c.bytes.ensures.same
          ∙ places-new fs c.args.name not_there ∙ ap (map named) (names-new pushed c.args.name not_there),
    )

pub returns-else-not-has : goal.returns-else-not-has
returns-else-not-has c = λ pushed are.
    let fs : List (List ℕ) = firsts bytes_eq pushed in
    let yes : c.has.result ≡ true = search rules in
    let there : list_any (bytes_eq c.args.name) fs ≡ true = sym (c.has.ensures fs are) ∙ yes in
    let old = names-old pushed c.args.name there in
    (are.0 ∙ old, are.1 ∙ ap (map named) old)
