use Rattle.std.proofs.Common.{◌∙◌, ◌++◌, ◌∷◌, [], ap, sym, map, take, List, Option, ℕ}
use Rattle.std.proofs.lemmas.List.{map-append}
use Rattle.link_model.specs.declared.symbols.SymDef.{SymDef}
use Rattle.name_table.specs.Entries.{with_entry}
use Rattle.link_model.specs.Appearance.{firsts}
use Rattle.sym_table.specs.Definitions.{shown}
use Rattle.sym_table.specs.Firsts.{same_name}
use Rattle.sym_table.specs.Meanings.{defined_by}
use Rattle.sym_table.proofs.FirstOnes.{entry-push}
use Rattle.link_types.proofs.Lists.{map-more}
use Rattle.sym_table.proofs.meanings.defined_of.Goals as goal

pub loop-definition-preserved : goal.loop-definition-preserved
loop-definition-preserved c =
    let found = c.args.found.now in
    let i = c.loop-definition.definition-index in
    let d = c.definition-item.result in
    let by : List (List ℕ × Option SymDef) = map (defined_by c.args.imports.now.list) (map shown (take i found)) in
    c.in_ok-push.ensures.entries
    ∙ ap (λ t. with_entry t c.bytes.result.now c.in_ok-meaning.meaning) c.loop-definition.invariant
    ∙ ap (λ n. with_entry (firsts (same_name {V = Option SymDef}) by) n c.in_ok-meaning.meaning) c.bytes.ensures.same
    ∙ entry-push by d.name.now c.in_ok-meaning.meaning
    ∙ ap (λ v. firsts (same_name {V = Option SymDef}) (by ++ (d.name.now, v) ∷ [])) c.in_ok-meaning.ensures
    ∙ ap (firsts (same_name {V = Option SymDef})) (sym (ap (map (defined_by c.args.imports.now.list)) (map-more shown found i d c.loop-definition-test.true c.definition-item.is)
    ∙ map-append (defined_by c.args.imports.now.list) (map shown (take i found)) (shown d ∷ [])))
