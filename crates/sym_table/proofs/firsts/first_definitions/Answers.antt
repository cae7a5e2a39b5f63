use Rattle.std.proofs.Common.{◌≡◌, ◌∙◌, ap, sym, Some, None, map, take, List, ℕ}
use Rattle.name_table.specs.Entries.{value_named, with_entry}
use Rattle.sym_table.specs.declared.definitions.Definition.{Definition}
use Rattle.sym_table.specs.Definitions.{shown, twice_among}
use Rattle.sym_table.specs.Firsts.{firsts_of, second_in}
use Rattle.lx_types.proofs.Failing.{handed_on}
use Rattle.sym_table.proofs.FirstOnes.{first_more, no_second, not_late, first_second}
use Rattle.sym_table.proofs.firsts.first_definitions.Goals as goal

pub returns-in-Err : goal.returns-in-Err
returns-in-Err c =
    let d = c.definition-item.result in
    let found = c.args.found.now in
    let table = c.loop-definition.table in
    handed_on c.in-Err.fail
    (λ (_ : Unit {0}). (c.add_definition.new.table ≡ with_entry table d.name.now d) × (second_in table d ≡ None))
    (λ (t : List (List ℕ × Definition)). (t ≡ firsts_of found) × (twice_among (map shown found) ≡ None))
    (λ refusal. second_in table d ≡ Some refusal)
    (λ refusal. twice_among (map shown found) ≡ Some refusal)
    (λ refusal h. first_second found c.loop-definition.definition-index d refusal c.loop-definition-test.true c.definition-item.is c.loop-definition.invariant.1
    (ap (λ t. second_in t d) (sym c.loop-definition.invariant.0) ∙ h))
    c.in-Err.ensures

pub loop-definition-preserved : goal.loop-definition-preserved
loop-definition-preserved c =
    let d = c.definition-item.result in
    let found = c.args.found.now in
    let i = c.loop-definition.definition-index in
    let same = c.loop-definition.invariant.0 in (
      c.in-Ok.ensures.0 ∙ ap (λ t. with_entry t d.name.now d) same ∙ first_more found i d c.loop-definition-test.true c.definition-item.is,
      no_second found i d c.loop-definition-test.true c.definition-item.is c.loop-definition.invariant.1
          (not_late d (value_named d.name.now (firsts_of (take i found))) (ap (λ t. second_in t d) (sym same) ∙ c.in-Ok.ensures.1)),
    )
