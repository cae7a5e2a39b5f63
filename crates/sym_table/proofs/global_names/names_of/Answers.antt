use Rattle.std.proofs.Common.{◌≡◌, ◌∙◌, sym, Some, None, map, List, ℕ}
use Rattle.link_model.specs.SymbolRefusals.{twice}
use Rattle.sym_table.specs.declared.definitions.Definition.{Definition}
use Rattle.link_types.specs.declared.symbols.GlobalNames.{GlobalNames}
use Rattle.sym_table.specs.Binding.{AreNamesOf}
use Rattle.sym_table.specs.Definitions.{shown, twice_among}
use Rattle.sym_table.specs.Firsts.{firsts_of}
use Rattle.link_types.specs.Links.{link_with}
use Rattle.lx_types.proofs.Failing.{handed_on}
use Rattle.sym_table.proofs.NamesMean.{names_are, twice_is}
use Rattle.sym_table.proofs.global_names.names_of.Goals as goal

pub returns-in-Err : goal.returns-in-Err
returns-in-Err c =
    let l = link_with c.args.input.now c.args.modules.now in
    let found = c.args.found.now in
    handed_on c.in-Err.fail
    (λ (table : List (List ℕ × Definition)). (table ≡ firsts_of found) × (twice_among (map shown found) ≡ None))
    (λ (names : GlobalNames). (twice l ≡ None) × AreNamesOf l names)
    (λ refusal. twice_among (map shown found) ≡ Some refusal)
    (λ refusal. twice l ≡ Some refusal)
    (λ refusal h. sym (twice_is l found c.requires) ∙ h)
    c.in-Err.ensures

pub returns-in_ok-names_by-in-Ok : goal.returns-in_ok-names_by-in-Ok
returns-in_ok-names_by-in-Ok c =
    let l = link_with c.args.input.now c.args.modules.now in
    let found = c.args.found.now in
    let names = c.in_ok-names_by-in-Ok.field-0 in
    let known = c.in_ok-names_by-in-Ok.ensures in (
      sym (twice_is l found c.requires) ∙ c.in-Ok.ensures.1,
      names_are l found c.in-Ok.first names c.requires c.in-Ok.ensures.0 known.imports known.commons known.defined known.communal,
    )
