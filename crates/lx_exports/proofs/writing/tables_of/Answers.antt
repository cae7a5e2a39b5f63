use Rattle.std.proofs.Common.{◌≡◌, ◌∙◌, ap, sym, drop, map}
use Rattle.lx_model.specs.NameTables.{names_spelling}
use Rattle.lx_model.specs.ExportTables.{resident_table, other_table}
use Rattle.lx_model.specs.Bundles.{table_spelling}
use Rattle.link_model.specs.Exports.{ordinals, wrong_ordinal, ordinal_past, name_twice}
use Rattle.link_model.specs.declared.limits.TheConstants.{MAX_NUMBER}
use Rattle.lx_exports.specs.Exports.{asked, names_of, with_ordinals}
use Rattle.lx_exports.specs.Slots.{shown, bundles_of, slots_to, greatest_of}
use Rattle.lx_exports.proofs.TablesWritten.{entries_are, none_refused, sliced}
use Rattle.lx_exports.proofs.writing.tables_of.Goals as goal

pub returns : goal.returns
returns c =
    let xs = c.args.exports.now in
    let name = c.args.name.now in
    let about = c.args.about.now in
    let given = c.in_ok-ordinals.ensures in
    let ns : c.as_slice-numbers.result.now ≡ ordinals (asked xs) = c.as_slice-numbers.ensures ∙ given.0 in
    record {
      accepted = none_refused (wrong_ordinal (asked xs)) (ordinal_past MAX_NUMBER (asked xs)) (name_twice (names_of xs)) given.1 c.in_ok-check_names.ensures;
      ordinals = given.0;
      resident = c.from_vec.ensures ∙ c.in_ok-resident.ensures ∙ ap (λ ms. names_spelling (resident_table name (with_ordinals xs ms))) ns;
      entries =
          c.from_vec-2.ensures ∙ c.in_ok-entries.ensures
          ∙ ap (λ ss. table_spelling (bundles_of (map shown ss))) (sliced c.deref.result.now)
          ∙ ap (λ ss. table_spelling (bundles_of (map shown (drop 1 ss)))) c.deref.ensures.value
          ∙ entries_are xs c.in_ok-slots.slots.items (c.in_ok-slots.ensures ∙ ap (λ ms. slots_to (greatest_of ms) (with_ordinals xs ms)) ns);
      others = c.from_vec-3.ensures ∙ c.in_ok-others.ensures ∙ ap (λ ms. names_spelling (other_table name about (with_ordinals xs ms))) ns;
    }
