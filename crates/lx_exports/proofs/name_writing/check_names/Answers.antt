use Rattle.std.proofs.Common.{◌≡◌, ◌∙◌, ap, sym, map, drop, true, false, Some, ◌+◌}
use Rattle.std.specs.Prelude.{is_some, bytes_eq}
use Rattle.std.specs.Option.{option_map}
use Rattle.name_table.specs.Entries.{value_named, with_entry}
use Rattle.link_model.specs.Words.{first_conflict}
use Rattle.link_model.specs.declared.refusals.EntryRefusal.TheVariants.{NameTwice}
use Rattle.lx_exports.specs.Exports.{names_of}
use Rattle.lx_exports.proofs.NamesApart.{twice_now, not_twice}
use Rattle.lx_exports.proofs.name_writing.check_names.Goals as goal

pub returns-then-is_some : goal.returns-then-is_some
returns-then-is_some c =
    let x = c.export-item.result in
    let es = c.loop-export.names in
    let some : is_some (value_named x.name es) ≡ true =
    ap (λ n. is_some (value_named n es)) (sym c.bytes.ensures.same) ∙ ap is_some (sym c.in_ok-had.ensures.had) ∙ sym c.is_some.ensures ∙ c.if-is_some.true in
    ap (option_map NameTwice)
    (sym c.loop-export.invariant ∙ twice_now es c.args.exports.now c.loop-export.export-index x c.loop-export-test.true c.export-item.is some
    ∙ ap Some (sym c.in_ok-name.ensures))

pub loop-export-preserved : goal.loop-export-preserved
loop-export-preserved c =
    let x = c.export-item.result in
    let es = c.loop-export.names in
    let none : is_some (value_named x.name es) ≡ false =
    ap (λ n. is_some (value_named n es)) (sym c.bytes.ensures.same) ∙ ap is_some (sym c.in_ok-had.ensures.had) ∙ sym c.is_some.ensures ∙ c.if-is_some.false in
    ap (λ t. first_conflict bytes_eq (map (λ e. e.0) t) (names_of (drop (c.loop-export.export-index + 1) c.args.exports.now)))
    (c.in_ok-had.ensures.entries ∙ ap (λ n. with_entry es n tt) c.bytes.ensures.same)
    ∙ not_twice es c.args.exports.now c.loop-export.export-index x c.loop-export-test.true c.export-item.is none
    ∙ c.loop-export.invariant
