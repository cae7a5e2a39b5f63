use Rattle.std.proofs.Common.{◌≡◌, ◌∙◌, ap, sym, take, map, length, arith, ℕ, List}
use Rattle.std.proofs.Math.Seq.{take-length}
use Rattle.lx_types.specs.Names.{uppercase}
use Rattle.obj_types.specs.declared.symbol.Imp.{Imp}
use Rattle.name_table.specs.Entries.{with_entry}
use Rattle.link_model.specs.Appearance.{firsts}
use Rattle.sym_table.specs.Firsts.{same_name}
use Rattle.sym_table.proofs.FirstOnes.{entry-push}
use Rattle.link_types.proofs.Lists.{map-more}
use Rattle.sym_table.proofs.Lists.{count-keys}
use Rattle.sym_table.proofs.names.module_count.Goals as goal

pub loop-import-preserved : goal.loop-import-preserved
loop-import-preserved c =
    let xs = c.args.imports.now in
    let i = c.loop-import.import-index in
    let named : Imp → List ℕ × Unit {0} = λ x. (uppercase x.module, tt) in
    let x = c.import-item.result in
    c.in_ok-add_module.ensures
    ∙ ap (λ t. with_entry t (uppercase x.module) tt) c.loop-import.invariant
    ∙ entry-push (map named (take i xs)) (uppercase x.module) tt
    ∙ ap (firsts (same_name {V = Unit {0}})) (sym (map-more named xs i x c.loop-import-test.true c.import-item.is))

pub returns : goal.returns
returns c =
    let xs = c.args.imports.now in
    let named : Imp → List ℕ × Unit {0} = λ x. (uppercase x.module, tt) in
    let all : c.loop-import.import-index ≡ length xs = omega (arith, c.loop-import-test.false, c.loop-import.auto.import-index-end) in
    c.len.ensures
    ∙ ap length c.loop-import.invariant
    ∙ ap (λ (n : ℕ). length (firsts (same_name {V = Unit {0}}) (map named (take n xs)))) all
    ∙ ap (λ ys. length (firsts (same_name {V = Unit {0}}) (map named ys))) (take-length xs)
    ∙ count-keys (λ (x : Imp). uppercase x.module) xs
