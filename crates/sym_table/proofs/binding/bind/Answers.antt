use Rattle.std.proofs.Common.{◌≡◌, ◌∙◌, ap, sym, subst, Some, None, map, List}
use Rattle.std.specs.Borrow.{Bor}
use Rattle.obj_types.specs.declared.object.ObjModule.{ObjModule}
use Rattle.link_model.specs.declared.symbols.SymDef.{SymDef}
use Rattle.link_model.specs.Choosing.{modules_of}
use Rattle.link_model.specs.SymbolRefusals.{twice}
use Rattle.link_types.specs.declared.symbols.GlobalNames.{GlobalNames}
use Rattle.sym_table.specs.Binding.{AreNamesOf, IsRefused}
use Rattle.link_types.specs.Binding.{IsBound}
use Rattle.link_types.specs.Links.{link_with}
use Rattle.sym_table.specs.Meanings.{rows_in}
use Rattle.sym_table.specs.Refusing.{later_refusal}
use Rattle.link_types.specs.Symbols.{SymbolTable}
use Rattle.lx_types.proofs.Failing.{handed_on}
use Rattle.sym_table.proofs.WholeLink.{is_bound, is_twice, is_later}
use Rattle.sym_table.proofs.binding.bind.Goals as goal

-- src/binding.rt:69:1
pub returns-in-Err : goal.returns-in-Err
returns-in-Err c =
    let input = c.args.input.now in
    let picks = c.in_ok-picks.picks in
    let mods = c.as_slice-2.result.now in
    let are : map (λ (m : Bor ObjModule). m.now) mods ≡ modules_of input picks =
    ap (map (λ (m : Bor ObjModule). m.now)) c.as_slice-2.ensures.value ∙ c.in_ok-modules.ensures ∙ ap (modules_of input) c.as_slice.ensures in
    let l = link_with input mods in
    handed_on c.in-Err.fail
    (λ (names : GlobalNames). (twice l ≡ None) × AreNamesOf l names)
    (λ (symbols : SymbolTable). IsBound input symbols)
    (λ refusal. twice l ≡ Some refusal)
    (λ refusal. IsRefused input refusal)
    (λ refusal h. is_twice input mods picks refusal c.in_ok-picks.ensures are h)
    c.in-Err.ensures

-- src/binding.rt:69:1
pub returns-in-Err-external_meanings : goal.returns-in-Err-external_meanings
returns-in-Err-external_meanings c =
    let input = c.args.input.now in
    let picks = c.in_ok-picks.picks in
    let names = c.in-Ok.names in
    let mods = c.as_slice-in-Ok.result.now in
    let same : c.as_slice-2.result.now ≡ mods = c.as_slice-2.ensures.value ∙ sym c.as_slice-in-Ok.ensures.value in
    let are : map (λ (m : Bor ObjModule). m.now) mods ≡ modules_of input picks =
    ap (map (λ (m : Bor ObjModule). m.now)) c.as_slice-in-Ok.ensures.value ∙ c.in_ok-modules.ensures ∙ ap (modules_of input) c.as_slice.ensures in
    let l = link_with input mods in
    let known : (twice l ≡ None) × AreNamesOf l names =
    subst (λ (ms : List (Bor ObjModule)). (twice (link_with input ms) ≡ None) × AreNamesOf (link_with input ms) names) same c.in-Ok.ensures in
    handed_on c.in-Err-external_meanings.fail
    (λ (rows : List (List SymDef)). (map (map Some) rows ≡ rows_in names.globals (map (λ m. m.now) mods)) × (later_refusal names l ≡ None))
    (λ (symbols : SymbolTable). IsBound input symbols)
    (λ refusal. later_refusal names l ≡ Some refusal)
    (λ refusal. IsRefused input refusal)
    (λ refusal h. is_later input mods picks names refusal c.in_ok-picks.ensures are known.0 known.1 h)
    c.in-Err-external_meanings.ensures

-- src/binding.rt:69:1
pub returns-in-Ok-external_meanings : goal.returns-in-Ok-external_meanings
returns-in-Ok-external_meanings c =
    let input = c.args.input.now in
    let picks = c.in_ok-picks.picks in
    let names = c.in-Ok.names in
    let rows = c.in-Ok-external_meanings.meanings in
    let mods = c.as_slice-in-Ok.result.now in
    let same : c.as_slice-2.result.now ≡ mods = c.as_slice-2.ensures.value ∙ sym c.as_slice-in-Ok.ensures.value in
    let are : map (λ (m : Bor ObjModule). m.now) mods ≡ modules_of input picks =
    ap (map (λ (m : Bor ObjModule). m.now)) c.as_slice-in-Ok.ensures.value ∙ c.in_ok-modules.ensures ∙ ap (modules_of input) c.as_slice.ensures in
    let l = link_with input mods in
    let known : (twice l ≡ None) × AreNamesOf l names =
    subst (λ (ms : List (Bor ObjModule)). (twice (link_with input ms) ≡ None) × AreNamesOf (link_with input ms) names) same c.in-Ok.ensures in
    subst (λ (s : SymbolTable). IsBound input s) (sym c.of.ensures)
    (is_bound input mods picks names rows c.in_ok-picks.ensures are known.0 known.1 c.in-Ok-external_meanings.ensures.0 c.in-Ok-external_meanings.ensures.1)
