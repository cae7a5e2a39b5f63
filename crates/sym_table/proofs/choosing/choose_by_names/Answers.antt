use Rattle.std.proofs.Common.{◌≡◌, ◌∙◌, [], ap, sym, length, not, ◌&&◌, None, refl, ℕ, true}
use Rattle.std.specs.List.{find, enumerate_from}
use Rattle.std.specs.Option.{option_map}
use Rattle.std.proofs.lemmas.Bool.{eqb-true}
use Rattle.std.proofs.lemmas.List.{nil_from_length, append-nil}
use Rattle.obj_types.specs.declared.object.ObjModule.{ObjModule}
use Rattle.link_model.specs.declared.symbols.Pick.{Pick}
use Rattle.link_model.specs.Choosing.{next_pick, is_picked, is_drawn}
use Rattle.link_model.proofs.Growing.{begun}
use Rattle.sym_table.proofs.ChoosingByNames.{at_end}
use Rattle.sym_table.proofs.choosing.choose_by_names.Goals as goal

pub returns-then-is_empty : goal.returns-then-is_empty
returns-then-is_empty c =
    let input = c.args.input.now in
    let picks = c.in_ok-picks.picks in
    let none : length c.as_slice.result.now ≡ 0 = eqb-true (length c.as_slice.result.now) 0 (sym c.is_empty.ensures ∙ c.if-is_empty.true) in
    let libs : input.libs ≡ [] = sym c.as_slice.ensures ∙ nil_from_length c.as_slice.result.now none in
    let last : next_pick input picks ≡ None =
    ap (λ ms. option_map (λ (q : ℕ × ObjModule). let p : Pick = record { lib = true; index = q.0 } in p) (find (λ q. not (is_picked picks q.0) && is_drawn input picks q.1) (enumerate_from 0 ms))) libs in
    at_end input picks picks None last refl (begun input picks c.in_ok-picks.ensures) (sym (append-nil picks))
