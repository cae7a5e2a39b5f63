use Rattle.std.proofs.Common.{◌≡◌, ◌∙◌, ◌++◌, ◌<◌, ap, sym, refl, List, Option, Some, is_some, length, true≢false}
use Rattle.std.specs.Prelude.{slice_get, option_to_list}
use Rattle.std.proofs.lemmas.List.{append-nil}
use Rattle.std.proofs.lemmas.Option.{slice_get_read}
use Rattle.obj_types.specs.declared.object.ObjModule.{ObjModule}
use Rattle.link_model.specs.declared.symbols.Pick.{Pick}
use Rattle.sym_table.proofs.ChoosingByNames.{none_next, its_pick, its_place, next_known}
use Rattle.sym_table.proofs.choosing.choose_next.Goals as goal

pub bounds-as_slice-index : goal.bounds-as_slice-index
bounds-as_slice-index c =
    its_place c.args.input.now c.args.choice.now c.in-Some.index c.as_slice.result.now c.requires.known c.as_slice.ensures c.in-Some.ensures.member

pub returns-in-None-clause-more : goal.returns-in-None-clause-more
returns-in-None-clause-more c = sym (ap is_some (none_next c.args.input.now c.args.choice.now c.requires.known (λ some. true≢false (sym (c.in-None.ensures.variant.1 some)))))

pub returns-in-None-clause-picks : goal.returns-in-None-clause-picks
returns-in-None-clause-picks c =
    let picks = c.args.choice.now.picks in
    sym (ap (λ (o : Option Pick). picks ++ option_to_list o) (none_next c.args.input.now c.args.choice.now c.requires.known (λ some. true≢false (sym (c.in-None.ensures.variant.1 some)))) ∙ append-nil picks)

pub returns-in_ok-add_choice-in-Some-clause-more : goal.returns-in_ok-add_choice-in-Some-clause-more
returns-in_ok-add_choice-in-Some-clause-more c =
    let old = c.args.choice.now in
    sym (ap is_some (its_pick c.args.input.now old.picks old.waiting c.in-Some.index c.requires.known.waiting c.in-Some.ensures.member c.in-Some.ensures.least))

pub returns-in_ok-add_choice-in-Some-clause-picks : goal.returns-in_ok-add_choice-in-Some-clause-picks
returns-in_ok-add_choice-in-Some-clause-picks c =
    let old = c.args.choice.now in
    let next = its_pick c.args.input.now old.picks old.waiting c.in-Some.index c.requires.known.waiting c.in-Some.ensures.member c.in-Some.ensures.least in
    c.in_ok-add_choice-in-Some.ensures.picks ∙ ap (λ (o : Option Pick). old.picks ++ option_to_list o) (sym next)

pub returns-in_ok-add_choice-in-Some-clause-known : goal.returns-in_ok-add_choice-in-Some-clause-known
returns-in_ok-add_choice-in-Some-clause-known c =
    let j = c.in-Some.index in
    let m = c.index-as_slice-index.result in
    let there : j < length c.as_slice.result.now = its_place c.args.input.now c.args.choice.now j c.as_slice.result.now c.requires.known c.as_slice.ensures c.in-Some.ensures.member in
    let at : slice_get c.args.input.now.libs j ≡ Some m =
    ap (λ (ms : List ObjModule). slice_get ms j) (sym c.as_slice.ensures) ∙ slice_get_read c.as_slice.result.now (length c.as_slice.result.now) j m refl there c.index-as_slice-index.is in
    next_known c.args.input.now c.args.leaders.now c.args.choice.now c.add_choice.new.choice c.pop_first.new.self j m c.requires.leaders c.requires.known at c.in-Some.ensures.least c.in-Some.ensures.updates.0
    c.in_ok-add_choice-in-Some.ensures.picks c.in_ok-add_choice-in-Some.ensures.defined c.in_ok-add_choice-in-Some.ensures.waiting
