use Rattle.std.proofs.Common.{◌≤◌, ◌∙◌, ◌+◌, ap, map, refl, arith, length, List, ℕ}
use Rattle.std.proofs.lemmas.List.{take_all}
use Rattle.std.proofs.lemmas.Result.{err_from_is_err_and}
use Rattle.std.specs.Borrow.{Bor}
use Rattle.std.specs.List.{flat_map, enumerate_from}
use Rattle.obj_types.specs.declared.object.ObjModule.{ObjModule}
use Rattle.link_fix.specs.Bare.{bare}
use Rattle.link_fix.specs.Shown.{shown}
use Rattle.link_place.specs.Fixed.{fixups_in}
use Rattle.link_place.specs.Judged.{first_refusal}
use Rattle.link_place.proofs.Growing.{module-more, flat-mapped}
use Rattle.link_place.proofs.Judging.{module-split, passed, refused, all-judged}
use Rattle.link_place.proofs.AnswersMapped.{failed_by}
use Rattle.link_place.proofs.fixups.fixups_among.Goals as goal

pub loop-index-preserved : goal.loop-index-preserved
loop-index-preserved c =
    let in_module = fixups_in c.args.places.now c.args.syms.now in
    record {
      found = module-more (λ n m. map bare (in_module n m)) c.args.modules.now c.loop-index.index c.in_ok-count.field-0 c.index-modules-index.result (map shown c.loop-index.found.items) (map shown c.add_to.new.found.items) c.loop-index-test.true
          c.index-modules-index.is c.in_ok-count.ensures c.loop-index.invariant.found c.in_ok-add_to.ensures.1;
      judged = passed _ _ _ _ c.loop-index.invariant.judged
          (module-split in_module c.args.modules.now c.loop-index.index c.in_ok-count.field-0 c.index-modules-index.result c.loop-index-test.true c.index-modules-index.is c.in_ok-count.ensures)
          c.in_ok-add_to.ensures.0;
    }

pub returns-in_err-add_to : goal.returns-in_err-add_to
returns-in_err-add_to c =
    let in_module = fixups_in c.args.places.now c.args.syms.now in
    let e = err_from_is_err_and c.from_residual-in_err-add_to.result c.from_residual-in_err-add_to.ensures.1 in
    rw (e.1, e.2)
    (failed_by c.in_err-add_to.field-0.0 _ _ _ _
    (λ refusal told. refused _ _ _ _ refusal c.loop-index.invariant.judged
    (module-split in_module c.args.modules.now c.loop-index.index c.in_ok-count.field-0 c.index-modules-index.result c.loop-index-test.true c.index-modules-index.is c.in_ok-count.ensures) told) c.in_err-add_to.ensures)

pub returns : goal.returns
returns c =
    let in_module = fixups_in c.args.places.now c.args.syms.now in
    let ms : List (Bor ObjModule) = c.args.modules.now in
    let i : ℕ = c.loop-index.index in
    let past : length ms ≤ i = omega (arith, c.loop-index-test.false) in
    let all = all-judged (λ (ls : List (Bor ObjModule)). first_refusal (flat_map (λ q. in_module q.0 q.1) (enumerate_from (1 + i) (map (λ m. m.now) ls)))) ms i _ past refl c.loop-index.invariant.judged in (
      all,
      c.loop-index.invariant.found
          ∙ ap (λ (ls : List (Bor ObjModule)). flat_map (λ q. map bare (in_module q.0 q.1)) (enumerate_from 1 (map (λ m. m.now) ls))) (take_all i ms past)
          ∙ flat-mapped bare (λ (q : ℕ × ObjModule). in_module q.0 q.1) (enumerate_from 1 (map (λ m. m.now) ms)),
    )
