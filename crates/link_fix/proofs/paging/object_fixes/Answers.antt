use Rattle.std.proofs.Common.{◌≡◌, ◌+◌, ◌∙◌, ap, arith, ℕ, List, [], map}
use Rattle.std.specs.List.{range_with_len}
use Rattle.std.specs.Prelude.{◌<◌, ◌==◌, cond}
use Rattle.std.proofs.lemmas.Bool.Decides.{nat_tests}
use Rattle.lx_types.specs.declared.fix.Fix.{Fix}
use Rattle.link_model.specs.Records.{page_count}
use Rattle.link_fix.specs.Paging.{fixes_of, page_in}
use Rattle.link_fix.proofs.LinkPages.{map-same}
use Rattle.link_fix.proofs.PagedFixes.{objects-more}
use Rattle.link_fix.proofs.paging.object_fixes.Goals as goal

other_row : (number n : ℕ) (fs : List Fix) → number < n → cond (number == n) [] fs ≡ fs
other_row number n fs h = grind (arith, nat_tests)

pub loop-object-preserved : goal.loop-object-preserved
loop-object-preserved c =
    let number : ℕ = c.loop-object.number + 1 in
    let count : ℕ = c.page_count.result in
    let here = c.in_ok-first_pages.ensures
    ∙ map-same (page_in c.in_ok-row.row.items) (fixes_of c.args.pages number) (range_with_len 0 count)
    (λ k. c.in_ok-row.ensures.row k ∙ c.loop-object.invariant.kept number k (omega arith))
    ∙ ap (λ (n : ℕ). map (fixes_of c.args.pages number) (range_with_len 0 n)) c.page_count.ensures in
    record {
      counted = omega arith;
      kept = λ n k h. c.in_ok-row.ensures.left n k ∙ other_row number n (fixes_of c.loop-object.left n k) h ∙ c.loop-object.invariant.kept n k (omega arith);
      lists = objects-more (λ q. map (fixes_of c.args.pages q.0) (range_with_len 0 (page_count q.1.size))) c.args.objects.now c.loop-object.object-index number (record { size = 0; base = 0; flags = 0 }) c.loop-object.all
          c.push.new.self _ c.loop-object-test.true (omega arith) c.loop-object.invariant.lists here c.in_ok-push.ensures;
    }
