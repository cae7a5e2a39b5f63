use Rattle.std.proofs.Common.{◌≡◌, ◌+◌, ◌∙◌, ap, arith, get_or, map, List, ℕ, [], ◌∷◌, ◌++◌}
use Rattle.std.specs.List.{range_with_len}
use Rattle.std.specs.Prelude.{◌<◌, ◌==◌, cond}
use Rattle.std.proofs.lemmas.Bool.Decides.{nat_tests}
use Rattle.std.proofs.lemmas.List.{get_or_default}
use Rattle.link_model.specs.declared.symbols.LaidObject.{LaidObject}
use Rattle.link_fix.specs.Images.{byte_of}
use Rattle.link_fix.proofs.LinkPages.{map-same}
use Rattle.link_fix.proofs.PaintedFields.{rows-more}
use Rattle.link_fix.proofs.painting.object_rows.Goals as goal

other_row : (number n v : ℕ) → number < n → cond (number == n) 0 v ≡ v
other_row number n v h = grind (arith, nat_tests)

pub loop-object-preserved : goal.loop-object-preserved
loop-object-preserved c =
    let i = c.loop-object.object-index in
    let none : LaidObject = record { size = 0; base = 0; flags = 0 } in
    let o : LaidObject = get_or c.args.objects.now i none in
    let number = c.loop-object.number + 1 in
    let here : c.in_ok-bytes.bytes.items ≡ map (byte_of c.args.rows number) (range_with_len 0 o.size) =
    c.in_ok-bytes.ensures.bytes
    ∙ map-same (byte_of c.loop-object.left number) (byte_of c.args.rows number) (range_with_len 0 o.size)
    (λ x. c.loop-object.invariant.kept number x (omega arith)) in
    record {
      counted = omega arith;
      kept = λ n x h. c.in_ok-bytes.ensures.left n x ∙ other_row number n (byte_of c.loop-object.left n x) h ∙ c.loop-object.invariant.kept n x (omega arith);
      rows = rows-more c.args.rows c.args.objects.now i number o c.loop-object.all c.push.new.self c.in_ok-bytes.bytes.items c.loop-object-test.true (get_or_default c.args.objects.now i none o c.loop-object-test.true) (omega arith)
          c.loop-object.invariant.rows here (c.in_ok-push.ensures ∙ ap (λ (r : List ℕ). c.loop-object.all ++ r ∷ []) c.from_vec.ensures);
    }
