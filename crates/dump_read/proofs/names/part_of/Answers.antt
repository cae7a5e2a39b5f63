use Rattle.std.proofs.Common.{◌≡◌, [], ◌∷◌, ◌++◌, length, arith, subst, sym, ap, ◌∙◌}
use Rattle.std.specs.List.{AllByRecursion}
use Rattle.std.proofs.lemmas.List.{length-append}
use Rattle.lx_types.specs.Escaped.{escaped, escaped_byte}
use Rattle.dump_model.specs.Bounds.{IsByte}
use Rattle.dump_read.proofs.NameLaws.{stops-at, one-more-byte, bytes-append}
use Rattle.dump_read.proofs.names.part_of.Goals as goal

pub returns-in_default : goal.returns-in_default
returns-in_default c =
    stops-at c.args.word.now c.loop-byte.bytes.items c.loop-byte.left.now c.front_of.result c.loop-byte.invariant.text c.loop-byte.invariant.short c.loop-byte.invariant.all
    c.front_of.ensures c.in_default.not-Byte

pub loop-byte-preserved : goal.loop-byte-preserved
loop-byte-preserved c =
    let bytes = c.loop-byte.bytes.items in
    let pushed = c.in_ok-push.ensures.items in
    let front = c.in-Byte.ensures in
    record {
      text =
          subst (λ xs. c.args.word.now ≡ escaped xs ++ c.split_at.result.1.now) (sym pushed)
          (one-more-byte c.args.word.now bytes c.loop-byte.left.now c.in-Byte.byte c.split_at.result.1.now c.loop-byte.invariant.text
          (front.3 ∙ ap (λ xs. escaped_byte c.in-Byte.byte ++ xs) (sym c.split_at.ensures.back)));
      short = omega (arith, ap length pushed, length-append bytes (c.in-Byte.byte ∷ []), c.loop-byte.bytes.ok, c.len.ensures, c.loop-byte-test.true);
      all = subst (AllByRecursion IsByte) (sym pushed) (bytes-append bytes c.in-Byte.byte c.loop-byte.invariant.all front.0);
    }
