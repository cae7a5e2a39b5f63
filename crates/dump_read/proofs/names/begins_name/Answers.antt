use Rattle.std.proofs.Common.{refl, sym, ◌∙◌, arith}
use Rattle.dump_read.proofs.Steps.{empty-list, filled-list}
use Rattle.dump_read.proofs.NameLaws.{whole-begins, begins-within, begins-full}
use Rattle.dump_read.proofs.names.begins_name.Goals as goal

pub returns-then-is_empty : goal.returns-then-is_empty
returns-then-is_empty c = (
  λ _. whole-begins c.args.word.now c.args.part.now.bytes.items c.args.part.now.left.now c.requires
      (empty-list c.args.part.now.left.now _ refl (sym c.is_empty.ensures ∙ c.if-is_empty.true)),
  λ _. refl,
)

pub returns-then-len-lt-MOST : goal.returns-then-len-lt-MOST
returns-then-len-lt-MOST c =
    begins-within c.ends_within.result c.args.word.now c.args.part.now.bytes.items c.args.part.now.left.now c.requires
    (filled-list c.args.part.now.left.now _ refl (sym c.is_empty.ensures ∙ c.if-is_empty.false)) (omega (arith, c.args.part.now.bytes.ok, c.len.ensures, c.if-len-lt-MOST.true))
    c.ends_within.ensures

pub returns : goal.returns
returns c =
    begins-full c.args.word.now c.args.part.now.bytes.items c.args.part.now.left.now c.requires
    (filled-list c.args.part.now.left.now _ refl (sym c.is_empty.ensures ∙ c.if-is_empty.false))
    (omega (arith, c.args.part.now.bytes.ok, c.len.ensures, c.if-len-lt-MOST.false))
