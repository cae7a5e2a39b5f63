use Rattle.std.proofs.Common.{◌∙◌, sym, ap, length, Some, arith}
use Rattle.lx_model.specs.Packed.{packed}
use Rattle.lx_write.proofs.PagesAdded.{if_ok, zeros_added, iterated_added, plain_added}
use Rattle.lx_write.proofs.pages.Pages.add.Goals as goal

pub returns-then-is_empty : goal.returns-then-is_empty
returns-then-is_empty c =
    zeros_added c.args.self.now.heads.items c.push.new.self.items c.args.self.now.contents.items c.args.page.now
    (grind (arith, ap length c.data_of-data.ensures.same, c.is_empty.ensures, c.if-is_empty.true)) c.in_ok-push.ensures.items

pub returns-in-Some : goal.returns-in-Some
returns-in-Some c =
    if_ok c.put.result (iterated_added c.args.self.now.heads.items c.put.new.self.heads.items c.args.self.now.contents.items c.put.new.self.contents.items c.args.page.now c.as_slice.result.now
    (ap packed (sym c.filled.ensures) ∙ sym c.in_ok-groups.ensures ∙ c.in-Some.is ∙ ap Some (sym c.as_slice.ensures)))
    c.put.ensures

pub returns-in-None : goal.returns-in-None
returns-in-None c =
    if_ok c.put-in-None.result (plain_added c.args.self.now.heads.items c.put-in-None.new.self.heads.items c.args.self.now.contents.items c.put-in-None.new.self.contents.items c.args.page.now c.data_of-data.result.now
    (grind (arith, ap length c.data_of-data.ensures.same, c.is_empty.ensures, c.if-is_empty.false)) c.data_of-data.ensures.same
    (ap packed (sym c.filled.ensures) ∙ sym c.in_ok-groups.ensures ∙ c.in-None.is))
    c.put-in-None.ensures
