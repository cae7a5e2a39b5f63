use Rattle.std.proofs.Common.{arith, subst, sym, ◌∙◌}
use Rattle.memory_core.specs.Addresses.{FitsPage}
use Rattle.file_commands.proofs.HeldMemory.{pages_more}
use Rattle.file_commands.proofs.held.push_pages.Goals as goal

pub push_page-requires-clause-room : goal.push_page-requires-clause-room
push_page-requires-clause-room c = let at = c.loop-page.invariant.at in let below = c.loop-page-test.true in let room = c.requires.room in omega (arith, at, below, room)

pub push_page-requires-clause-fits : goal.push_page-requires-clause-fits
push_page-requires-clause-fits c = subst FitsPage (sym c.page-item.is) (c.requires.fit c.loop-page.page-index c.page-item.result c.loop-page-test.true)

pub overflow_add-at : goal.overflow_add-at
overflow_add-at c = let at = c.loop-page.invariant.at in let below = c.loop-page-test.true in let room = c.requires.room in omega (arith, at, below, room)

pub loop-page-preserved : goal.loop-page-preserved
loop-page-preserved c = record {
  at = let at = c.loop-page.invariant.at in omega (arith, at);
  text = pages_more c.args.base c.loop-page.at c.loop-page.page-index c.args.pages.now c.page-item.result c.loop-page.text.items c.push_page.new.text.items _
      c.loop-page-test.true c.page-item.is c.loop-page.invariant.at c.in_ok-push_page.ensures c.loop-page.invariant.text;
}
