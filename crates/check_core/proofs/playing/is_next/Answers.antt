use Rattle.std.proofs.Common.{◌↔◌, IsTrue, sym, subst}
use Rattle.check_model.specs.Checks.{CommandIsNext}
use Rattle.check_core.specs.ToldItems.{item_of}
use Rattle.check_core.proofs.playing.is_next.Goals as goal

pub returns-in-Entry : goal.returns-in-Entry
returns-in-Entry c j before lib scripts done =
    subst (λ x. IsTrue c.entry_is_next.result ↔ CommandIsNext j before (item_of x)) (sym c.in-Entry.is) (c.entry_is_next.ensures j before lib scripts done)

pub returns-in-Line : goal.returns-in-Line
returns-in-Line c j before lib scripts done =
    subst (λ x. IsTrue c.line_is_next.result ↔ CommandIsNext j before (item_of x)) (sym c.in-Line.is) (c.line_is_next.ensures j before scripts done)
