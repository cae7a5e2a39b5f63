use Rattle.std.proofs.Common.{rules, ◌∙◌, sym, ap}
use Rattle.lx_model.specs.Packed.{filled}
use Rattle.page_fix.proofs.Raws.{faulty_is_empty}
use Rattle.page_fix.proofs.raw.fill_expanded.Goals as goal

pub returns-then-is_err : goal.returns-then-is_err
returns-then-is_err c = c.fill_from.ensures ∙ ap filled (sym (faulty_is_empty c.expand.result c.args.bytes.now c.expand.new.into (search rules) c.expand.ensures))
