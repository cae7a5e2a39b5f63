use Rattle.std.proofs.Common.{◌≡◌, count_by, length, take}
use Rattle.show_model.specs.Lists.{is_communal}
use Rattle.show_core.proofs.symbols.common_lines.Given as goal

abbrev pub invariant-loop-ext : goal.invariant-loop-ext
invariant-loop-ext l = length l.lines.items ≡ count_by is_communal (take l.ext-index l.exts)
