use Rattle.std.proofs.Common.{◌∙◌, sym}
use Rattle.process_pages.proofs.Naming.{meant}
use Rattle.process_pages.proofs.name_hints.is_meant.Goals as goal

pub returns : goal.returns
returns c = λ yes. meant c.args.lib.now c.args.m c.args.name.now c.len.ensures.library c.requires (sym c.is_named.ensures ∙ yes)
