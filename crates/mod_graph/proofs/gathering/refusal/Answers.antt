use Rattle.std.proofs.Common.{◌∙◌, sym}
use Rattle.mod_graph.proofs.Gathered.{LibraryFault-many, LibraryFault-few}
use Rattle.mod_graph.proofs.gathering.refusal.Goals as goal

pub returns-then-mods-gt-MAX_MODULES_LEN : goal.returns-then-mods-gt-MAX_MODULES_LEN
returns-then-mods-gt-MAX_MODULES_LEN c = sym (LibraryFault-many c.args.mods.now c.if-mods-gt-MAX_MODULES_LEN.true)

pub returns-else-mods-gt-MAX_MODULES_LEN : goal.returns-else-mods-gt-MAX_MODULES_LEN
returns-else-mods-gt-MAX_MODULES_LEN c = c.name_twice.ensures ∙ sym (LibraryFault-few c.args.mods.now c.if-mods-gt-MAX_MODULES_LEN.false)
