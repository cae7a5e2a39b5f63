use Rattle.std.proofs.Common.{◌≡◌, ℕ, List, None, sym, subst}
use Rattle.lx_types.specs.declared.parts.Parts.{Parts}
use Rattle.lx_model.specs.Module.{LxFault, IsRead}
use Rattle.lx_read.proofs.WholeFiles.{read_again}
use Rattle.lx_read.proofs.reading.read_module.Goals as goal

pub returns-in-Ok-clause-again : goal.returns-in-Ok-clause-again
returns-in-Ok-clause-again c =
    let faultless = subst (λ (bytes : List ℕ). LxFault bytes ≡ None) c.as_slice.ensures.value c.in-Ok.ensures.0 in
    subst (λ (m : Parts). IsRead m) (sym c.module_of.ensures) (read_again c.args.file.items c.requires faultless)
