use Rattle.std.proofs.Common.{List, ℕ, sym, subst, ap, ◌∙◌}
use Rattle.lx_model.specs.Tables.{objects_of}
use Rattle.res_bind.specs.Numbers.{HasHeader}
use Rattle.res_bind.proofs.Facts.{objects_read}
use Rattle.res_bind.proofs.Headers.{header_good}
use Rattle.res_bind.proofs.binding.bind_res.Goals as goal

pub bind_file-requires-clause-header : goal.bind_file-requires-clause-header
bind_file-requires-clause-header c =
    let m = c.args.m.now in
    let read = c.requires.read in
    subst (λ (file : List ℕ). HasHeader file) (sym c.file.ensures) (record { short = read.short; faultless = header_good m read })

pub bind_file-requires-clause-objects : goal.bind_file-requires-clause-objects
bind_file-requires-clause-objects c = c.objects.ensures.list ∙ objects_read c.args.m.now c.requires.read ∙ ap objects_of (sym c.file.ensures)
