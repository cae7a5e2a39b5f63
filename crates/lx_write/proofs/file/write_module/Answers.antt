use Rattle.std.proofs.Common.{sym, subst}
use Rattle.lx_model.specs.Module.{Lx}
use Rattle.image_model.specs.ReadBack.{parts_of_image}
use Rattle.image_model.proofs.FilesRead.{files_read}
use Rattle.lx_write.specs.Value.{image_value}
use Rattle.lx_write.proofs.file.write_module.Goals as goal

pub returns-clause-read : goal.returns-clause-read
returns-clause-read c fits = subst (λ f. Lx f (parts_of_image (image_value c.args.image.now))) (sym c.in_ok-file_with.ensures.same) (files_read (image_value c.args.image.now) fits)
