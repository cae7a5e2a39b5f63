use Rattle.std.proofs.Common.{List, ℕ, sym, subst}
use Rattle.omf_model.specs.Object.{IsModule, Obj}
use Rattle.omf_write.proofs.Mapped.{both_follow}
use Rattle.omf_write.proofs.ObjectRead.{object_is_read, module_is_file}
use Rattle.omf_write.proofs.objects.object.Goals as goal

pub returns-clause-read : goal.returns-clause-read
returns-clause-read c =
    let m = c.args.m.now in
    both_follow _ _ (λ bytes. IsModule bytes.items m) c.written.result (λ bytes is fits. subst (λ (x : List ℕ). IsModule x m) (sym is) (object_is_read m c.requires fits)) c.written.ensures.is c.written.ensures.fits

pub returns-clause-file : goal.returns-clause-file
returns-clause-file c =
    let m = c.args.m.now in
    both_follow _ _ (λ bytes. Obj bytes.items m) c.written.result (λ bytes is fits. subst (λ (x : List ℕ). Obj x m) (sym is) (module_is_file m (object_is_read m c.requires fits))) c.written.ensures.is c.written.ensures.fits
