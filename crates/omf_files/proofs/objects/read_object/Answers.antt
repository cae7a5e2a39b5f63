use Rattle.std.proofs.Common.{ℕ, List, subst}
use Rattle.lx_bytes.specs.LittleEndian.{AreBytes}
use Rattle.omf_files.proofs.WholeObject.{object, meant}
use Rattle.omf_files.proofs.objects.read_object.Goals as goal

pub returns-clause-read : goal.returns-clause-read
returns-clause-read c = object c.args.bytes.now c.module.result c.of-cur.result c.module.new.cur c.of-cur.ensures.place c.of-cur.ensures.bytes c.module.ensures.read

pub returns-clause-meant : goal.returns-clause-meant
returns-clause-meant c =
    let P : List ℕ → Type 0 = AreBytes in
    meant c.args.bytes.now c.module.result (subst P c.of-cur.ensures.bytes c.module.ensures.bytes)
    (object c.args.bytes.now c.module.result c.of-cur.result c.module.new.cur c.of-cur.ensures.place c.of-cur.ensures.bytes c.module.ensures.read)
