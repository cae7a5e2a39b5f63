use Rattle.std.proofs.Common.{ℕ, List, Err, subst}
use Rattle.lx_types.specs.declared.fail.Fail.TheVariants.{Said}
use Rattle.lx_bytes.specs.LittleEndian.{AreBytes}
use Rattle.omf_files.proofs.WholeLibrary.{refused, library, meant}
use Rattle.omf_files.proofs.libraries.read_library.Goals as goal

pub returns-in-Err-clause-read : goal.returns-in-Err-clause-read
returns-in-Err-clause-read c = refused c.args.bytes.now c.in-Err.refusal c.in-Err.ensures.read

pub returns-in-Err-clause-meant : goal.returns-in-Err-clause-meant
returns-in-Err-clause-meant c =
    let P : List ℕ → Type 0 = AreBytes in
    meant c.args.bytes.now (Err (Said c.in-Err.refusal)) (subst P c.of-cur.ensures.bytes c.left-left.ensures.bytes) (refused c.args.bytes.now c.in-Err.refusal c.in-Err.ensures.read)

pub returns-clause-read : goal.returns-clause-read
returns-clause-read c =
    let P : List ℕ → Type 0 = AreBytes in
    rw (library c.args.bytes.now c.in-Ok.size c.of-cur.result c.take.new.self (subst P c.of-cur.ensures.bytes c.left-left.ensures.bytes) c.in-Ok.ensures.read c.of-cur.ensures.place c.of-cur.ensures.bytes c.in-Ok-take.ensures.read.2)
    c.modules.ensures

pub returns-clause-meant : goal.returns-clause-meant
returns-clause-meant c =
    let P : List ℕ → Type 0 = AreBytes in
    meant c.args.bytes.now c.modules.result (subst P c.of-cur.ensures.bytes c.left-left.ensures.bytes)
    (rw (library c.args.bytes.now c.in-Ok.size c.of-cur.result c.take.new.self (subst P c.of-cur.ensures.bytes c.left-left.ensures.bytes) c.in-Ok.ensures.read c.of-cur.ensures.place c.of-cur.ensures.bytes c.in-Ok-take.ensures.read.2)
    c.modules.ensures)
