use Rattle.std.proofs.Common.{◌∙◌}
use Rattle.omf_names.proofs.GroupRead.{contents-are}
use Rattle.omf_files.proofs.BeginRead.{begun-refused, other-first, name-refused, named, parts-so, begun-so}
use Rattle.omf_files.proofs.objects.begin.Goals as goal

pub returns-in-Err-clause-read : goal.returns-in-Err-clause-read
returns-in-Err-clause-read c = begun-refused c.args.cur.now c.in-Err.refusal c.in-Err.ensures.read

pub returns-then-rec-2-clause-read : goal.returns-then-rec-2-clause-read
returns-then-rec-2-clause-read c = other-first c.in-Ok.rec c.args.cur.now c.record.new.cur c.at-at.result c.in-Ok.ensures.read c.if-rec.true c.if-rec-2.true c.at-at.ensures.place

pub returns-in-Err-name-clause-read : goal.returns-in-Err-name-clause-read
returns-in-Err-name-clause-read c =
    name-refused c.in-Ok.rec c.args.cur.now c.record.new.cur c.of-fields.result c.in-Err-name.refusal c.in-Ok.ensures.read c.else-rec.either
    (contents-are c.in-Ok.rec c.of-fields.result c.of-fields.ensures.place c.of-fields.ensures.bytes) c.in-Err-name.ensures.read.0

pub returns-clause-read : goal.returns-clause-read
returns-clause-read c =
    named c.in-Ok.rec c.args.cur.now c.record.new.cur c.of-fields.result c.name.new.self c.in-Ok-name.bytes.now c.in-Ok.ensures.read c.else-rec.either
    (contents-are c.in-Ok.rec c.of-fields.result c.of-fields.ensures.place c.of-fields.ensures.bytes) c.in-Ok-name.ensures.read
    ∙ parts-so c.fresh-parts.result c.in_ok-name.name c.in-Ok-name.bytes.now c.record.new.cur c.fresh-parts.ensures c.in_ok-name.ensures

pub returns-clause-begun : goal.returns-clause-begun
returns-clause-begun c = begun-so c.fresh-parts.result c.in_ok-name.name c.in-Ok-name.bytes.now c.fresh-parts.ensures c.in_ok-name.ensures
