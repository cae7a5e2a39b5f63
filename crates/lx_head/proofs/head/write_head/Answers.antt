use Rattle.std.proofs.Common.{ap, ◌∙◌}
use Rattle.lx_model.specs.Header.{header_fault, header_fields}
use Rattle.lx_head.proofs.Headers.{again, sound}
use Rattle.lx_head.proofs.head.write_head.Goals as goal

pub returns-clause-sound : goal.returns-clause-sound
returns-clause-sound c = ap header_fault c.header_bytes.ensures.bytes ∙ sound c.args.h.now.fields c.header_bytes.ensures.count c.header_bytes.ensures.fit c.requires.accepted

pub returns-clause-again : goal.returns-clause-again
returns-clause-again c = ap header_fields c.header_bytes.ensures.bytes ∙ again c.args.h.now.fields c.header_bytes.ensures.count c.header_bytes.ensures.fit c.requires.accepted
