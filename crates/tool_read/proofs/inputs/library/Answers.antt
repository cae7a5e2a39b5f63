use Rattle.tool_read.proofs.inputs.library.Goals as goal

pub returns-in-Ok-clause-whole : goal.returns-in-Ok-clause-whole
returns-in-Ok-clause-whole c = c.meaning_is_whole.ensures.library c.args.bytes.now c.in-Ok.modules c.in-Ok.ensures.meant
