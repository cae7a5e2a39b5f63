use Rattle.session_files.proofs.PlainWords.{plain_is_utf8}
use Rattle.session_files.proofs.texts.text_in.Goals as goal

pub unreachable-requires : goal.unreachable-requires
unreachable-requires c = c.in-Err.ensures.cases.0 (plain_is_utf8 c.args.word.now c.requires)
