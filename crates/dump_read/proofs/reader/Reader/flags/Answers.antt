use Rattle.lx_types.specs.Escaped.{hex_address}
use Rattle.dump_model.specs.Bounds.{Has32}
use Rattle.dump_model.proofs.FlagLaws.{flags-words}
use Rattle.dump_model.proofs.WordLaws.{told-or}
use Rattle.dump_read.proofs.Steps.{word-reads}
use Rattle.dump_read.proofs.reader.Reader.flags.Goals as goal

pub returns : goal.returns
returns c =
    word-reads hex_address Has32 c.args.after flags-words c.requires c.front-word.result.now c.flags_of-told.result c.is_some.result c.begins_flags.result c.unwrap_or.result
    c.args.self.now c.settle.new.self c.front-word.ensures.front c.is_some.ensures c.settle.ensures c.flags_of-told.ensures
    (λ x is. told-or c.flags_of-told.result 0 c.unwrap_or.result x c.unwrap_or.ensures is) c.begins_flags.ensures
