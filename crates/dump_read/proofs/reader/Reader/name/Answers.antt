use Rattle.std.specs.Bool.{then_some}
use Rattle.dump_model.specs.Bounds.{IsListedName}
use Rattle.dump_model.specs.Lines.{name_word}
use Rattle.dump_read.proofs.NameLaws.{name-words}
use Rattle.dump_read.proofs.Steps.{word-reads, then-some-is, then-some-value}
use Rattle.dump_read.proofs.reader.Reader.name.Goals as goal

pub returns : goal.returns
returns c =
    let told = c.in_ok-told.told in
    word-reads name_word IsListedName c.args.after name-words c.requires c.front-word.result.now (then_some told.is_told told.name) told.is_told told.begins told.name
    c.args.self.now c.settle.new.self c.front-word.ensures.front (then-some-is told.is_told told.name) c.settle.ensures c.in_ok-told.ensures.tells
    (λ x is. then-some-value told.is_told told.name x is) c.in_ok-told.ensures.begins
