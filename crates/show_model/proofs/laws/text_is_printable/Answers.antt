use Rattle.show_model.proofs.Printable.{text_is_printable}
use Rattle.show_model.proofs.laws.text_is_printable.Goals as goal

pub returns : goal.returns
returns c = text_is_printable
