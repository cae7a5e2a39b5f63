-- What is to be done with a place, in the words of the definitions.
use Rattle.load_model.specs.Refusals as uses
use Rattle.process_view.specs.declared.purposes.Purpose.{Purpose}
use Rattle.process_view.specs.declared.purposes.Purpose.TheVariants.{Touch, Write, Share, Peek, Debug}

abbrev pub purpose_of : Purpose → uses.Purpose
purpose_of Touch = uses.touch
purpose_of Write = uses.write
purpose_of Share = uses.share
purpose_of Peek = uses.peek
purpose_of Debug = uses.debug
