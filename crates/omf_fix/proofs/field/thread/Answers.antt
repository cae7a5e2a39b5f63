use Rattle.std.proofs.Common.{sym, ◌∙◌}
use Rattle.omf_model.proofs.BegunLaws.{begun-whole}
use Rattle.lx_types.proofs.Answered.{said-reads}
use Rattle.omf_fix.proofs.Fields.{thread-read}
use Rattle.omf_fix.proofs.field.thread.Goals as goal

pub set_thread-requires : goal.set_thread-requires
set_thread-requires c = record { four = (begun-whole c.args.into.now c.requires.begun).four }

pub returns : goal.returns
returns c = thread-read c.args.into.now _ c.args.fields.now c.thread_index.new.fields c.args.start.byte _ c.set_thread.new.threads
    (said-reads _ c.thread_index.result c.in_ok-index.index _ _ _ c.thread_index.ensures (sym c.in_ok-index.was ∙ c.said.ensures)) c.set_thread.ensures
