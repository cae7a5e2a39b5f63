use Rattle.std.proofs.Common.{rules, sym, ◌∙◌}
use Rattle.omf_fix.proofs.ThreadSet.{frame-set, goal-set}
use Rattle.omf_fix.proofs.threads.set_thread.Goals as goal

pub returns-then-is_frame_thread : goal.returns-then-is_frame_thread
returns-then-is_frame_thread c =
    frame-set c.args.threads.now c.args.byte c.args.index _ _ c.requires.four (sym c.is_frame_thread.ensures ∙ c.if-is_frame_thread.true) (search rules) (search rules)

pub returns-else-is_frame_thread : goal.returns-else-is_frame_thread
returns-else-is_frame_thread c =
    goal-set c.args.threads.now c.args.byte c.args.index _ _ c.requires.four (sym c.is_frame_thread.ensures ∙ c.if-is_frame_thread.false) (search rules) (search rules)
