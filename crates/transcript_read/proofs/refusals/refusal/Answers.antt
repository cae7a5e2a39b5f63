use Rattle.transcript_read.proofs.Tellings.{no_refusal, plain_whole}
use Rattle.transcript_read.proofs.refusals.refusal.Goals as goal

pub returns-in-Some : goal.returns-in-Some
returns-in-Some c = plain_whole c.in-Some.refusal c.plain.result _ c.plain.ensures c.in-Some.is

pub returns-in_default-arena_full : goal.returns-in_default-arena_full
returns-in_default-arena_full c = no_refusal _ c.in_default.ensures c.in_default-not_touched.ensures c.in_default-init_failed.ensures c.in_default-arena_full.ensures
