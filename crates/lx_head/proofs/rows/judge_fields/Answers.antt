use Rattle.std.proofs.Common.{Option, subst}
use Rattle.lx_types.specs.declared.refusal.LxRefusal.{LxRefusal}
use Rattle.lx_types.specs.Answers.{as_is}
use Rattle.lx_model.specs.Judging.{Judged}
use Rattle.lx_head.proofs.FieldLoop.{table_is, room_where_good}
use Rattle.lx_head.proofs.rows.judge_fields.Goals as goal

pub returns-clause-judged : goal.returns-clause-judged
returns-clause-judged c = subst (λ (o : Option LxRefusal). Judged as_is c.judge_all.result o) (table_is c.args.bytes.now c.args.place) c.judge_all.ensures

pub returns-clause-room : goal.returns-clause-room
returns-clause-room c = room_where_good c.judge_all.result c.args.bytes.now c.args.place (subst (λ (o : Option LxRefusal). Judged as_is c.judge_all.result o) (table_is c.args.bytes.now c.args.place) c.judge_all.ensures)
