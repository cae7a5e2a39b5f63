use Rattle.std.proofs.Common.{arith}
use Rattle.res_bind.proofs.Facts.{facts}
use Rattle.res_bind.proofs.fields.set_fields.Goals as goal

pub overflow_sub-layout : goal.overflow_sub-layout
overflow_sub-layout c = let f = facts c.requires.plan in let n = c.requires.plan.numbers.long in omega (arith, f.after, f.objects, n)

pub overflow_sub-layout-2 : goal.overflow_sub-layout-2
overflow_sub-layout-2 c = let f = facts c.requires.plan in let n = c.requires.plan.numbers.long in omega (arith, f.after, f.objects, f.page_table, n)

pub overflow_sub-layout-3 : goal.overflow_sub-layout-3
overflow_sub-layout-3 c = let f = facts c.requires.plan in let n = c.requires.plan.numbers.long in omega (arith, f.after, f.objects, f.page_table, f.fixups, f.resources, n)

pub overflow_cast-plan : goal.overflow_cast-plan
overflow_cast-plan c = let f = facts c.requires.plan in omega (arith, f.most)

pub overflow_sub-layout-then-tables : goal.overflow_sub-layout-then-tables
overflow_sub-layout-then-tables c = let f = facts c.requires.plan in let n = c.requires.plan.numbers.long in omega (arith, f.after, f.objects, f.page_table, f.fixups, n)
