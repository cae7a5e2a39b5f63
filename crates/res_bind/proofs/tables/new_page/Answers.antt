use Rattle.std.proofs.Common.{◌<◌, subst, ℕ, arith}
use Rattle.res_model.specs.Placed.{object_size}
use Rattle.res_bind.proofs.Facts.{facts, pages_small}
use Rattle.res_bind.proofs.tables.new_page.Goals as goal

pub overflow_mul-begin : goal.overflow_mul-begin
overflow_mul-begin c =
    let f = facts c.requires.plan in
    let there = subst (λ (n : ℕ). c.args.k < n) c.requires.plan.places.pages c.requires.there in
    omega (arith, pages_small (object_size c.args.plan.now.items.now) c.args.k f.size there)

pub overflow_add-result : goal.overflow_add-result
overflow_add-result c =
    let f = facts c.requires.plan in
    let there = subst (λ (n : ℕ). c.args.k < n) c.requires.plan.places.pages c.requires.there in
    omega (arith, pages_small (object_size c.args.plan.now.items.now) c.args.k f.size there, f.objects, f.page_table, f.fixups, f.resources, f.most)
