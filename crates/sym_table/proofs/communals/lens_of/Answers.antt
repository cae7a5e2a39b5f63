use Rattle.std.proofs.Common.{◌∙◌, ap, ℕ, List, max}
use Rattle.name_table.specs.Entries.{with_value}
use Rattle.sym_table.proofs.Greatest.{len-more}
use Rattle.sym_table.proofs.communals.lens_of.Goals as goal

pub loop-comdef-preserved : goal.loop-comdef-preserved
loop-comdef-preserved c = λ name.
    let x = c.comdef-item.result in
    let lens = c.loop-comdef.lens in
    len-more name c.args.comdefs.now c.loop-comdef.comdef-index x lens c.set.new.self c.max-len.result c.loop-comdef-test.true c.comdef-item.is c.loop-comdef.invariant
    (c.max-len.ensures ∙ ap (λ (n : ℕ). max n x.common.len) c.len_in.ensures)
    (c.in_ok-set.ensures.entries ∙ ap (λ (n : List ℕ). with_value lens n c.max-len.result) c.bytes.ensures.same)
