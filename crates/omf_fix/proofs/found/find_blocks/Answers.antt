use Rattle.std.proofs.Common.{◌∙◌, sym, [], ◌≢◌, true}
use Rattle.std.proofs.lemmas.Result.{err_from_is_err_and}
use Rattle.obj_types.specs.declared.limits.TheConstants.{MAX_DEPTH}
use Rattle.omf_fix.specs.Found.{Found, found_at, found_in}
use Rattle.omf_fix.proofs.BlockFound.{some_left, next_blocks, refused_blocks, no_blocks, gives_refused}
use Rattle.omf_fix.proofs.found.find_blocks.Goals as goal

pub all-smaller : goal.all-smaller
all-smaller c =
    let some : c.all.fields.left ≢ [] = some_left c.is_empty.result c.all.fields.left c.is_empty.ensures.empty.1 c.all-test.true in
    let n = next_blocks c.args.sought.number c.args.sought.wide (found_in c.all.found) (found_in c.find_block.new.found) c.all.fields c.find_block.new.fields c.all.invariant.1 some c.in_ok-find_block.ensures in
    n.2

pub all-preserved : goal.all-preserved
all-preserved c =
    let some : c.all.fields.left ≢ [] = some_left c.is_empty.result c.all.fields.left c.is_empty.ensures.empty.1 c.all-test.true in
    let n = next_blocks c.args.sought.number c.args.sought.wide (found_in c.all.found) (found_in c.find_block.new.found) c.all.fields c.find_block.new.fields c.all.invariant.1 some c.in_ok-find_block.ensures in
    (sym n.0 ∙ c.all.invariant.0, n.1)

pub returns-in_err-find_block : goal.returns-in_err-find_block
returns-in_err-find_block c =
    let some : c.all.fields.left ≢ [] = some_left c.is_empty.result c.all.fields.left c.is_empty.ensures.empty.1 c.all-test.true in
    let p = err_from_is_err_and c.from_residual.result c.from_residual.ensures.1 in
    rw (p.1, p.2) (gives_refused {A = Unit {0}} {C = Found} (λ u. (found_in c.all.found)) c.in_err-find_block.field-0.0 (found_at c.args.sought.number MAX_DEPTH c.args.sought.wide true (found_in c.all.found) c.all.fields) _
    (λ f is. sym c.all.invariant.0 ∙ refused_blocks c.args.sought.number c.args.sought.wide (found_in c.all.found) c.all.fields f c.all.invariant.1 some is)
    c.in_err-find_block.ensures)

pub returns : goal.returns
returns c = sym c.all.invariant.0 ∙ no_blocks c.args.sought.number c.args.sought.wide (found_in c.all.found) c.all.fields (c.is_empty.ensures.empty.0 c.all-test.false)
