use Rattle.std.proofs.Common.{ℕ, ◌+◌, ◌-◌, ◌*◌, ◌/◌, List, ◌++◌, length, drop, ap, ◌∙◌, arith}
use Rattle.obj_types.specs.declared.object.FixAt.{FixAt}
use Rattle.omf_write.specs.ObjectBytes.{fixupp_record, fixupp_records}
use Rattle.omf_write.proofs.FixupBytes.{one_record}
use Rattle.omf_write.proofs.fixups.push_fixups.Goals as goal

pub loop-place-preserved : goal.loop-place-preserved
loop-place-preserved c =
    let fixes : List FixAt = c.args.fixes.now in
    let from : ℕ = c.args.from in
    let out : List ℕ = c.loop-place.out.items in
    let place : ℕ = c.loop-place.place in
    let count : ℕ = (length fixes + 63) / 64 in
    let more = c.loop-place-test.true in
    let next : ℕ = (place + 1) * 64 in
    let left : ℕ = count - (place + 1) in
    ap (λ (bytes : List ℕ). bytes ++ fixupp_records left from (drop next fixes)) (c.in_ok-push_fixupp.ensures ∙ ap (λ (some : List FixAt). out ++ fixupp_record from some) c.fixups_at.ensures.is)
    ∙ one_record left (count - place) from (place * 64) next fixes out (omega (arith, more)) (omega arith)
    ∙ c.loop-place.invariant
