use Rattle.std.proofs.Common.{◌≡◌, ◌+◌, ◌≤◌, ◌<◌, ◌∙◌, ap, sym, subst, List, ℕ, length, get_or, arith}
use Rattle.std.proofs.lemmas.Bool.{eqb-true}
use Rattle.std.specs.Prelude.{◌&&◌}
use Rattle.std.specs.List.{list_any}
use Rattle.obj_types.specs.declared.object.Comdat.{Comdat}
use Rattle.obj_types.specs.Whole.{is_in_seg}
use Rattle.link_model.specs.Kept.{is_local}
use Rattle.comdat_core.specs.Taking.{owned_in}
use Rattle.comdat_core.proofs.TakingOut.{Progress, begun, skipped, seen_as, whole}
use Rattle.comdat_core.proofs.taking.take_out.Goals as goal
use Rattle.comdat_core.proofs.taking.take_out.Goals.{then-not-contains+in_ok-see, else-not-contains}

pub loop-comdat-preserved : goal.loop-comdat-preserved
loop-comdat-preserved c = λ all are.
    let m = c.args.object.now in
    let x = c.comdat-item.result in
    let i = c.loop-comdat.comdat-index in
    let items : c.as_slice-comdat-items.result.now ≡ m.comdats = c.as_slice-comdat-items.ensures in
    let below : i < length m.comdats = subst (λ (xs : List Comdat). i < length xs) items c.loop-comdat-test.true in
    let is : x ≡ get_or m.comdats i x = c.comdat-item.is ∙ ap (λ (xs : List Comdat). get_or xs i x) items in
    let local : c.contains.result ≡ is_local m x = c.contains.ensures ∙ c.in_ok-local.ensures x.seg ∙ ap (list_any (λ p. p.local && is_in_seg x.seg p.place)) c.as_slice-2.ensures in
    let before = c.loop-comdat.invariant all are in
    elim c.if-not-contains.branch [
      | then-not-contains+in_ok-see w ↦
          seen_as all i _ c.loop-comdat.table c.if-not-contains.table c.loop-comdat.taken.items c.if-not-contains.taken.items below is (sym local ∙ w.if-not-contains.true) before
          (w.table-is ∙ w.in_ok-see.ensures.table) (ap (λ v. v.items) w.taken-is ∙ w.in_ok-see.ensures.taken)
      | else-not-contains w ↦
          subst (λ t. Progress all c.args.place m (i + 1) t c.if-not-contains.taken.items) (sym w.table-is)
          (subst (λ ts. Progress all c.args.place m (i + 1) c.loop-comdat.table ts) (sym (ap (λ v. v.items) w.taken-is))
          (skipped all c.args.place m i x c.loop-comdat.table c.loop-comdat.taken.items below is (sym local ∙ w.if-not-contains.false) before))
    ]

pub returns : goal.returns
returns c = λ before len are.
    let m = c.args.object.now in
    let i = c.loop-comdat.comdat-index in
    let past : length m.comdats ≤ i = subst (λ (xs : List Comdat). length xs ≤ i) c.as_slice-comdat-items.ensures c.loop-comdat-test.false in
    whole before m i c.loop-comdat.table c.loop-comdat.taken.items past
    (subst (λ (n : ℕ). Progress (owned_in before) n m i c.loop-comdat.table c.loop-comdat.taken.items) (sym len) (c.loop-comdat.invariant (owned_in before) are))

pub returns-then-is_empty : goal.returns-then-is_empty
returns-then-is_empty c = λ before len are.
    let m = c.args.object.now in
    let none : length c.as_slice.result.now ≡ 0 = eqb-true (length c.as_slice.result.now) 0 (sym c.is_empty.ensures ∙ c.if-is_empty.true) in
    let past : length m.comdats ≤ 0 = subst (λ (xs : List Comdat). length xs ≤ 0) c.as_slice.ensures (omega arith) in
    whole before m 0 c.args.table.now c.new-taken.result.items past
    (subst (λ ts. Progress (owned_in before) (length before) m 0 c.args.table.now ts) (sym c.new-taken.ensures.items) (begun (owned_in before) (length before) m c.args.table.now are))
