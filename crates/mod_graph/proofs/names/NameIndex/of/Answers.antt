use Rattle.std.proofs.Common.{◌≡◌, ℕ, suc, ◌-◌, ◌∙◌, List, [], cond, bytes_eq, drop, get_or, Some, Option, ap, sym, refl, arith}
use Rattle.std.proofs.Math.Seq.{drop-cons}
use Rattle.lx_types.specs.Parts.{ordinal_named}
use Rattle.mod_graph.proofs.NameIndexes.{shown, insert_shown, ordinal_named-cons}
use Rattle.mod_graph.proofs.names.NameIndex.of.Goals as goal

pub loop-place-preserved : goal.loop-place-preserved
loop-place-preserved c name =
    let at : ℕ = c.loop-place.place - 1 in
    let first : List ℕ × ℕ = get_or c.args.names.now at ([], 0) in
    let next : suc at ≡ c.loop-place.place = omega (arith, c.loop-place-test.true) in
    let old : List ℕ → Option ℕ = λ q. ordinal_named (shown (λ k. k.items) c.loop-place.ordinals.entries) q in
    let bytes : c.in_ok-name.name.items ≡ first.0 = c.in_ok-name.ensures in
    ap (λ es. ordinal_named (shown (λ k. k.items) es) name) c.in_ok-insert.ensures.entries
    ∙ insert_shown (λ x y. bytes_eq x.items y.items) (λ k. k.items) (λ x y. refl) c.loop-place.ordinals.entries c.in_ok-name.name c.ordinal_at.result name
    ∙ ap (λ bs. cond (bytes_eq bs name) (Some c.ordinal_at.result) (old name)) bytes
    ∙ ap (λ v. cond (bytes_eq first.0 name) (Some v) (old name)) c.ordinal_at.ensures
    ∙ ap (λ o. cond (bytes_eq first.0 name) (Some first.1) o) (c.loop-place.invariant name ∙ ap (λ n. ordinal_named (drop n c.args.names.now) name) (sym next))
    ∙ sym (ordinal_named-cons first.0 first.1 (drop (suc at) c.args.names.now) name)
    ∙ ap (λ ns. ordinal_named ns name) (sym (drop-cons c.args.names.now at ([], 0) (omega (arith, c.loop-place-test.true, c.loop-place.auto.place))))
