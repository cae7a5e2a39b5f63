-- One residence more is kept.
use Rattle.std.proofs.Common.{◌≡◌, ℕ, suc, ◌+◌, List, length, drop, set, sym, ◌∙◌, ap, subst, arith}
use Rattle.std.proofs.lemmas.List.{length-set}
use Rattle.page_frames.specs.Residences.{Keeping}
use Rattle.load_model.specs.State.{Residence}
use Rattle.residence_table.specs.TableLending.{with_beside}
use Rattle.load_core.specs.Enters.{AreNumbered, kept_row, kept_from}
use Rattle.load_core.specs.declared.residence_parts.ResidenceParts.{ResidenceParts}
use Rattle.load_core.proofs.KeptFrom.{kept_next, kept_end, number_there, numbers_next, kept_there, row_there, lent_is}
use Rattle.load_core.proofs.new_residences.keep_from.Goals as goal

pub keep-requires : goal.keep-requires
keep-requires c =
    let t = c.loop-place.table in
    let i = c.loop-place.place in
    let lent = c.beside_mut.result.now in
    let there = row_there t i lent c.beside_mut.ensures.value in
    let next : suc c.loop-place.keeper.given ≡ c.loop-place.keeper.given + 1 = omega arith in record {
      next = ap (λ (p : ResidenceParts). p.shared.frames.serial) (lent_is t i lent there.0 c.beside_mut.ensures.value there.1)
          ∙ number_there c.loop-place.keeper.given i t there.0 c.loop-place.invariant.2 there.1 ∙ next;
    }

pub loop-place-preserved : goal.loop-place-preserved
loop-place-preserved c =
    let t = c.loop-place.table in
    let i = c.loop-place.place in
    let lent = c.beside_mut.result.now in
    let keeper = c.loop-place.keeper in
    let name = c.args.keeper.now.name in
    let there = row_there t i lent c.beside_mut.ensures.value in
    let names : keeper.name ≡ name = ap (λ (k : Keeping). k.name) c.loop-place.invariant.3 in
    let givens : c.keep.new.self.given ≡ keeper.given + 1 = ap (λ (k : Keeping). k.given) c.keep.ensures.given in
    let after = with_beside t i (record lent { shared = c.keep.new.residence }) in
    let same : after ≡ set t i (kept_row name there.0) =
    kept_there name i t there.0 lent c.keep.new.residence there.1 c.beside_mut.ensures.value (c.keep.ensures.kept ∙ ap (λ (n : ℕ). record lent.shared { keeper = n }) names)
    in
    let place : i + 1 ≡ suc i = omega arith in
    let given : c.keep.new.self.given ≡ suc keeper.given = omega (arith, givens) in
    let N : ℕ → Type 0 = λ n. AreNumbered c.keep.new.self.given (drop n after) in
    let G : ℕ → Type 0 = λ g. AreNumbered g (drop (suc i) after) in
    let T : List (Residence × ResidenceParts) → Type 0 = λ ts. AreNumbered (suc keeper.given) (drop (suc i) ts) in (
      ap length same ∙ length-set t i (kept_row name there.0) ∙ c.loop-place.invariant.0,
      ap (λ (n : ℕ). kept_from name n after) place ∙ ap (kept_from name (suc i)) same ∙ kept_next name i t there.0 there.1 ∙ c.loop-place.invariant.1,
      subst N (sym place) (subst G (sym given) (subst T (sym same) (numbers_next keeper.given i t there.0 (kept_row name there.0) c.loop-place.invariant.2 there.1))),
      c.keep.ensures.given ∙ ap (λ (n : ℕ). record { name = n; given = keeper.given + 1 }) names ∙ ap (λ (g : ℕ). record c.args.keeper.now { given = g }) (sym givens),
      (let before = c.loop-place.invariant.4 in omega (arith, givens, before)),
    )

pub returns-clause-table : goal.returns-clause-table
returns-clause-table c =
    let long = ap length c.rows-place-end.ensures in
    let same = c.loop-place.invariant.0 in
    let past = c.loop-place-test.false in
    sym (kept_end c.args.keeper.now.name c.loop-place.place c.loop-place.table (omega (arith, long, same, past))) ∙ c.loop-place.invariant.1
