use Rattle.std.proofs.Common.{◌≡◌, ◌∙◌, ap, sym, subst, refl, true, false, Bool, Some, List, ℕ, ◌+◌, take, drop, get_or, inl, inr}
use Rattle.std.specs.Prelude.{◌==◌, ◌||◌, cond, slice_set}
use Rattle.std.specs.List.{list_any}
use Rattle.std.specs.Option.{option_map}
use Rattle.std.proofs.lemmas.Bool.{MatchBool-at_true, not-true, not-false}
use Rattle.link_model.specs.declared.refusals.EntryRefusal.TheVariants.{Ordinal}
use Rattle.lx_exports.specs.Marks.{AreMarksOf, wrong_among}
use Rattle.lx_exports.proofs.FreeOrdinals.{no_marks, one_mark, wrong_from}
use Rattle.lx_exports.proofs.ordinals.marks_of.Goals as goal

pub loop-ordinal-init : goal.loop-ordinal-init
loop-ordinal-init c = (no_marks c.in_ok-marks.marks.items (c.in_ok-marks.ensures.items_if_clones_equal (λ y is. is)), refl)

pub returns-then-not-mark : goal.returns-then-not-mark
returns-then-not-mark c =
    let ns = c.args.numbers.now in
    let i = c.loop-ordinal.ordinal-index in
    let n = get_or ns i 0 in
    let marked : (n == 0 || get_or c.loop-ordinal.marks.items n false) ≡ true = not-false (n == 0 || get_or c.loop-ordinal.marks.items n false) (sym c.mark.ensures.told ∙ c.if-not-mark.true) in
    let wrong : (n == 0 || list_any (λ g. g == n) (take i ns)) ≡ true = ap (λ (b : Bool). n == 0 || b) (sym (c.loop-ordinal.invariant.0.each n (c.type_inv.numbers i).fits)) ∙ marked in
    ap (option_map (λ (q : ℕ × ℕ). Ordinal q.1))
    (sym c.loop-ordinal.invariant.1 ∙ wrong_from ns i n c.loop-ordinal-test.true refl
    ∙ ap (λ (b : Bool). cond b (Some (i, n)) (wrong_among ns (i + 1) (drop (i + 1) ns))) wrong)
    ∙ ap (λ (m : ℕ). Some (Ordinal m)) (sym c.from-n.ensures)

pub loop-ordinal-preserved : goal.loop-ordinal-preserved
loop-ordinal-preserved c =
    let ns = c.args.numbers.now in
    let i = c.loop-ordinal.ordinal-index in
    let n = get_or ns i 0 in
    let fits = (c.type_inv.numbers i).fits in
    let are = c.loop-ordinal.invariant.0 in
    let done : c.mark.result ≡ true = c.if-not-mark.false in
    let unmarked : (n == 0 || get_or c.loop-ordinal.marks.items n false) ≡ false = not-true (n == 0 || get_or c.loop-ordinal.marks.items n false) (sym c.mark.ensures.told ∙ done) in
    let good : (n == 0 || list_any (λ g. g == n) (take i ns)) ≡ false = ap (λ (b : Bool). n == 0 || b) (sym (are.each n fits)) ∙ unmarked in
    let set_is : c.mark.new.marks.items ≡ slice_set c.loop-ordinal.marks.items n true =
    MatchBool-at_true (c.mark.new.marks.items ≡ slice_set c.loop-ordinal.marks.items n true) (c.mark.new.marks.items ≡ c.loop-ordinal.marks.items) done c.mark.ensures.marked in (
      subst (λ (ms : List Bool). AreMarksOf ms (take (i + 1) ns)) (sym set_is) (one_mark c.loop-ordinal.marks.items ns i n c.loop-ordinal-test.true refl fits are),
      sym (wrong_from ns i n c.loop-ordinal-test.true refl
          ∙ ap (λ (b : Bool). cond b (Some (i, n)) (wrong_among ns (i + 1) (drop (i + 1) ns))) good)
          ∙ c.loop-ordinal.invariant.1,
    )
