use Rattle.std.proofs.Common.{◌≡◌, ◌∙◌, ℕ, ◌≤◌, ◌<◌, true, List, length, get_or, Some, None, sym, subst}
use Rattle.std.specs.Prelude.{◌==◌}
use Rattle.command_line.proofs.Counts.{count_is_one, count_parsed, count_too_large, not_begun, not_parsed, nothing}
use Rattle.command_line.proofs.words.count_of.Goals as goal
use Rattle.command_line.proofs.words.count_of.Goals.{then-is_empty-via-then-is_empty, then-is_empty-via-else-is_empty+then-digits-le48}

begun : (word digits : List ℕ) → digits ≡ word → 48 < get_or digits 0 0 → 48 < get_or word 0 0
begun word digits same first = subst (λ (xs : List ℕ). 48 < get_or xs 0 0) same first

pub returns-then-is_empty-clause-named : goal.returns-then-is_empty-clause-named
returns-then-is_empty-clause-named c =
    let word = c.args.word.now in
    let same = c.as_bytes-digits.ensures.value in
    elim c.then-is_empty.branch [
      | then-is_empty-via-then-is_empty w ↦ sym (nothing word (subst (λ (xs : List ℕ). true ≡ (length xs == 0)) same w.if-is_empty.ensures))
      | then-is_empty-via-else-is_empty+then-digits-le48 w ↦ sym (not_begun word (subst (λ (xs : List ℕ). get_or xs 0 0 ≤ 48) same w.if-digits-le48.true))
    ]

pub returns-in_err-count-clause-named : goal.returns-in_err-count-clause-named
returns-in_err-count-clause-named c =
    c.from_residual.ensures
    ∙ not_parsed c.args.word.now c.parse.result c.parse.ensures.value.0 (begun c.args.word.now _ c.as_bytes-digits.ensures.value c.if-digits-le48.false)
    (sym c.ok.ensures.value ∙ c.in_err-count.was)

pub returns-then-count-le-MAX_MODULES-clause-named : goal.returns-then-count-le-MAX_MODULES-clause-named
returns-then-count-le-MAX_MODULES-clause-named c =
    count_parsed c.args.word.now c.parse.result c.parse.ensures.value.0 (begun c.args.word.now _ c.as_bytes-digits.ensures.value c.if-digits-le48.false) c.in_ok-count.count
    (sym c.ok.ensures.value ∙ c.in_ok-count.was) c.if-count-le-MAX_MODULES.true

pub returns-then-count-le-MAX_MODULES-clause-few : goal.returns-then-count-le-MAX_MODULES-clause-few
returns-then-count-le-MAX_MODULES-clause-few c = (
  count_is_one c.args.word.now c.parse.result c.parse.ensures.value.0 (begun c.args.word.now _ c.as_bytes-digits.ensures.value c.if-digits-le48.false) c.in_ok-count.count
      (sym c.ok.ensures.value ∙ c.in_ok-count.was),
  c.if-count-le-MAX_MODULES.true,
)

pub returns-else-count-le-MAX_MODULES-clause-named : goal.returns-else-count-le-MAX_MODULES-clause-named
returns-else-count-le-MAX_MODULES-clause-named c =
    count_too_large c.args.word.now c.parse.result c.parse.ensures.value.0 (begun c.args.word.now _ c.as_bytes-digits.ensures.value c.if-digits-le48.false) c.in_ok-count.count
    (sym c.ok.ensures.value ∙ c.in_ok-count.was) c.if-count-le-MAX_MODULES.false
