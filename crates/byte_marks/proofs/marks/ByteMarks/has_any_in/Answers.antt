use Rattle.std.proofs.Common.{◌≡◌, ℕ, ◌+◌, ◌*◌, ◌<◌, false, Option, sym, ap, ◌∙◌, arith, true≢false}
use Rattle.std.specs.Option.{option_map_or}
use Rattle.byte_marks.specs.declared.page.Page.{Page}
use Rattle.byte_marks.specs.Bits.{is_set}
use Rattle.byte_marks.specs.Marks.{is_marked}
use Rattle.byte_marks.proofs.Tests.{has-alike}
use Rattle.byte_marks.proofs.Pages.{on-page}
use Rattle.byte_marks.proofs.marks.ByteMarks.has_any_in.Goals as goal

pub returns-in-Some : goal.returns-in-Some
returns-in-Some c =
    let m = c.args.self.now in
    let at = c.args.at in
    let words = c.in-Some.page.now.words in
    let same : (i : ℕ) → i < c.args.past → is_set words i ≡ is_marked m at.row (at.page * 4096 + i) =
    λ i below. ap (λ (o : Option Page). option_map_or (λ (p : Page). is_set p.words i) o false) c.in-Some.ensures ∙ sym (on-page m at i (omega (arith, c.requires, below))) in (
      λ t. has-alike (is_set words) (λ x. is_marked m at.row (at.page * 4096 + x)) c.args.from c.args.past same (c.has_any.ensures.0 t),
      λ has. c.has_any.ensures.1 (has-alike (λ x. is_marked m at.row (at.page * 4096 + x)) (is_set words) c.args.from c.args.past (λ i below. sym (same i below)) has),
    )

pub returns-in-None : goal.returns-in-None
returns-in-None c =
    let m = c.args.self.now in
    let at = c.args.at in (
      λ t. absurd (true≢false (sym t)),
      λ has.
          let below = has.below in
          let none : is_marked m at.row (at.page * 4096 + has.place) ≡ false =
          on-page m at has.place (omega (arith, c.requires, below)) ∙ ap (λ (o : Option Page). option_map_or (λ (p : Page). is_set p.words has.place) o false) (sym c.in-None.ensures) in
          absurd (true≢false (sym has.passes ∙ none)),
    )
