use Rattle.std.proofs.Common.{◌≡◌, ◌+◌, [], ◌∷◌, length, subst, sym, ap, ◌∙◌, arith}
use Rattle.std.proofs.lemmas.List.{length-append}
use Rattle.dump_model.specs.Bounds.{IsPage}
use Rattle.dump_model.specs.Dumps.{page_lines}
use Rattle.dump_read.specs.Taken.{Reads}
use Rattle.dump_read.specs.Sequences.{CountSoFar, CountIn, list_text, list_opens}
use Rattle.dump_read.specs.Lists.{page_opens}
use Rattle.dump_read.proofs.Elements.{page-element}
use Rattle.dump_read.proofs.Runs.{count-steps, count-done, count-stopped}
use Rattle.dump_read.proofs.pages.pages.Goals as goal

pub loop-number-preserved : goal.loop-number-preserved
loop-number-preserved c =
    let items = c.loop-number.pages.items in
    let page = c.in_ok-page.field-0 in
    let at : c.loop-number.number ≡ 0 + length items = omega (arith, c.loop-number.invariant.0) in (
      omega (arith, c.loop-number.invariant.0, ap length c.in_ok-push.ensures.items, length-append items (page ∷ [])),
      subst (λ xs. CountSoFar (page_lines c.args.object) IsPage page_opens c.args.count 0 xs c.args.reader.now c.page.new.reader) (sym c.in_ok-push.ensures.items)
          (count-steps (page_lines c.args.object) IsPage page_opens _ (page-element c.args.object) c.args.count 0 items page c.args.reader.now c.loop-number.reader c.page.new.reader
          (omega (arith, c.loop-number.invariant.0, c.loop-number-test.true)) c.loop-number.invariant.1
          (subst (λ n. Reads (λ q. page_lines c.args.object (n, q)) IsPage page_opens page c.loop-number.reader c.page.new.reader) (c.from.ensures ∙ at) c.in_ok-page.ensures)),
    )

pub returns-then-has_stopped : goal.returns-then-has_stopped
returns-then-has_stopped c =
    subst (λ xs. Reads (list_text (page_lines c.args.object) 0) (CountIn IsPage c.args.count) (list_opens [] page_opens) xs c.args.reader.now c.loop-number.reader)
    (sym c.from_vec.ensures)
    (count-stopped (page_lines c.args.object) IsPage page_opens _ (page-element c.args.object) c.args.count 0 c.loop-number.pages.items c.args.reader.now c.loop-number.reader
    (sym c.has_stopped.ensures ∙ c.if-has_stopped.true) c.loop-number.invariant.1)

pub returns : goal.returns
returns c =
    subst (λ xs. Reads (list_text (page_lines c.args.object) 0) (CountIn IsPage c.args.count) (list_opens [] page_opens) xs c.args.reader.now c.loop-number.reader)
    (sym c.from_vec-2.ensures)
    (count-done (page_lines c.args.object) IsPage page_opens _ (page-element c.args.object) c.args.count 0 c.loop-number.pages.items c.args.reader.now c.loop-number.reader
    (omega (arith, c.loop-number.invariant.0, c.loop-number-test.false, c.loop-number.auto.number-end)) c.loop-number.invariant.1)
