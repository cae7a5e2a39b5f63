use Rattle.process_pages.proofs.Words.{ap, arith, length, map, page, residence_in, sym, written_at, ℕ, ◌*◌, ◌+◌, ◌/◌, ◌<◌, ◌∙◌, ◌≤◌}
use Rattle.process_pages.proofs.Covering.{all_put, none_yet, put_next, still_found, still_once}
use Rattle.process_pages.proofs.writing.put_covered.Goals as goal

pub loop-page-init : goal.loop-page-init
loop-page-init c = (
  none_yet _ (residence_in c.args.reached.now).serial c.args.write.now c.args.pages.now c.requires.pages.1.whole (ap (λ (n : ℕ). n / 4096) (sym c.requires.place.offset)),
  omega (arith, c.requires.spares),
)

pub put_at-requires-clause-found : goal.put_at-requires-clause-found
put_at-requires-clause-found c =
    let r = c.args.reached.now in
    let at = c.args.place.now in
    let n = c.loop-page.page in
    let before : n * 4096 < at.offset + at.len = omega (arith, c.loop-page-test.true, c.covered_end-page-end.ensures) in
    rw c.loop-page.invariant.0 (still_found n (residence_in r).serial c.args.write.now r.places c.args.pages.now (page at.object n) (c.requires.found n before))

pub put_at-requires-clause-once : goal.put_at-requires-clause-once
put_at-requires-clause-once c = rw c.loop-page.invariant.0 (still_once c.loop-page.page (residence_in c.args.reached.now).serial c.args.write.now c.args.pages.now c.requires.pages.1.once)

pub put_at-requires-clause-spare : goal.put_at-requires-clause-spare
put_at-requires-clause-spare c = omega (arith, c.loop-page.invariant.1, c.loop-page-test.true, c.covered_end-page-end.ensures)

pub loop-page-preserved : goal.loop-page-preserved
loop-page-preserved c =
    let serial = (residence_in c.args.reached.now).serial in
    let w = c.args.write.now in
    let n = c.loop-page.page in (
      c.put_at.ensures.put ∙ ap (λ (o : ℕ). map (written_at serial (page o n) w) c.loop-page.pages) (sym c.requires.place.object) ∙ ap (map (written_at serial (page w.object n) w)) c.loop-page.invariant.0
          ∙ put_next n serial w c.args.pages.now,
      omega (arith, c.loop-page.invariant.1, c.put_at.ensures.left),
    )

pub returns : goal.returns
returns c =
    let w = c.args.write.now in
    let past : w.offset + length w.bytes ≤ c.loop-page.page * 4096 = omega (arith, c.loop-page-test.false, c.covered_end-page-end.ensures, c.requires.place.offset, c.requires.place.long) in
    c.loop-page.invariant.0 ∙ all_put c.loop-page.page (residence_in c.args.reached.now).serial w c.args.pages.now c.requires.pages.1.whole past
