use Rattle.std.proofs.Common.{◌≡◌, ◌%◌, ◌<◌, ◌++◌, ℕ, List, [], length, take, drop, get_or, Some, slice_get, slice_index, refl, sym, subst, ap, ◌∙◌, append-nil, arith}
use Rattle.std.specs.Global.{Vec}
use Rattle.std.proofs.lemmas.List.{get_or_read, drop_all}
use Rattle.std.proofs.lemmas.Option.{slice_get-get_or}
use Rattle.lx_types.specs.declared.fix.Fix.{Fix}
use Rattle.lx_model.specs.JoinedRecords.{listed_after}
use Rattle.lx_fixrec.specs.Writes.{spelled}
use Rattle.lx_fixrec.specs.Links.{IsNext, joined_before}
use Rattle.lx_fixrec.proofs.Beginning.{is_begun, none_begun, nothing}
use Rattle.lx_fixrec.proofs.Pages.{no_fix, source_more}
use Rattle.lx_fixrec.proofs.page.records_of.Goals as goal
use Rattle.lx_fixrec.proofs.page.records_of.Goals.{then-index-eq0+in_ok-push_begun, else-index-eq0}

pub loop-place-preserved : goal.loop-place-preserved
loop-place-preserved c =
    let s = c.args.sources.now in
    let place = c.loop-place.place in
    let counts = c.loop-place.counts.items in
    let out = c.loop-place.out.items in
    let f = get_or s place no_fix in
    let at : slice_get s place ≡ Some f = slice_get-get_or s place no_fix c.loop-place-test.true in
    let own : slice_index counts place ≡ joined_before s f place % 255 = c.loop-place.invariant.counted.each place f (omega arith) at refl in
    let many : length counts ≡ length s = c.loop-place.invariant.counted.many in
    let lt : place < length counts = omega (arith, many) in
    let read : c.index.result.now ≡ slice_index counts place = get_or_read counts place c.index.result.now lt c.index.ensures 0 in
    record {
      written = source_more s place out c.if-index-eq0.out.items _ c.loop-place-test.true c.loop-place.invariant.written
          (elim c.if-index-eq0.branch [
            | then-index-eq0+in_ok-push_begun w ↦
                ap (λ (v : Vec ℕ). v.items) w.out-is ∙ w.in_ok-push_begun.ensures f at ∙ ap (λ (bytes : List ℕ). out ++ bytes) (is_begun s f place at (sym own ∙ sym read ∙ w.if-index-eq0.true))
            | else-index-eq0 w ↦
                ap (λ (v : Vec ℕ). v.items) w.out-is ∙ nothing out _ (none_begun s f place at (λ zero. w.if-index-eq0.false (read ∙ own ∙ zero)))
          ]);
      counted = c.count_next.ensures s f at (subst (λ (ns : List ℕ). IsNext s f place (slice_index ns place)) (sym c.as_slice-links.ensures.value) (c.in_ok-links.ensures.each place f at)) c.loop-place.invariant.counted;
    }

pub returns : goal.returns
returns c =
    let sources = c.args.sources.now in
    let out = c.loop-place.out.items in
    let done : drop c.loop-place.place sources ≡ [] = drop_all c.loop-place.place sources c.loop-place-test.false in
    sym (append-nil out) ∙ ap (λ (left : List Fix). out ++ spelled (listed_after (take c.loop-place.place sources) left)) (sym done) ∙ c.loop-place.invariant.written
