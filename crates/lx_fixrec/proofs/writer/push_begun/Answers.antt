use Rattle.std.proofs.Common.{◌+◌, ◌<◌, length, drop, get_or, List, ℤ, sym, subst, ◌∙◌}
use Rattle.std.specs.Prelude.{All}
use Rattle.std.proofs.lemmas.List.Elements.{All-drop}
use Rattle.std.proofs.lemmas.Option.{slice_get-get_or}
use Rattle.lx_model.specs.RecordSpelling.{OffsetFits}
use Rattle.lx_fixrec.specs.Writable.{IsWritable}
use Rattle.lx_fixrec.proofs.Beginning.{few_listed, listed_fit, pushed}
use Rattle.lx_fixrec.proofs.Pages.{no_fix}
use Rattle.lx_fixrec.proofs.writer.push_begun.Goals as goal

pub push_record-requires-clause-others : goal.push_record-requires-clause-others
push_record-requires-clause-others c =
    let s = c.args.sources.now in
    let offsets = c.as_slice.ensures.value ∙ c.in_ok-gather.ensures _ (slice_get-get_or s c.args.place no_fix c.requires.place) in
    subst (λ (os : List ℤ). All (OffsetFits (get_or s c.args.place no_fix).source) os) (sym offsets) (listed_fit (get_or s c.args.place no_fix) (drop (c.args.place + 1) s) (All-drop IsWritable (c.args.place + 1) s c.requires.writable))

pub push_record-requires-clause-few : goal.push_record-requires-clause-few
push_record-requires-clause-few c =
    let s = c.args.sources.now in
    let offsets = c.as_slice.ensures.value ∙ c.in_ok-gather.ensures _ (slice_get-get_or s c.args.place no_fix c.requires.place) in
    subst (λ (os : List ℤ). length os < 255) (sym offsets) (few_listed (get_or s c.args.place no_fix) (drop (c.args.place + 1) s))

pub returns : goal.returns
returns c = pushed c.args.sources.now c.args.place no_fix c.push_record.result c.args.out.now.items c.push_record.new.out.items c.as_slice.result.now
    (λ f at. c.as_slice.ensures.value ∙ c.in_ok-gather.ensures f at) c.push_record.ensures
