use Rattle.std.proofs.Common.{◌∷◌, [], ◌+◌, true, false, ℕ, length, List, sym, ap, ◌∙◌, arith}
use Rattle.std.specs.List.{list_any}
use Rattle.std.proofs.lemmas.Bool.{le-leb, lt-leb}
use Rattle.obj_types.specs.declared.object.FixAt.{FixAt}
use Rattle.obj_types.specs.Location.{location_len, meets}
use Rattle.omf_model.proofs.BegunLaws.{begun-whole}
use Rattle.omf_fix.specs.Placed.{fix_of}
use Rattle.omf_fix.proofs.Judged.{no-data, overlap, too-many, good, straight-news, straight-on, straight-lies, apart-one}
use Rattle.omf_fix.proofs.Marked.{some-bytes, touch-any}
use Rattle.omf_fix.proofs.place.add_straight.Goals as goal

pub returns-then-offset-size-clause-placed : goal.returns-then-offset-size-clause-placed
returns-then-offset-size-clause-placed c =
    let size = c.from-size.ensures ∙ c.location_len.ensures.value ∙ ap location_len c.location.ensures.value in
    let off = c.from-offset.ensures ∙ c.offset.ensures.value in
    no-data c.args.into.now c.args.place _ (straight-on c.args.into.now c.args.place c.args.data.seg c.args.data.start c.args.data.len false c.requires.last (lt-leb _ _ (omega (arith, off, size, c.if-offset-size.true))))

pub in_straight-segment_offset-requires : goal.in_straight-segment_offset-requires
in_straight-segment_offset-requires c =
    straight-lies c.args.into.now c.args.data.seg c.args.data.start c.args.data.len c.from-offset.result (begun-whole c.args.into.now c.requires.begun) c.requires.last (omega (arith, c.if-offset-size.false))

pub returns-then-on_fix-clause-placed : goal.returns-then-on_fix-clause-placed
returns-then-on_fix-clause-placed c =
    let size = c.from-size.ensures ∙ c.location_len.ensures.value ∙ ap location_len c.location.ensures.value in
    let off = c.from-offset.ensures ∙ c.offset.ensures.value in
    let fix = c.fix_at-fix.ensures ∙ (λ i. fix_of c.args.data.seg ((c.in_straight-segment_offset.ensures ∙ ap (λ (n : ℕ). c.args.data.start + n) off) i) c.args.place.high (c.meaning.ensures i)) in
    overlap c.args.into.now c.args.place _ _ (straight-on c.args.into.now c.args.place c.args.data.seg c.args.data.start c.args.data.len true c.requires.last (le-leb _ _ (omega (arith, off, size, c.if-offset-size.false))))
    (straight-news c.args.into.now c.args.place _ c.args.data.seg c.args.data.start c.args.data.len c.requires.last ∙ ap (λ (g : FixAt). g ∷ []) (sym fix))
    (apart-one c.args.into.now.module.fixes c.fix_at-fix.result true (sym c.if-on_fix.true ∙ c.in_ok-on_fix.ensures.on ∙ touch-any c.args.into.now.module.fixes c.args.data.seg c.in_straight-segment_offset.result c.from-size.result c.args.place.high c.meaning.result size (some-bytes c.args.place.high c.requires.location) ∙ ap (λ (g : FixAt). list_any (λ f. meets f g) c.args.into.now.module.fixes) (sym c.fix_at-fix.ensures)))

pub returns-then-as_slice-clause-placed : goal.returns-then-as_slice-clause-placed
returns-then-as_slice-clause-placed c =
    let size = c.from-size.ensures ∙ c.location_len.ensures.value ∙ ap location_len c.location.ensures.value in
    let off = c.from-offset.ensures ∙ c.offset.ensures.value in
    let fix = c.fix_at-fix.ensures ∙ (λ i. fix_of c.args.data.seg ((c.in_straight-segment_offset.ensures ∙ ap (λ (n : ℕ). c.args.data.start + n) off) i) c.args.place.high (c.meaning.ensures i)) in
    too-many c.args.into.now c.args.place _ _ (straight-on c.args.into.now c.args.place c.args.data.seg c.args.data.start c.args.data.len true c.requires.last (le-leb _ _ (omega (arith, off, size, c.if-offset-size.false))))
    (straight-news c.args.into.now c.args.place _ c.args.data.seg c.args.data.start c.args.data.len c.requires.last ∙ ap (λ (g : FixAt). g ∷ []) (sym fix))
    (apart-one c.args.into.now.module.fixes c.fix_at-fix.result false (sym c.if-on_fix.false ∙ c.in_ok-on_fix.ensures.on ∙ touch-any c.args.into.now.module.fixes c.args.data.seg c.in_straight-segment_offset.result c.from-size.result c.args.place.high c.meaning.result size (some-bytes c.args.place.high c.requires.location) ∙ ap (λ (g : FixAt). list_any (λ f. meets f g) c.args.into.now.module.fixes) (sym c.fix_at-fix.ensures)))
    (omega (arith, c.if-as_slice.true, ap (λ (fs : List FixAt). length fs) c.as_slice.ensures))

pub returns-clause-placed : goal.returns-clause-placed
returns-clause-placed c =
    let size = c.from-size.ensures ∙ c.location_len.ensures.value ∙ ap location_len c.location.ensures.value in
    let off = c.from-offset.ensures ∙ c.offset.ensures.value in
    let fix = c.fix_at-fix.ensures ∙ (λ i. fix_of c.args.data.seg ((c.in_straight-segment_offset.ensures ∙ ap (λ (n : ℕ). c.args.data.start + n) off) i) c.args.place.high (c.meaning.ensures i)) in
    good c.args.into.now c.args.place _ _ c.push.new.self (begun-whole c.args.into.now c.requires.begun).four
    (straight-on c.args.into.now c.args.place c.args.data.seg c.args.data.start c.args.data.len true c.requires.last (le-leb _ _ (omega (arith, off, size, c.if-offset-size.false))))
    (straight-news c.args.into.now c.args.place _ c.args.data.seg c.args.data.start c.args.data.len c.requires.last ∙ ap (λ (g : FixAt). g ∷ []) (sym fix))
    (apart-one c.args.into.now.module.fixes c.fix_at-fix.result false (sym c.if-on_fix.false ∙ c.in_ok-on_fix.ensures.on ∙ touch-any c.args.into.now.module.fixes c.args.data.seg c.in_straight-segment_offset.result c.from-size.result c.args.place.high c.meaning.result size (some-bytes c.args.place.high c.requires.location) ∙ ap (λ (g : FixAt). list_any (λ f. meets f g) c.args.into.now.module.fixes) (sym c.fix_at-fix.ensures)))
    (omega (arith, c.if-as_slice.false, ap (λ (fs : List FixAt). length fs) c.as_slice.ensures))
    c.in_ok-push.ensures
