use Rattle.std.proofs.Common.{◌≡◌, ℕ, true, false, List, ◌++◌, length, map, sym, ap, ◌∙◌, arith}
use Rattle.std.specs.List.{list_any}
use Rattle.std.proofs.lemmas.List.{length-map}
use Rattle.obj_types.specs.declared.object.FixAt.{FixAt}
use Rattle.obj_types.specs.declared.parts.LastData.TheVariants as datas
use Rattle.obj_types.specs.Location.{location_len, meets}
use Rattle.omf_model.specs.Blocks.{origins, contents}
use Rattle.omf_model.specs.Fixups.{places_of}
use Rattle.omf_model.specs.ReadBlocks.{blocks_in}
use Rattle.omf_model.proofs.BegunLaws.{begun-whole}
use Rattle.omf_fix.specs.FixData.{data_of, meant}
use Rattle.omf_fix.specs.Placed.{fix_of}
use Rattle.omf_fix.proofs.Judged.{no-data, overlap, too-many, good}
use Rattle.omf_fix.proofs.Marked.{some-bytes, touch-copies}
use Rattle.omf_fix.proofs.OnBlocks.{blocks-on, blocks-news, blocks-lie, copies-apart}
use Rattle.omf_fix.proofs.blocks.add_blocks.Goals as goal

pub returns-then-not-is_in_block-clause-placed : goal.returns-then-not-is_in_block-clause-placed
returns-then-not-is_in_block-clause-placed c =
    let last : c.args.into.now.last ≡ datas.Blocks c.in-Blocks.seg c.in-Blocks.offset c.in-Blocks.wide c.in-Blocks.body = (let q = c.in-Blocks.is in cc) in
    let low = c.from-low.ensures ∙ c.offset.ensures.value in
    let size = c.from-size.ensures ∙ c.location_len.ensures.value ∙ ap location_len c.location.ensures.value in
    let blocks = c.as_slice-2.ensures.value ∙ c.in_ok-copies_in-in-Blocks.ensures.contents ∙ ap (λ (bs : List ℕ). contents c.in-Blocks.wide 0 (blocks_in c.in-Blocks.wide bs)) c.as_slice.ensures in
    no-data c.args.into.now c.args.place _ (blocks-on c.args.into.now c.args.place c.in-Blocks.seg c.in-Blocks.offset c.in-Blocks.wide c.in-Blocks.body last c.from-low.result c.from-size.result c.as_slice-2.result.now false low size blocks (sym c.if-not-is_in_block.true ∙ c.is_in_block.ensures))

pub copies_of-requires : goal.copies_of-requires
copies_of-requires c =
    let last : c.args.into.now.last ≡ datas.Blocks c.in-Blocks.seg c.in-Blocks.offset c.in-Blocks.wide c.in-Blocks.body = (let q = c.in-Blocks.is in cc) in
    let low = c.from-low.ensures ∙ c.offset.ensures.value in
    let size = c.from-size.ensures ∙ c.location_len.ensures.value ∙ ap location_len c.location.ensures.value in
    let blocks = c.as_slice-2.ensures.value ∙ c.in_ok-copies_in-in-Blocks.ensures.contents ∙ ap (λ (bs : List ℕ). contents c.in-Blocks.wide 0 (blocks_in c.in-Blocks.wide bs)) c.as_slice.ensures in
    let own = c.as_slice-3.ensures.value ∙ c.in_ok-copies_in-in-Blocks.ensures.places ∙ ap (λ (bs : List ℕ). places_of c.from-low.result (origins c.in-Blocks.wide 0 (blocks_in c.in-Blocks.wide bs))) c.as_slice.ensures in
    blocks-lie c.args.into.now c.args.place c.in-Blocks.seg c.in-Blocks.offset c.in-Blocks.wide c.in-Blocks.body last (begun-whole c.args.into.now c.requires.begun) c.from-low.result c.as_slice-3.result.now own c.as_slice-segs.result.now c.as_slice-segs.ensures

pub returns-then-meets-clause-placed : goal.returns-then-meets-clause-placed
returns-then-meets-clause-placed c =
    let last : c.args.into.now.last ≡ datas.Blocks c.in-Blocks.seg c.in-Blocks.offset c.in-Blocks.wide c.in-Blocks.body = (let q = c.in-Blocks.is in cc) in
    let low = c.from-low.ensures ∙ c.offset.ensures.value in
    let size = c.from-size.ensures ∙ c.location_len.ensures.value ∙ ap location_len c.location.ensures.value in
    let blocks = c.as_slice-2.ensures.value ∙ c.in_ok-copies_in-in-Blocks.ensures.contents ∙ ap (λ (bs : List ℕ). contents c.in-Blocks.wide 0 (blocks_in c.in-Blocks.wide bs)) c.as_slice.ensures in
    let own = c.as_slice-3.ensures.value ∙ c.in_ok-copies_in-in-Blocks.ensures.places ∙ ap (λ (bs : List ℕ). places_of c.from-low.result (origins c.in-Blocks.wide 0 (blocks_in c.in-Blocks.wide bs))) c.as_slice.ensures in
    let on = blocks-on c.args.into.now c.args.place c.in-Blocks.seg c.in-Blocks.offset c.in-Blocks.wide c.in-Blocks.body last c.from-low.result c.from-size.result c.as_slice-2.result.now true low size blocks (sym c.if-not-is_in_block.false ∙ c.is_in_block.ensures) in
    let news = blocks-news c.args.into.now c.args.place c.in-Blocks.seg c.in-Blocks.offset c.in-Blocks.wide c.in-Blocks.body last (data_of c.args.d) c.from-low.result c.as_slice-3.result.now c.in_ok-copies.copies.items low own c.in_ok-copies.ensures in
    let apart = copies-apart c.args.into.now.module.fixes (λ x. fix_of c.in-Blocks.seg x c.args.place.high (meant c.args.into.now.threads (data_of c.args.d))) c.in_ok-copies.copies.items true
    (sym c.if-meets.true ∙ c.in_ok-meets.ensures.meets ∙ touch-copies c.args.into.now.module.fixes c.in-Blocks.seg c.from-size.result c.args.place.high (meant c.args.into.now.threads (data_of c.args.d)) size (some-bytes c.args.place.high c.requires.location) c.as_slice-4.result.now ∙ (λ i. list_any (λ x. list_any (λ f. meets f (fix_of c.in-Blocks.seg x c.args.place.high (meant c.args.into.now.threads (data_of c.args.d)))) c.args.into.now.module.fixes) (c.as_slice-4.ensures.value i))) in
    overlap c.args.into.now c.args.place _ _ on news apart

pub returns-then-as_slice-len-clause-placed : goal.returns-then-as_slice-len-clause-placed
returns-then-as_slice-len-clause-placed c =
    let last : c.args.into.now.last ≡ datas.Blocks c.in-Blocks.seg c.in-Blocks.offset c.in-Blocks.wide c.in-Blocks.body = (let q = c.in-Blocks.is in cc) in
    let low = c.from-low.ensures ∙ c.offset.ensures.value in
    let size = c.from-size.ensures ∙ c.location_len.ensures.value ∙ ap location_len c.location.ensures.value in
    let blocks = c.as_slice-2.ensures.value ∙ c.in_ok-copies_in-in-Blocks.ensures.contents ∙ ap (λ (bs : List ℕ). contents c.in-Blocks.wide 0 (blocks_in c.in-Blocks.wide bs)) c.as_slice.ensures in
    let own = c.as_slice-3.ensures.value ∙ c.in_ok-copies_in-in-Blocks.ensures.places ∙ ap (λ (bs : List ℕ). places_of c.from-low.result (origins c.in-Blocks.wide 0 (blocks_in c.in-Blocks.wide bs))) c.as_slice.ensures in
    let on = blocks-on c.args.into.now c.args.place c.in-Blocks.seg c.in-Blocks.offset c.in-Blocks.wide c.in-Blocks.body last c.from-low.result c.from-size.result c.as_slice-2.result.now true low size blocks (sym c.if-not-is_in_block.false ∙ c.is_in_block.ensures) in
    let news = blocks-news c.args.into.now c.args.place c.in-Blocks.seg c.in-Blocks.offset c.in-Blocks.wide c.in-Blocks.body last (data_of c.args.d) c.from-low.result c.as_slice-3.result.now c.in_ok-copies.copies.items low own c.in_ok-copies.ensures in
    let apart = copies-apart c.args.into.now.module.fixes (λ x. fix_of c.in-Blocks.seg x c.args.place.high (meant c.args.into.now.threads (data_of c.args.d))) c.in_ok-copies.copies.items false
    (sym c.if-meets.false ∙ c.in_ok-meets.ensures.meets ∙ touch-copies c.args.into.now.module.fixes c.in-Blocks.seg c.from-size.result c.args.place.high (meant c.args.into.now.threads (data_of c.args.d)) size (some-bytes c.args.place.high c.requires.location) c.as_slice-4.result.now ∙ (λ i. list_any (λ x. list_any (λ f. meets f (fix_of c.in-Blocks.seg x c.args.place.high (meant c.args.into.now.threads (data_of c.args.d)))) c.args.into.now.module.fixes) (c.as_slice-4.ensures.value i))) in
    let long = length-map c.in_ok-copies.copies.items (λ x. fix_of c.in-Blocks.seg x c.args.place.high (meant c.args.into.now.threads (data_of c.args.d))) in
    too-many c.args.into.now c.args.place _ _ on news apart (omega (arith, long, c.if-as_slice-len.true, c.len.ensures, c.in_ok-copies.copies.ok.0, ap (λ (fs : List FixAt). length fs) c.as_slice-5.ensures))

pub returns-clause-placed : goal.returns-clause-placed
returns-clause-placed c =
    let last : c.args.into.now.last ≡ datas.Blocks c.in-Blocks.seg c.in-Blocks.offset c.in-Blocks.wide c.in-Blocks.body = (let q = c.in-Blocks.is in cc) in
    let low = c.from-low.ensures ∙ c.offset.ensures.value in
    let size = c.from-size.ensures ∙ c.location_len.ensures.value ∙ ap location_len c.location.ensures.value in
    let blocks = c.as_slice-2.ensures.value ∙ c.in_ok-copies_in-in-Blocks.ensures.contents ∙ ap (λ (bs : List ℕ). contents c.in-Blocks.wide 0 (blocks_in c.in-Blocks.wide bs)) c.as_slice.ensures in
    let own = c.as_slice-3.ensures.value ∙ c.in_ok-copies_in-in-Blocks.ensures.places ∙ ap (λ (bs : List ℕ). places_of c.from-low.result (origins c.in-Blocks.wide 0 (blocks_in c.in-Blocks.wide bs))) c.as_slice.ensures in
    let on = blocks-on c.args.into.now c.args.place c.in-Blocks.seg c.in-Blocks.offset c.in-Blocks.wide c.in-Blocks.body last c.from-low.result c.from-size.result c.as_slice-2.result.now true low size blocks (sym c.if-not-is_in_block.false ∙ c.is_in_block.ensures) in
    let news = blocks-news c.args.into.now c.args.place c.in-Blocks.seg c.in-Blocks.offset c.in-Blocks.wide c.in-Blocks.body last (data_of c.args.d) c.from-low.result c.as_slice-3.result.now c.in_ok-copies.copies.items low own c.in_ok-copies.ensures in
    let apart = copies-apart c.args.into.now.module.fixes (λ x. fix_of c.in-Blocks.seg x c.args.place.high (meant c.args.into.now.threads (data_of c.args.d))) c.in_ok-copies.copies.items false
    (sym c.if-meets.false ∙ c.in_ok-meets.ensures.meets ∙ touch-copies c.args.into.now.module.fixes c.in-Blocks.seg c.from-size.result c.args.place.high (meant c.args.into.now.threads (data_of c.args.d)) size (some-bytes c.args.place.high c.requires.location) c.as_slice-4.result.now ∙ (λ i. list_any (λ x. list_any (λ f. meets f (fix_of c.in-Blocks.seg x c.args.place.high (meant c.args.into.now.threads (data_of c.args.d)))) c.args.into.now.module.fixes) (c.as_slice-4.ensures.value i))) in
    let long = length-map c.in_ok-copies.copies.items (λ x. fix_of c.in-Blocks.seg x c.args.place.high (meant c.args.into.now.threads (data_of c.args.d))) in
    good c.args.into.now c.args.place _ _ c.push_copies.new.fixes (begun-whole c.args.into.now c.requires.begun).four on news apart
    (omega (arith, long, c.if-as_slice-len.false, c.len.ensures, c.in_ok-copies.copies.ok.0, ap (λ (fs : List FixAt). length fs) c.as_slice-5.ensures))
    (c.in_ok-push_copies.ensures ∙ (λ i. c.args.into.now.module.fixes ++ map (λ x. fix_of c.in-Blocks.seg x c.args.place.high (c.meaning-what.ensures i)) (c.as_slice-6.ensures.value i)))
