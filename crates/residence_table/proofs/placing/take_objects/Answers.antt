use Rattle.std.proofs.Common.{arith, ◌∙◌, ap, ◌++◌, map}
use Rattle.std.specs.Prelude.{zip}
use Rattle.std.proofs.lemmas.List.{take_all, length-map}
use Rattle.std.proofs.lemmas.Slice.Zip.{length-zip}
use Rattle.base_pick.specs.Places.{shared_arena}
use Rattle.lx_types.specs.Parts.{no_object}
use Rattle.load_model.specs.Entering.{range_of}
use Rattle.residence_table.proofs.Placed.{stand_each, object_shared, ranges_more}
use Rattle.residence_table.proofs.placing.take_objects.Goals as goal

pub bounds-bases-place : goal.bounds-bases-place
bounds-bases-place c = (let each = stand_each shared_arena c.args.objects.now c.args.bases.now c.requires in omega (arith, each, c.loop-place-test.true))

pub add-requires-clause-shared : goal.add-requires-clause-shared
add-requires-clause-shared c = (object_shared c.args.objects.now c.args.bases.now c.loop-place.place no_object c.requires c.loop-place-test.true).from

pub add-requires-clause-within : goal.add-requires-clause-within
add-requires-clause-within c = (object_shared c.args.objects.now c.args.bases.now c.loop-place.place no_object c.requires c.loop-place-test.true).to

pub loop-place-preserved : goal.loop-place-preserved
loop-place-preserved c =
    ranges_more c.args.objects.now c.args.bases.now c.loop-place.place no_object c.args.occupied.now c.loop-place.occupied _ (stand_each shared_arena c.args.objects.now c.args.bases.now c.requires)
    c.loop-place-test.true c.loop-place.invariant c.in_ok-add.ensures

pub returns : goal.returns
returns c =
    let each = stand_each shared_arena c.args.objects.now c.args.bases.now c.requires in
    let long = length-map (zip c.args.objects.now c.args.bases.now) range_of in
    let zipped = length-zip c.args.objects.now c.args.bases.now in
    c.loop-place.invariant
    ∙ ap (λ xs. c.args.occupied.now ++ xs) (take_all c.loop-place.place (map range_of (zip c.args.objects.now c.args.bases.now)) (omega (arith, each, long, zipped, c.loop-place-test.false)))
