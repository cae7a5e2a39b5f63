use Rattle.process_pages.proofs.Words.{ap, arith, byte_by, length, map, range_with_len, ℕ, ◌∙◌, ◌≡◌}
use Rattle.process_pages.proofs.Copies.{numbers_from}
use Rattle.process_pages.proofs.reading.copy_out.Goals as goal

pub returns : goal.returns
returns c =
    let f : ℕ → ℕ = byte_by c.args.places.now c.args.pages.now c.args.place.now.object in
    let long : length c.loop-done.into ≡ c.args.place.now.len = c.loop-done.auto.into ∙ c.requires.fits in
    numbers_from f c.args.place.now.offset c.loop-done.into (λ k u. c.loop-done.invariant.1 k (omega (arith, long))) ∙ ap (λ (n : ℕ). map f (range_with_len c.args.place.now.offset n)) long
