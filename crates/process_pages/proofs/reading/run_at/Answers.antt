use Rattle.process_pages.proofs.Words.{ap, AreThere, arith, bytes_at, bytes_in, false, IsThere, length, List, ltb-true, Mapped, mid_of, nat_lt, nat_tests, None}
use Rattle.process_pages.proofs.Words.{Option, page, PagePlaces, place_in, refl, slice_get, Some, sym, true, ℕ, ◌%◌, ◌+◌, ◌-◌, ◌/◌, ◌<◌, ◌∙◌, ◌≡◌, ◌≤◌}
use Rattle.std.proofs.lemmas.Option.{slice_get-get_or}
use Rattle.load_model.specs.declared.commands.Place.{Place}
use Rattle.process_pages.proofs.Copies.{cut_length, cut_of, run_in_page}
use Rattle.process_pages.proofs.reading.run_at.Goals as goal

first_there : (rows : PagePlaces) (pages : List Mapped) (at : Place) → 0 < at.len → AreThere rows pages at.object at.offset at.len → IsThere rows pages (page at.object (at.offset / 4096))
first_there rows pages at some there = there at.offset (omega arith) (omega (arith, some))

out_of : (slot k n : ℕ) → slot ≡ k → k < n → false ≡ nat_lt slot n → ⊥
out_of slot k n e u f = let less : nat_lt slot n ≡ true = grind (arith, nat_tests) in let wrong : false ≡ true = f ∙ less in cc

pub returns-in_err-get-clause-none : goal.returns-in_err-get-clause-none
returns-in_err-get-clause-none c =
    rw c.from_residual.ensures
    (λ lies there.
    let some : 0 < c.args.place.now.len = omega arith in
    let it = first_there c.args.places.now c.args.pages.now c.args.place.now some there in
    absurd (let wrong : None ≡ Some it.0 = sym c.in_err-get.was ∙ c.get.ensures ∙ it.1 in cc))

pub returns-in_err-page-clause-none : goal.returns-in_err-page-clause-none
returns-in_err-page-clause-none c =
    rw c.from_residual-in_err-page.ensures
    (λ lies there.
    let some : 0 < c.args.place.now.len = omega arith in
    let it = first_there c.args.places.now c.args.pages.now c.args.place.now some there in
    let both : Some c.in_ok-get.field-0 ≡ Some it.0 = sym c.in_ok-get.was ∙ c.get.ensures ∙ it.1 in
    let same : c.in_ok-get.field-0 ≡ it.0 = cc in
    absurd (out_of c.in_ok-get.field-0 it.0 (length c.args.pages.now) same it.2 c.in_err-page.ensures.lookup.0))

pub returns-clause-bytes : goal.returns-clause-bytes
returns-clause-bytes c =
    let rows = c.args.places.now in
    let pages = c.args.pages.now in
    let at = c.args.place.now in
    let slot = c.in_ok-get.field-0 in
    let x = c.in_ok-page.page.now in
    let place : place_in rows (page at.object (at.offset / 4096)) ≡ Some slot = sym c.get.ensures ∙ c.in_ok-get.was in
    let within : slot < length pages = ltb-true slot (length pages) (sym c.in_ok-page.ensures.lookup.0) in
    let there : slice_get pages slot ≡ Some x = slice_get-get_or pages slot x within ∙ ap (λ (y : Mapped). Some y) (sym c.in_ok-page.ensures.lookup.1) in
    let bytes : c.bytes.result.now ≡ bytes_at pages (place_in rows (page at.object (at.offset / 4096))) =
    c.bytes.ensures.bytes ∙ ap (λ (o : Option Mapped). bytes_in o) (sym there) ∙ ap (λ (o : Option ℕ). bytes_at pages o) (sym place)
    in
    let fits : at.offset % 4096 + at.len ≤ 4096 = omega (arith, c.if-within-len-gt-PAGE_LEN.false) in
    run_in_page rows pages at.object at.offset (at.offset % 4096) at.len c.bytes.result.now (mid_of (at.offset % 4096) (at.offset % 4096 + at.len - at.offset % 4096) c.bytes.result.now) refl fits bytes
    (cut_length (at.offset % 4096) at.len c.bytes.result.now c.bytes.ensures.length fits) (cut_of (at.offset % 4096) at.len c.bytes.result.now)
