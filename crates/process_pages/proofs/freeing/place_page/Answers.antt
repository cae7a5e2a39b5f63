use Rattle.std.proofs.Common.{◌≡◌, ◌∙◌, ◌==◌, ℕ, None, false, length, refl, sym, ap, get_or}
use Rattle.process_pages.proofs.Words.{get_or_default, PageId, position, ReachedResidence, residence_in, with_first_place}
use Rattle.std.proofs.lemmas.List.Quantifiers.{position-Some}
use Rattle.process_pages.proofs.Placing.{residences_set, placed_first, other_placed, same_number, differs, none_passes}
use Rattle.process_pages.proofs.freeing.place_page.Goals as goal

pub returns-in-Some-clause-residences : goal.returns-in-Some-clause-residences
returns-in-Some-clause-residences c =
    let residences = c.args.residences.now in
    let k = c.in-Some.k in
    let s = get_or residences k c.index-residences-k.result in
    let t : ReachedResidence = record { residence = s.residence; places = c.put_first.new.self } in
    let there = position-Some (λ (y : ReachedResidence). (residence_in y).serial == c.serial.result) residences k s (sym c.serial_place.ensures ∙ c.in-Some.is) in
    residences_set residences k t (ap residence_in (get_or_default residences k c.index-residences-k.result t there.0))

pub returns-in-Some-clause-placed : goal.returns-in-Some-clause-placed
returns-in-Some-clause-placed c = λ lib mapped long apart all.
    let residences = c.args.residences.now in
    let k = c.in-Some.k in
    let x = c.args.page.now in
    let s = get_or residences k c.index-residences-k.result in
    let t : ReachedResidence = record { residence = s.residence; places = c.put_first.new.self } in
    let there = position-Some (λ (y : ReachedResidence). (residence_in y).serial == c.serial.result) residences k s (sym c.serial_place.ensures ∙ c.in-Some.is) in
    let here : s ≡ get_or residences k s = get_or_default residences k c.index-residences-k.result s there.0 in
    let own : (residence_in s).serial ≡ x.of.serial = ap (λ (y : ReachedResidence). (residence_in y).serial) here ∙ same_number _ _ there.1 ∙ c.serial.ensures in
    let put : t.places ≡ with_first_place s.places x.of.page (length mapped) =
    c.put_first.ensures ∙ ap (λ (p : PageId). with_first_place s.places p c.args.place) c.page.ensures.page ∙ ap (λ (n : ℕ). with_first_place s.places x.of.page n) (sym long)
    in
    placed_first lib mapped residences k s t x all apart there.0 here own refl put

pub returns-in_default-clause-placed : goal.returns-in_default-clause-placed
returns-in_default-clause-placed c = λ lib mapped long apart all k d u.
    let residences = c.args.residences.now in
    let x = c.args.page.now in
    let s = get_or residences k d in
    let none : position (λ (y : ReachedResidence). (residence_in y).serial == c.serial.result) residences ≡ None = sym c.serial_place.ensures ∙ c.in_default.is in
    let other : ((residence_in s).serial == c.serial.result) ≡ false = none_passes (λ (y : ReachedResidence). (residence_in y).serial == c.serial.result) residences k d none u in
    other_placed lib mapped s x (all k d u) (λ e. differs _ _ (ap (λ (n : ℕ). (residence_in s).serial == n) (sym c.serial.ensures) ∙ other) (sym e))
