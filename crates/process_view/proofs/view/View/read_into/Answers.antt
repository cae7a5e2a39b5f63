use Rattle.process_view.proofs.Words.{ap, at_front, BoardState, get, get_or, inr, length, nowhere, read_run, ResidenceFor, ℕ, ◌∙◌, ◌≡◌}
use Rattle.process_view.proofs.Did.{may_by, adds_by, with_asked, IsAt, done_by, read_asked}
use Rattle.process_view.proofs.SharedReads.{did_shared, read_in, refused_share, shared_fixed}
use Rattle.process_view.proofs.view.View.read_into.Goals as goal

pub copy_place-requires-clause-used : goal.copy_place-requires-clause-used
copy_place-requires-clause-used c = inr (refused_share c.args.self.now c.requires.planned.0 c.args.place.now c.requires.planned.1.accepted c.requires.planned.1.means.0)

pub read_shared-requires-clause-may : goal.read_shared-requires-clause-may
read_shared-requires-clause-may c =
    let v = c.args.self.now in
    let b = c.args.board.now in
    let at = c.args.place.now in
    let r = get_or v.residences c.args.k nowhere in
    let plan = c.requires.planned.1 in
    let here : IsAt b v = record { process = c.pid-pid.ensures.process; legal = c.history.ensures.legal; stands = c.requires.stands } in
    let is = read_asked b v c.requires.planned.0 at c.args.k nowhere here plan.accepted plan.means.0 plan.means.1 in
    let serial : c.serial-serial.result ≡ r.serial = c.serial-serial.ensures ∙ ap (λ (q : ResidenceFor). q.serial) (c.residence.ensures nowhere) in
    let long : length c.copy_place.new.into ≡ at.len = c.copy_place.auto.into ∙ c.requires.fits in (
      r.«module»,
      may_by b v c.requires.planned.0 (get r.serial r.«module» at.object at.offset at.len) _ c.pid-pid.result is c.pid-pid.ensures.number
          (ap (λ (n : ℕ). get n r.«module» at.object at.offset (length c.copy_place.new.into)) serial ∙ ap (get r.serial r.«module» at.object at.offset) long),
    )

pub read_shared-requires-clause-fixed : goal.read_shared-requires-clause-fixed
read_shared-requires-clause-fixed c = λ m asked.
    let v = c.args.self.now in
    let b = c.args.board.now in
    let plan = c.requires.planned.1 in
    let here : IsAt b v = record { process = c.pid-pid.ensures.process; legal = c.history.ensures.legal; stands = c.requires.stands } in
    let none = refused_share v c.requires.planned.0 c.args.place.now plan.accepted plan.means.0 in
    shared_fixed b v c.args.place.now c.args.k nowhere c.pid-pid.result c.serial-serial.result m (length c.copy_place.new.into) c.copy_place.new.into here none plan.means.1 c.pid-pid.ensures.number
    (c.serial-serial.ensures ∙ ap (λ (q : ResidenceFor). q.serial) (c.residence.ensures nowhere)) (c.copy_place.auto.into ∙ c.requires.fits) c.copy_place.ensures asked

pub returns : goal.returns
returns c = λ command plan.
    let v = c.args.self.now in
    let b = c.args.board.now in
    let at = c.args.place.now in
    let r = get_or v.residences c.args.k nowhere in
    let number = c.pid-pid.ensures.number in
    let here : IsAt b v = record { process = c.pid-pid.ensures.process; legal = c.history.ensures.legal; stands = c.requires.stands } in
    let is = read_asked b v command at c.args.k nowhere here plan.accepted plan.means.0 plan.means.1 in
    let serial : c.serial-serial.result ≡ r.serial = c.serial-serial.ensures ∙ ap (λ (q : ResidenceFor). q.serial) (c.residence.ensures nowhere) in
    let long : length c.copy_place.new.into ≡ at.len = c.copy_place.auto.into ∙ c.requires.fits in
    let ask = get r.serial r.«module» at.object at.offset at.len in
    let asks = ap (λ (n : ℕ). get n r.«module» at.object at.offset (length c.copy_place.new.into)) serial ∙ ap (get r.serial r.«module» at.object at.offset) long in
    let told = c.in_ok-read_shared.ensures.read r.«module» (may_by b v command ask _ c.pid-pid.result is number asks) in
    let adds : c.read_shared.new.self ≡ with_asked b v ask = adds_by b c.read_shared.new.self v ask _ c.pid-pid.result told.adds number asks in
    let bytes : c.read_shared.new.into ≡ read_run b v.holding.pid r.«module» at.object at.offset at.len =
    told.bytes
    ∙ ap (λ (n : ℕ). read_run b n r.«module» at.object at.offset (length c.copy_place.new.into)) number
    ∙ ap (λ (n : ℕ). read_run b v.holding.pid r.«module» at.object at.offset n) long
    in
    done_by b c.read_shared.new.self v _ c.follow.new.self command ask _
    (did_shared c.residences_stay.ensures.still c.residences_stay.ensures.bases c.views_stand.ensures.quiet b v command r.serial r.«module» at.object at.offset at.len is) adds
    (c.follow.ensures ∙ ap (λ (l : BoardState). at_front (length l.history) v) adds) (bytes ∙ read_in b v.holding.pid r.serial r.«module» at.object at.offset at.len)
