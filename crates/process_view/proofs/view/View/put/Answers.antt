use Rattle.process_view.proofs.Words.{ap, at_front, BoardState, class_of, get_or, length, Library, List, nowhere, object_at, Option, option_copied, own_write, ProcessView}
use Rattle.process_view.proofs.Words.{ResidenceFor, sym, with_own, write_ask, Written, written_to, ℕ, ◌∙◌, ◌≡◌}
use Rattle.process_view.proofs.Did.{may_by, adds_by, own_is_to, with_asked, IsAt, did_put, done_by, put_asked, read_put, write_used}
use Rattle.process_view.proofs.view.View.put.Goals as goal

pub class_at-class-requires-clause-used : goal.class_at-class-requires-clause-used
class_at-class-requires-clause-used c = write_used c.args.self.now c.requires.planned.0 c.args.place.now c.args.bytes.now c.requires.planned.1.accepted c.requires.planned.1.means.0

pub add_write-requires-clause-may : goal.add_write-requires-clause-may
add_write-requires-clause-may c =
    let v = c.args.self.now in
    let b = c.args.board.now in
    let at = c.args.place.now in
    let r = get_or v.residences c.args.k nowhere in
    let class = c.class_at-class.result in
    let plan = c.requires.planned.1 in
    let here : IsAt b v = record { process = c.pid-pid.ensures.process; legal = c.history.ensures.legal; stands = c.requires.stands } in
    let is = put_asked b v c.requires.planned.0 at c.args.bytes.now c.args.k nowhere class here plan.accepted plan.means.0 plan.means.1 c.requires.fits (c.class_at-class.ensures nowhere) in
    let serial : c.serial-serial.result ≡ r.serial = c.serial-serial.ensures ∙ ap (λ (q : ResidenceFor). q.serial) (c.residence.ensures nowhere) in (
      r.«module»,
      may_by b v c.requires.planned.0 _ _ c.pid-pid.result is.0 c.pid-pid.ensures.number
          (ap (λ (n : ℕ). write_ask class n r.«module» at c.as_slice-2.result.now) serial ∙ ap (write_ask class r.serial r.«module» at) c.as_slice-2.ensures),
    )

pub keep_own-requires-clause-named : goal.keep_own-requires-clause-named
keep_own-requires-clause-named c = rw c.in_ok-spares.ensures.same c.requires.planned.1.means.1

pub keep_own-requires-clause-used : goal.keep_own-requires-clause-used
keep_own-requires-clause-used c = rw c.in_ok-spares.ensures.same (write_used c.args.self.now c.requires.planned.0 c.args.place.now c.args.bytes.now c.requires.planned.1.accepted c.requires.planned.1.means.0)

pub keep_own-requires-clause-place : goal.keep_own-requires-clause-place
keep_own-requires-clause-place c =
    rw (c.as_ref.ensures.value, c.in_ok-own.ensures, c.as_slice.ensures) (own_is_to c.class_at-class.result c.args.place.now c.args.bytes.now c.requires.fits)

pub returns : goal.returns
returns c = λ command plan.
    let v = c.args.self.now in
    let b = c.args.board.now in
    let at = c.args.place.now in
    let bytes = c.args.bytes.now in
    let r = get_or v.residences c.args.k nowhere in
    let class = c.class_at-class.result in
    let here : IsAt b v = record { process = c.pid-pid.ensures.process; legal = c.history.ensures.legal; stands = c.requires.stands } in
    let is = put_asked b v command at bytes c.args.k nowhere class here plan.accepted plan.means.0 plan.means.1 c.requires.fits (c.class_at-class.ensures nowhere) in
    let ask = write_ask class r.serial r.«module» at bytes in
    let serial : c.serial-serial.result ≡ r.serial = c.serial-serial.ensures ∙ ap (λ (q : ResidenceFor). q.serial) (c.residence.ensures nowhere) in
    let asks = ap (λ (n : ℕ). write_ask class n r.«module» at c.as_slice-2.result.now) serial ∙ ap (write_ask class r.serial r.«module» at) c.as_slice-2.ensures in
    let may = may_by b v command ask _ c.pid-pid.result is.0 c.pid-pid.ensures.number asks in
    let adds : c.add_write.new.board ≡ with_asked b v ask = adds_by b c.add_write.new.board v ask _ c.pid-pid.result (c.in_ok-add_write.ensures.entry r.«module» may) c.pid-pid.ensures.number asks in
    let of_class : class_of (object_at b.library r.«module» at.object) ≡ class = ap (λ (l : Library). class_of (object_at l r.«module» at.object)) (sym c.requires.stands.library) ∙ c.class_at-class.ensures nowhere in
    let kept : c.keep_own.new.self ≡ with_own r.serial (own_write class (written_to at bytes)) v =
    c.keep_own.ensures nowhere
    ∙ ap (λ (u : ProcessView). with_own (get_or u.residences c.args.k nowhere).serial (option_copied c.as_ref.result) u) c.in_ok-spares.ensures.same
    ∙ ap (λ (o : Option Written). with_own r.serial o v) (c.as_ref.ensures.value ∙ c.in_ok-own.ensures ∙ ap (λ (bs : List ℕ). own_write class (written_to at bs)) c.as_slice.ensures)
    in
    let next = c.follow.ensures ∙ ap (λ (l : BoardState). at_front (length l.history) c.keep_spares.new.self) adds ∙ ap (at_front (length (with_asked b v ask).history)) (c.keep_spares.ensures ∙ kept) in
    done_by b c.add_write.new.board v _ c.follow.new.self command ask _
    (did_put c.residences_stay.ensures.still c.residences_stay.ensures.bases c.views_stand.ensures.quiet b v command class r.serial r.«module» at bytes is.0 of_class is.1) adds next (read_put b v.holding.pid class r.serial r.«module» at bytes)
