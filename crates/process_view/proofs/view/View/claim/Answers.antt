use Rattle.std.proofs.Common.{◌≡◌, ◌∙◌, ◌++◌, ◌∷◌, [], ℕ, false, length, get_or, sym, ap}
use Rattle.process_view.proofs.Words.{at_front, BoardState, entry_of, fault, fault_of, get_or_default, has_fault, IsGiven, nowhere, ResidenceFor, with_entry}
use Rattle.process_view.proofs.Claims.{may_claim, fault_is, fault_follows, claim_stands}
use Rattle.process_view.proofs.Shown.{attached}
use Rattle.process_view.proofs.view.View.claim.Goals as goal

pub fault-requires-clause-process : goal.fault-requires-clause-process
fault-requires-clause-process c = rw c.pid-pid.ensures.number c.pid-pid.ensures.process

pub fault-requires-clause-may : goal.fault-requires-clause-may
fault-requires-clause-may c =
    let v = c.args.self.now in
    let b = c.args.board.now in
    let p = c.args.p in
    let r = get_or v.residences c.args.k nowhere in
    let own = attached b v c.args.k r c.requires.stands c.requires.residence (get_or_default v.residences c.args.k nowhere r c.requires.residence) in
    let serial : c.serial-serial.result ≡ r.serial = c.serial-serial.ensures ∙ ap (λ (q : ResidenceFor). q.serial) (c.residence.ensures nowhere) in
    (r.«module», rw (c.pid-pid.ensures.number, serial) (may_claim b v r own.0 p c.requires.stands c.requires.going own.1 (c.requires.page nowhere) (c.requires.shared nowhere)))

pub returns-in-Right : goal.returns-in-Right
returns-in-Right c = λ d.
    let v = c.args.self.now in
    let b = c.args.board.now in
    let p = c.args.p in
    let r = get_or v.residences c.args.k d in
    let own = attached b v c.args.k r c.requires.stands c.requires.residence (get_or_default v.residences c.args.k d r c.requires.residence) in
    let number = c.pid-pid.ensures.number in
    let serial : c.serial-serial.result ≡ r.serial = c.serial-serial.ensures ∙ ap (λ (q : ResidenceFor). q.serial) (c.residence.ensures d) in
    let may = may_claim b v r own.0 p c.requires.stands c.requires.going own.1 (c.requires.page d) (c.requires.shared d) in
    let given : IsGiven b c.fault.new.self c.pid-pid.result c.serial-serial.result p c.in-Right.right = rw c.in-Right.is at c.in_ok-right.ensures.claim in
    let x = fault_of v r p in
    let adds : c.fault.new.self ≡ with_entry b x =
    given.adds r.«module» (rw (number, serial) may)
    ∙ ap (λ (n : ℕ). with_entry b (entry_of b n (fault c.serial-serial.result r.«module» p))) number ∙ ap (λ (n : ℕ). with_entry b (entry_of b v.holding.pid (fault n r.«module» p))) serial
    ∙ ap (with_entry b) (fault_is b v r p)
    in
    let first : has_fault b.history r.serial p ≡ false = ap (λ (n : ℕ). has_fault b.history n p) (sym serial) ∙ given.first in
    let follows = fault_follows b v r p c.pid-pid.ensures.process may first in
    let next : c.follow.new.self ≡ at_front (length (b.history ++ x ∷ [])) v = c.follow.ensures ∙ ap (λ (l : BoardState). at_front (length l.history) v) adds in
    let stands = claim_stands c.residences_stay.ensures.still c.residences_stay.ensures.bases c.views_stand.ensures.quiet b v r p c.history.ensures.legal c.requires.stands follows in
    let right : c.in-Right.right ≡ record { serial = r.serial; page = p } =
    ap (λ (n : ℕ). record { serial = n; page = c.in-Right.right.page }) (given.named.0 ∙ serial) ∙ ap (λ q. record { serial = r.serial; page = q }) given.named.1
    in
    (right, adds, follows, c.follow.ensures, rw (adds, next) stands)
