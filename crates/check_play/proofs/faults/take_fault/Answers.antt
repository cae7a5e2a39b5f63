use Rattle.std.proofs.Common.{◌≡◌, ◌<◌, length, get_or, sym, ap, ◌∙◌, subst}
use Rattle.lx_types.specs.declared.object.PageId.{PageId}
use Rattle.page_fix.specs.Rights.{PageRight}
use Rattle.load_core.specs.declared.answers.Claim.TheVariants as claims
use Rattle.page_frames.specs.Residences.{ResidenceFor}
use Rattle.process_view.specs.ProcessViews.{ProcessView}
use Rattle.process_view.specs.Deeds.{CanMap, IsFixedIn, IsSharedPage, fixed_of}
use Rattle.check_play.proofs.TakenFaults.{nowhere, shown_roomy, roomy_can, shown_is, claimed_of, claimed_view, took_fault, had_fault}
use Rattle.check_play.proofs.faults.take_fault.Goals as goal

pub claim-requires-clause-page : goal.claim-requires-clause-page
claim-requires-clause-page g c =
    let n = length c.args.board.now.history in
    let room = c.prepare_page.new.self.page_room in
    let shown : c.follow.new.self ≡ shown_roomy n room c.args.view.now = shown_is c.args.view.now c.prepare_page.new.self c.follow.new.self n c.in_ok-bytes.ensures.same c.follow.ensures in
    λ d. subst (λ (u : ProcessView). CanMap u (get_or u.residences c.args.at.residence d) c.args.at.page) (sym shown)
    (roomy_can c.args.view.now n room (get_or c.args.view.now.residences c.args.at.residence d) c.args.at.page (c.requires.page d))

pub map_shared-requires-clause-room : goal.map_shared-requires-clause-room
map_shared-requires-clause-room g c =
    let n = length c.args.board.now.history in
    let room = c.prepare_page.new.self.page_room in
    let claimed = claimed_of c.args.board.now c.claim.new.board c.args.view.now c.follow.new.self c.claim.new.self n room c.args.at.residence c.args.at.page c.in_ok-right.field-0 (claims.Right c.in-Right.right)
    (shown_is c.args.view.now c.prepare_page.new.self c.follow.new.self n c.in_ok-bytes.ensures.same c.follow.ensures) c.in_ok-right.ensures c.in-Right.is
    in
    subst (λ (u : ProcessView). 0 < u.page_room)
    (sym (claimed_view c.args.board.now c.claim.new.board c.args.view.now c.claim.new.self room c.args.at.residence c.args.at.page nowhere c.in-Right.right (claimed nowhere)))
    c.in_ok-bytes.ensures.room

pub fix-fixed-requires-clause-residence : goal.fix-fixed-requires-clause-residence
fix-fixed-requires-clause-residence g c =
    let n = length c.args.board.now.history in
    let room = c.prepare_page.new.self.page_room in
    let claimed = claimed_of c.args.board.now c.claim.new.board c.args.view.now c.follow.new.self c.claim.new.self n room c.args.at.residence c.args.at.page c.in_ok-right.field-0 (claims.Right c.in-Right.right)
    (shown_is c.args.view.now c.prepare_page.new.self c.follow.new.self n c.in_ok-bytes.ensures.same c.follow.ensures) c.in_ok-right.ensures c.in-Right.is
    in
    subst (λ (u : ProcessView). c.args.at.residence < length u.residences)
    (sym (claimed_view c.args.board.now c.claim.new.board c.args.view.now c.claim.new.self room c.args.at.residence c.args.at.page nowhere c.in-Right.right (claimed nowhere)))
    c.requires.residence

pub publish-requires-clause-residence : goal.publish-requires-clause-residence
publish-requires-clause-residence g c =
    let n = length c.args.board.now.history in
    let room = c.prepare_page.new.self.page_room in
    let claimed = claimed_of c.args.board.now c.claim.new.board c.args.view.now c.follow.new.self c.claim.new.self n room c.args.at.residence c.args.at.page c.in_ok-right.field-0 (claims.Right c.in-Right.right)
    (shown_is c.args.view.now c.prepare_page.new.self c.follow.new.self n c.in_ok-bytes.ensures.same c.follow.ensures) c.in_ok-right.ensures c.in-Right.is
    in
    subst (λ (u : ProcessView). c.args.at.residence < length u.residences)
    (sym (claimed_view c.args.board.now c.claim.new.board c.args.view.now c.claim.new.self room c.args.at.residence c.args.at.page nowhere c.in-Right.right (claimed nowhere)))
    c.requires.residence

pub map_shared-requires-clause-residence : goal.map_shared-requires-clause-residence
map_shared-requires-clause-residence g c =
    let n = length c.args.board.now.history in
    let room = c.prepare_page.new.self.page_room in
    let claimed = claimed_of c.args.board.now c.claim.new.board c.args.view.now c.follow.new.self c.claim.new.self n room c.args.at.residence c.args.at.page c.in_ok-right.field-0 (claims.Right c.in-Right.right)
    (shown_is c.args.view.now c.prepare_page.new.self c.follow.new.self n c.in_ok-bytes.ensures.same c.follow.ensures) c.in_ok-right.ensures c.in-Right.is
    in
    subst (λ (u : ProcessView). c.args.at.residence < length u.residences)
    (sym (claimed_view c.args.board.now c.claim.new.board c.args.view.now c.claim.new.self room c.args.at.residence c.args.at.page nowhere c.in-Right.right (claimed nowhere)))
    c.requires.residence

pub fix-fixed-requires-clause-page : goal.fix-fixed-requires-clause-page
fix-fixed-requires-clause-page g c =
    let n = length c.args.board.now.history in
    let room = c.prepare_page.new.self.page_room in
    let claimed = claimed_of c.args.board.now c.claim.new.board c.args.view.now c.follow.new.self c.claim.new.self n room c.args.at.residence c.args.at.page c.in_ok-right.field-0 (claims.Right c.in-Right.right)
    (shown_is c.args.view.now c.prepare_page.new.self c.follow.new.self n c.in_ok-bytes.ensures.same c.follow.ensures) c.in_ok-right.ensures c.in-Right.is
    in
    let now = claimed_view c.args.board.now c.claim.new.board c.args.view.now c.claim.new.self room c.args.at.residence c.args.at.page nowhere c.in-Right.right (claimed nowhere) in
    let page_is : c.in-Right.right.page ≡ c.args.at.page = ap (λ (x : PageRight). x.page) (claimed nowhere).0 in
    λ d. subst (λ (q : PageId). CanMap c.claim.new.self (get_or c.claim.new.self.residences c.args.at.residence d) q) (sym page_is)
    (subst (λ (u : ProcessView). CanMap u (get_or u.residences c.args.at.residence d) c.args.at.page) (sym now)
    (roomy_can c.args.view.now (length c.claim.new.board.history) room (get_or c.args.view.now.residences c.args.at.residence d) c.args.at.page (c.requires.page d)))

pub publish-requires-clause-page : goal.publish-requires-clause-page
publish-requires-clause-page g c =
    let n = length c.args.board.now.history in
    let room = c.prepare_page.new.self.page_room in
    let claimed = claimed_of c.args.board.now c.claim.new.board c.args.view.now c.follow.new.self c.claim.new.self n room c.args.at.residence c.args.at.page c.in_ok-right.field-0 (claims.Right c.in-Right.right)
    (shown_is c.args.view.now c.prepare_page.new.self c.follow.new.self n c.in_ok-bytes.ensures.same c.follow.ensures) c.in_ok-right.ensures c.in-Right.is
    in
    let now = claimed_view c.args.board.now c.claim.new.board c.args.view.now c.claim.new.self room c.args.at.residence c.args.at.page nowhere c.in-Right.right (claimed nowhere) in
    λ d. subst (λ (u : ProcessView). CanMap u (get_or u.residences c.args.at.residence d) c.args.at.page) (sym now)
    (roomy_can c.args.view.now (length c.claim.new.board.history) room (get_or c.args.view.now.residences c.args.at.residence d) c.args.at.page (c.requires.page d))

pub map_shared-requires-clause-page : goal.map_shared-requires-clause-page
map_shared-requires-clause-page g c =
    let n = length c.args.board.now.history in
    let room = c.prepare_page.new.self.page_room in
    let claimed = claimed_of c.args.board.now c.claim.new.board c.args.view.now c.follow.new.self c.claim.new.self n room c.args.at.residence c.args.at.page c.in_ok-right.field-0 (claims.Right c.in-Right.right)
    (shown_is c.args.view.now c.prepare_page.new.self c.follow.new.self n c.in_ok-bytes.ensures.same c.follow.ensures) c.in_ok-right.ensures c.in-Right.is
    in
    let now = claimed_view c.args.board.now c.claim.new.board c.args.view.now c.claim.new.self room c.args.at.residence c.args.at.page nowhere c.in-Right.right (claimed nowhere) in
    λ d. subst (λ (u : ProcessView). CanMap u (get_or u.residences c.args.at.residence d) c.args.at.page) (sym now)
    (roomy_can c.args.view.now (length c.claim.new.board.history) room (get_or c.args.view.now.residences c.args.at.residence d) c.args.at.page (c.requires.page d))

pub fix-fixed-requires-clause-own : goal.fix-fixed-requires-clause-own
fix-fixed-requires-clause-own g c =
    let n = length c.args.board.now.history in
    let room = c.prepare_page.new.self.page_room in
    let claimed = claimed_of c.args.board.now c.claim.new.board c.args.view.now c.follow.new.self c.claim.new.self n room c.args.at.residence c.args.at.page c.in_ok-right.field-0 (claims.Right c.in-Right.right)
    (shown_is c.args.view.now c.prepare_page.new.self c.follow.new.self n c.in_ok-bytes.ensures.same c.follow.ensures) c.in_ok-right.ensures c.in-Right.is
    in
    let now = claimed_view c.args.board.now c.claim.new.board c.args.view.now c.claim.new.self room c.args.at.residence c.args.at.page nowhere c.in-Right.right (claimed nowhere) in
    λ d. ap (λ (x : PageRight). x.serial) (claimed d).0 ∙ sym (ap (λ (u : ProcessView). (get_or u.residences c.args.at.residence d).serial) now)

pub publish-requires-clause-shared : goal.publish-requires-clause-shared
publish-requires-clause-shared g c =
    let n = length c.args.board.now.history in
    let room = c.prepare_page.new.self.page_room in
    let claimed = claimed_of c.args.board.now c.claim.new.board c.args.view.now c.follow.new.self c.claim.new.self n room c.args.at.residence c.args.at.page c.in_ok-right.field-0 (claims.Right c.in-Right.right)
    (shown_is c.args.view.now c.prepare_page.new.self c.follow.new.self n c.in_ok-bytes.ensures.same c.follow.ensures) c.in_ok-right.ensures c.in-Right.is
    in
    let now = claimed_view c.args.board.now c.claim.new.board c.args.view.now c.claim.new.self room c.args.at.residence c.args.at.page nowhere c.in-Right.right (claimed nowhere) in
    λ d. subst (λ (u : ProcessView). IsSharedPage u (get_or u.residences c.args.at.residence d) c.args.at.page) (sym now) (c.requires.shared d)

pub map_shared-requires-clause-shared : goal.map_shared-requires-clause-shared
map_shared-requires-clause-shared g c =
    let n = length c.args.board.now.history in
    let room = c.prepare_page.new.self.page_room in
    let claimed = claimed_of c.args.board.now c.claim.new.board c.args.view.now c.follow.new.self c.claim.new.self n room c.args.at.residence c.args.at.page c.in_ok-right.field-0 (claims.Right c.in-Right.right)
    (shown_is c.args.view.now c.prepare_page.new.self c.follow.new.self n c.in_ok-bytes.ensures.same c.follow.ensures) c.in_ok-right.ensures c.in-Right.is
    in
    let now = claimed_view c.args.board.now c.claim.new.board c.args.view.now c.claim.new.self room c.args.at.residence c.args.at.page nowhere c.in-Right.right (claimed nowhere) in
    λ d. subst (λ (u : ProcessView). IsSharedPage u (get_or u.residences c.args.at.residence d) c.args.at.page) (sym now) (c.requires.shared d)

pub publish-requires-clause-fixed : goal.publish-requires-clause-fixed
publish-requires-clause-fixed g c =
    let n = length c.args.board.now.history in
    let room = c.prepare_page.new.self.page_room in
    let claimed = claimed_of c.args.board.now c.claim.new.board c.args.view.now c.follow.new.self c.claim.new.self n room c.args.at.residence c.args.at.page c.in_ok-right.field-0 (claims.Right c.in-Right.right)
    (shown_is c.args.view.now c.prepare_page.new.self c.follow.new.self n c.in_ok-bytes.ensures.same c.follow.ensures) c.in_ok-right.ensures c.in-Right.is
    in
    let page_is : c.in-Right.right.page ≡ c.args.at.page = ap (λ (x : PageRight). x.page) (claimed nowhere).0 in
    λ d. c.fix-fixed.ensures.page d ∙ ap (fixed_of c.claim.new.self (get_or c.claim.new.self.residences c.args.at.residence d)) page_is

pub returns-in-Right : goal.returns-in-Right
returns-in-Right g c =
    let n = length c.args.board.now.history in
    let room = c.prepare_page.new.self.page_room in
    let claimed = claimed_of c.args.board.now c.claim.new.board c.args.view.now c.follow.new.self c.claim.new.self n room c.args.at.residence c.args.at.page c.in_ok-right.field-0 (claims.Right c.in-Right.right)
    (shown_is c.args.view.now c.prepare_page.new.self c.follow.new.self n c.in_ok-bytes.ensures.same c.follow.ensures) c.in_ok-right.ensures c.in-Right.is
    in
    let page_is : c.in-Right.right.page ≡ c.args.at.page = ap (λ (x : PageRight). x.page) (claimed nowhere).0 in
    let fixed : (e : ResidenceFor) → IsFixedIn c.claim.new.self c.map_shared.new.self (get_or c.claim.new.self.residences c.args.at.residence e) c.args.at.page = c.map_shared.ensures in
    λ d. took_fault c.args.board.now c.claim.new.board c.args.view.now c.claim.new.self room c.args.at.residence c.args.at.page d c.pages_stand.ensures c.histories_grow.ensures.grows c.map_shared.new.self c.in-Right.right
    c.history.ensures.legal c.requires.residence (c.requires.page d) (claimed d)
    (subst (λ (q : PageId). IsFixedIn c.claim.new.self c.map_shared.new.self (get_or c.claim.new.self.residences c.args.at.residence d) q) (sym page_is) (fixed d))

pub returns-in-Taken : goal.returns-in-Taken
returns-in-Taken g c =
    let n = length c.args.board.now.history in
    let room = c.prepare_page.new.self.page_room in
    let claimed = claimed_of c.args.board.now c.claim.new.board c.args.view.now c.follow.new.self c.claim.new.self n room c.args.at.residence c.args.at.page c.in_ok-right.field-0 claims.Taken
    (shown_is c.args.view.now c.prepare_page.new.self c.follow.new.self n c.in_ok-bytes.ensures.same c.follow.ensures) c.in_ok-right.ensures c.in-Taken.is
    in
    λ d. had_fault c.args.board.now c.claim.new.board c.args.view.now c.claim.new.self room c.args.at.residence c.args.at.page d c.requires.stands c.in_ok-bytes.ensures.room (claimed d)
