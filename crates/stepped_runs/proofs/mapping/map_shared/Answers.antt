use Rattle.std.proofs.Common.{◌≡◌, ℕ, length, sym, ap, ◌∙◌, subst}
use Rattle.lx_types.specs.declared.object.PageId.{PageId}
use Rattle.page_fix.specs.Rights.{PageRight}
use Rattle.page_frames.specs.Residences.{ResidenceFor}
use Rattle.load_model.specs.Histories.{has_fault}
use Rattle.load_core.specs.BoardState.{BoardState}
use Rattle.load_core.specs.declared.answers.Claim.{Claim}
use Rattle.load_core.specs.declared.answers.Claim.TheVariants as claims
use Rattle.process_view.specs.ProcessViews.{ProcessView, at_front}
use Rattle.process_view.specs.Deeds.{CanMap, IsClaimedIn, IsFixedIn, fixed_of}
use Rattle.proc_core.specs.Claiming.{residence_at}
use Rattle.stepped_runs.proofs.Onward.{idled_more}
use Rattle.stepped_runs.proofs.Pages.{can, nowhere, room_still, stay_still, can_still_map, shared_still, residence_still, right_shown, taken_shown, right_more, taken_more, right_faulted, taken_faulted, claimed_mapped}
use Rattle.stepped_runs.proofs.mapping.map_shared.Goals as goal

pub claim-requires-clause-page : goal.claim-requires-clause-page
claim-requires-clause-page g c =
    let b : BoardState = c.args.board.now in
    let v : ProcessView = c.args.view.now in
    let u : ProcessView = c.follow.new.self in
    let k : ℕ = c.args.at.residence in
    let t : PageId = c.args.at.page in
    let shown : u ≡ at_front (length b.history) v = c.follow.ensures in
    let fine : (d : ResidenceFor) → CanMap v (residence_at v k d) t = λ d. can b v k t d c.history.ensures.legal c.requires.stands c.requires.page (c.requires.apart d) in
    can_still_map v u (length b.history) k t shown fine

pub returns-in_err-claim : goal.returns-in_err-claim
returns-in_err-claim g c =
    let b : BoardState = c.args.board.now in
    let v : ProcessView = c.args.view.now in
    let u : ProcessView = c.follow.new.self in
    let w : ProcessView = c.claim.new.self in
    let k : ℕ = c.args.at.residence in
    let t : PageId = c.args.at.page in
    let shown : u ≡ at_front (length b.history) v = c.follow.ensures in
    idled_more b c.claim.new.board v u w c.requires.stands shown (c.in_err-claim.ensures nowhere)

pub map_shared-requires-clause-room : goal.map_shared-requires-clause-room
map_shared-requires-clause-room g c =
    let b : BoardState = c.args.board.now in
    let v : ProcessView = c.args.view.now in
    let u : ProcessView = c.follow.new.self in
    let w : ProcessView = c.claim.new.self in
    let k : ℕ = c.args.at.residence in
    let t : PageId = c.args.at.page in
    let shown : u ≡ at_front (length b.history) v = c.follow.ensures in
    let claim : (d : ResidenceFor) → IsClaimedIn b c.claim.new.board u w (residence_at u k d) t (claims.Right c.in-Right.right) =
    λ d. subst (λ (x : Claim). IsClaimedIn b c.claim.new.board u w (residence_at u k d) t x) c.in-Right.is (c.in_ok-claim.ensures d) in
    let seen : w ≡ at_front (length c.claim.new.board.history) v = right_shown b c.claim.new.board v u w (residence_at u k nowhere) t c.in-Right.right shown (claim nowhere) in
    let page_is : c.in-Right.right.page ≡ t = ap (λ (x : PageRight). x.page) (claim nowhere).0 in
    room_still v w (length c.claim.new.board.history) k t seen c.requires.room

pub fix-fixed-requires-clause-residence : goal.fix-fixed-requires-clause-residence
fix-fixed-requires-clause-residence g c =
    let b : BoardState = c.args.board.now in
    let v : ProcessView = c.args.view.now in
    let u : ProcessView = c.follow.new.self in
    let w : ProcessView = c.claim.new.self in
    let k : ℕ = c.args.at.residence in
    let t : PageId = c.args.at.page in
    let shown : u ≡ at_front (length b.history) v = c.follow.ensures in
    let claim : (d : ResidenceFor) → IsClaimedIn b c.claim.new.board u w (residence_at u k d) t (claims.Right c.in-Right.right) =
    λ d. subst (λ (x : Claim). IsClaimedIn b c.claim.new.board u w (residence_at u k d) t x) c.in-Right.is (c.in_ok-claim.ensures d) in
    let seen : w ≡ at_front (length c.claim.new.board.history) v = right_shown b c.claim.new.board v u w (residence_at u k nowhere) t c.in-Right.right shown (claim nowhere) in
    let page_is : c.in-Right.right.page ≡ t = ap (λ (x : PageRight). x.page) (claim nowhere).0 in
    stay_still v w (length c.claim.new.board.history) k t seen c.requires.page.residence

pub publish-requires-clause-residence : goal.publish-requires-clause-residence
publish-requires-clause-residence g c =
    let b : BoardState = c.args.board.now in
    let v : ProcessView = c.args.view.now in
    let u : ProcessView = c.follow.new.self in
    let w : ProcessView = c.claim.new.self in
    let k : ℕ = c.args.at.residence in
    let t : PageId = c.args.at.page in
    let shown : u ≡ at_front (length b.history) v = c.follow.ensures in
    let claim : (d : ResidenceFor) → IsClaimedIn b c.claim.new.board u w (residence_at u k d) t (claims.Right c.in-Right.right) =
    λ d. subst (λ (x : Claim). IsClaimedIn b c.claim.new.board u w (residence_at u k d) t x) c.in-Right.is (c.in_ok-claim.ensures d) in
    let seen : w ≡ at_front (length c.claim.new.board.history) v = right_shown b c.claim.new.board v u w (residence_at u k nowhere) t c.in-Right.right shown (claim nowhere) in
    let page_is : c.in-Right.right.page ≡ t = ap (λ (x : PageRight). x.page) (claim nowhere).0 in
    stay_still v w (length c.claim.new.board.history) k t seen c.requires.page.residence

pub map_shared-requires-clause-residence : goal.map_shared-requires-clause-residence
map_shared-requires-clause-residence g c =
    let b : BoardState = c.args.board.now in
    let v : ProcessView = c.args.view.now in
    let u : ProcessView = c.follow.new.self in
    let w : ProcessView = c.claim.new.self in
    let k : ℕ = c.args.at.residence in
    let t : PageId = c.args.at.page in
    let shown : u ≡ at_front (length b.history) v = c.follow.ensures in
    let claim : (d : ResidenceFor) → IsClaimedIn b c.claim.new.board u w (residence_at u k d) t (claims.Right c.in-Right.right) =
    λ d. subst (λ (x : Claim). IsClaimedIn b c.claim.new.board u w (residence_at u k d) t x) c.in-Right.is (c.in_ok-claim.ensures d) in
    let seen : w ≡ at_front (length c.claim.new.board.history) v = right_shown b c.claim.new.board v u w (residence_at u k nowhere) t c.in-Right.right shown (claim nowhere) in
    let page_is : c.in-Right.right.page ≡ t = ap (λ (x : PageRight). x.page) (claim nowhere).0 in
    stay_still v w (length c.claim.new.board.history) k t seen c.requires.page.residence

pub fix-fixed-requires-clause-page : goal.fix-fixed-requires-clause-page
fix-fixed-requires-clause-page g c =
    let b : BoardState = c.args.board.now in
    let v : ProcessView = c.args.view.now in
    let u : ProcessView = c.follow.new.self in
    let w : ProcessView = c.claim.new.self in
    let k : ℕ = c.args.at.residence in
    let t : PageId = c.args.at.page in
    let shown : u ≡ at_front (length b.history) v = c.follow.ensures in
    let fine : (d : ResidenceFor) → CanMap v (residence_at v k d) t = λ d. can b v k t d c.history.ensures.legal c.requires.stands c.requires.page (c.requires.apart d) in
    let claim : (d : ResidenceFor) → IsClaimedIn b c.claim.new.board u w (residence_at u k d) t (claims.Right c.in-Right.right) =
    λ d. subst (λ (x : Claim). IsClaimedIn b c.claim.new.board u w (residence_at u k d) t x) c.in-Right.is (c.in_ok-claim.ensures d) in
    let seen : w ≡ at_front (length c.claim.new.board.history) v = right_shown b c.claim.new.board v u w (residence_at u k nowhere) t c.in-Right.right shown (claim nowhere) in
    let page_is : c.in-Right.right.page ≡ t = ap (λ (x : PageRight). x.page) (claim nowhere).0 in
    subst (λ (x : PageId). (d : ResidenceFor) → CanMap w (residence_at w k d) x) (sym page_is) (can_still_map v w (length c.claim.new.board.history) k t seen fine)

pub publish-requires-clause-page : goal.publish-requires-clause-page
publish-requires-clause-page g c =
    let b : BoardState = c.args.board.now in
    let v : ProcessView = c.args.view.now in
    let u : ProcessView = c.follow.new.self in
    let w : ProcessView = c.claim.new.self in
    let k : ℕ = c.args.at.residence in
    let t : PageId = c.args.at.page in
    let shown : u ≡ at_front (length b.history) v = c.follow.ensures in
    let fine : (d : ResidenceFor) → CanMap v (residence_at v k d) t = λ d. can b v k t d c.history.ensures.legal c.requires.stands c.requires.page (c.requires.apart d) in
    let claim : (d : ResidenceFor) → IsClaimedIn b c.claim.new.board u w (residence_at u k d) t (claims.Right c.in-Right.right) =
    λ d. subst (λ (x : Claim). IsClaimedIn b c.claim.new.board u w (residence_at u k d) t x) c.in-Right.is (c.in_ok-claim.ensures d) in
    let seen : w ≡ at_front (length c.claim.new.board.history) v = right_shown b c.claim.new.board v u w (residence_at u k nowhere) t c.in-Right.right shown (claim nowhere) in
    can_still_map v w (length c.claim.new.board.history) k t seen fine

pub map_shared-requires-clause-page : goal.map_shared-requires-clause-page
map_shared-requires-clause-page g c =
    let b : BoardState = c.args.board.now in
    let v : ProcessView = c.args.view.now in
    let u : ProcessView = c.follow.new.self in
    let w : ProcessView = c.claim.new.self in
    let k : ℕ = c.args.at.residence in
    let t : PageId = c.args.at.page in
    let shown : u ≡ at_front (length b.history) v = c.follow.ensures in
    let fine : (d : ResidenceFor) → CanMap v (residence_at v k d) t = λ d. can b v k t d c.history.ensures.legal c.requires.stands c.requires.page (c.requires.apart d) in
    let claim : (d : ResidenceFor) → IsClaimedIn b c.claim.new.board u w (residence_at u k d) t (claims.Right c.in-Right.right) =
    λ d. subst (λ (x : Claim). IsClaimedIn b c.claim.new.board u w (residence_at u k d) t x) c.in-Right.is (c.in_ok-claim.ensures d) in
    let seen : w ≡ at_front (length c.claim.new.board.history) v = right_shown b c.claim.new.board v u w (residence_at u k nowhere) t c.in-Right.right shown (claim nowhere) in
    can_still_map v w (length c.claim.new.board.history) k t seen fine

pub fix-fixed-requires-clause-own : goal.fix-fixed-requires-clause-own
fix-fixed-requires-clause-own g c =
    let b : BoardState = c.args.board.now in
    let v : ProcessView = c.args.view.now in
    let u : ProcessView = c.follow.new.self in
    let w : ProcessView = c.claim.new.self in
    let k : ℕ = c.args.at.residence in
    let t : PageId = c.args.at.page in
    let shown : u ≡ at_front (length b.history) v = c.follow.ensures in
    let claim : (d : ResidenceFor) → IsClaimedIn b c.claim.new.board u w (residence_at u k d) t (claims.Right c.in-Right.right) =
    λ d. subst (λ (x : Claim). IsClaimedIn b c.claim.new.board u w (residence_at u k d) t x) c.in-Right.is (c.in_ok-claim.ensures d) in
    let seen : w ≡ at_front (length c.claim.new.board.history) v = right_shown b c.claim.new.board v u w (residence_at u k nowhere) t c.in-Right.right shown (claim nowhere) in
    let page_is : c.in-Right.right.page ≡ t = ap (λ (x : PageRight). x.page) (claim nowhere).0 in
    λ d. ap (λ (x : PageRight). x.serial) (claim d).0 ∙ (ap (λ (x : ResidenceFor). x.serial) (residence_still v u (length b.history) k t shown d) ∙ sym (ap (λ (x : ResidenceFor). x.serial) (residence_still v w (length c.claim.new.board.history) k t seen d)))

pub publish-requires-clause-shared : goal.publish-requires-clause-shared
publish-requires-clause-shared g c =
    let b : BoardState = c.args.board.now in
    let v : ProcessView = c.args.view.now in
    let u : ProcessView = c.follow.new.self in
    let w : ProcessView = c.claim.new.self in
    let k : ℕ = c.args.at.residence in
    let t : PageId = c.args.at.page in
    let shown : u ≡ at_front (length b.history) v = c.follow.ensures in
    let claim : (d : ResidenceFor) → IsClaimedIn b c.claim.new.board u w (residence_at u k d) t (claims.Right c.in-Right.right) =
    λ d. subst (λ (x : Claim). IsClaimedIn b c.claim.new.board u w (residence_at u k d) t x) c.in-Right.is (c.in_ok-claim.ensures d) in
    let seen : w ≡ at_front (length c.claim.new.board.history) v = right_shown b c.claim.new.board v u w (residence_at u k nowhere) t c.in-Right.right shown (claim nowhere) in
    shared_still v w (length c.claim.new.board.history) k t seen c.requires.shared

pub map_shared-requires-clause-shared : goal.map_shared-requires-clause-shared
map_shared-requires-clause-shared g c =
    let b : BoardState = c.args.board.now in
    let v : ProcessView = c.args.view.now in
    let u : ProcessView = c.follow.new.self in
    let w : ProcessView = c.claim.new.self in
    let k : ℕ = c.args.at.residence in
    let t : PageId = c.args.at.page in
    let shown : u ≡ at_front (length b.history) v = c.follow.ensures in
    let claim : (d : ResidenceFor) → IsClaimedIn b c.claim.new.board u w (residence_at u k d) t (claims.Right c.in-Right.right) =
    λ d. subst (λ (x : Claim). IsClaimedIn b c.claim.new.board u w (residence_at u k d) t x) c.in-Right.is (c.in_ok-claim.ensures d) in
    let seen : w ≡ at_front (length c.claim.new.board.history) v = right_shown b c.claim.new.board v u w (residence_at u k nowhere) t c.in-Right.right shown (claim nowhere) in
    shared_still v w (length c.claim.new.board.history) k t seen c.requires.shared

pub publish-requires-clause-fixed : goal.publish-requires-clause-fixed
publish-requires-clause-fixed g c =
    let b : BoardState = c.args.board.now in
    let v : ProcessView = c.args.view.now in
    let u : ProcessView = c.follow.new.self in
    let w : ProcessView = c.claim.new.self in
    let k : ℕ = c.args.at.residence in
    let t : PageId = c.args.at.page in
    let shown : u ≡ at_front (length b.history) v = c.follow.ensures in
    let claim : (d : ResidenceFor) → IsClaimedIn b c.claim.new.board u w (residence_at u k d) t (claims.Right c.in-Right.right) =
    λ d. subst (λ (x : Claim). IsClaimedIn b c.claim.new.board u w (residence_at u k d) t x) c.in-Right.is (c.in_ok-claim.ensures d) in
    let page_is : c.in-Right.right.page ≡ t = ap (λ (x : PageRight). x.page) (claim nowhere).0 in
    λ d. c.fix-fixed.ensures.page d ∙ ap (fixed_of w (residence_at w k d)) page_is

pub map_taken-requires-clause-room : goal.map_taken-requires-clause-room
map_taken-requires-clause-room g c =
    let b : BoardState = c.args.board.now in
    let v : ProcessView = c.args.view.now in
    let u : ProcessView = c.follow.new.self in
    let w : ProcessView = c.claim.new.self in
    let k : ℕ = c.args.at.residence in
    let t : PageId = c.args.at.page in
    let shown : u ≡ at_front (length b.history) v = c.follow.ensures in
    let claim : (d : ResidenceFor) → IsClaimedIn b c.claim.new.board u w (residence_at u k d) t claims.Taken =
    λ d. subst (λ (x : Claim). IsClaimedIn b c.claim.new.board u w (residence_at u k d) t x) c.in-Taken.is (c.in_ok-claim.ensures d) in
    let seen : w ≡ at_front (length b.history) v = taken_shown b c.claim.new.board v u w (residence_at u k nowhere) t shown (claim nowhere) in
    room_still v w (length b.history) k t seen c.requires.room

pub map_taken-requires-clause-residence : goal.map_taken-requires-clause-residence
map_taken-requires-clause-residence g c =
    let b : BoardState = c.args.board.now in
    let v : ProcessView = c.args.view.now in
    let u : ProcessView = c.follow.new.self in
    let w : ProcessView = c.claim.new.self in
    let k : ℕ = c.args.at.residence in
    let t : PageId = c.args.at.page in
    let shown : u ≡ at_front (length b.history) v = c.follow.ensures in
    let claim : (d : ResidenceFor) → IsClaimedIn b c.claim.new.board u w (residence_at u k d) t claims.Taken =
    λ d. subst (λ (x : Claim). IsClaimedIn b c.claim.new.board u w (residence_at u k d) t x) c.in-Taken.is (c.in_ok-claim.ensures d) in
    let seen : w ≡ at_front (length b.history) v = taken_shown b c.claim.new.board v u w (residence_at u k nowhere) t shown (claim nowhere) in
    stay_still v w (length b.history) k t seen c.requires.page.residence

pub map_taken-requires-clause-page : goal.map_taken-requires-clause-page
map_taken-requires-clause-page g c =
    let b : BoardState = c.args.board.now in
    let v : ProcessView = c.args.view.now in
    let u : ProcessView = c.follow.new.self in
    let w : ProcessView = c.claim.new.self in
    let k : ℕ = c.args.at.residence in
    let t : PageId = c.args.at.page in
    let shown : u ≡ at_front (length b.history) v = c.follow.ensures in
    let fine : (d : ResidenceFor) → CanMap v (residence_at v k d) t = λ d. can b v k t d c.history.ensures.legal c.requires.stands c.requires.page (c.requires.apart d) in
    let claim : (d : ResidenceFor) → IsClaimedIn b c.claim.new.board u w (residence_at u k d) t claims.Taken =
    λ d. subst (λ (x : Claim). IsClaimedIn b c.claim.new.board u w (residence_at u k d) t x) c.in-Taken.is (c.in_ok-claim.ensures d) in
    let seen : w ≡ at_front (length b.history) v = taken_shown b c.claim.new.board v u w (residence_at u k nowhere) t shown (claim nowhere) in
    can_still_map v w (length b.history) k t seen fine

pub map_taken-requires-clause-shared : goal.map_taken-requires-clause-shared
map_taken-requires-clause-shared g c =
    let b : BoardState = c.args.board.now in
    let v : ProcessView = c.args.view.now in
    let u : ProcessView = c.follow.new.self in
    let w : ProcessView = c.claim.new.self in
    let k : ℕ = c.args.at.residence in
    let t : PageId = c.args.at.page in
    let shown : u ≡ at_front (length b.history) v = c.follow.ensures in
    let claim : (d : ResidenceFor) → IsClaimedIn b c.claim.new.board u w (residence_at u k d) t claims.Taken =
    λ d. subst (λ (x : Claim). IsClaimedIn b c.claim.new.board u w (residence_at u k d) t x) c.in-Taken.is (c.in_ok-claim.ensures d) in
    let seen : w ≡ at_front (length b.history) v = taken_shown b c.claim.new.board v u w (residence_at u k nowhere) t shown (claim nowhere) in
    shared_still v w (length b.history) k t seen c.requires.shared

pub returns-in-Right : goal.returns-in-Right
returns-in-Right g c =
    let b : BoardState = c.args.board.now in
    let v : ProcessView = c.args.view.now in
    let u : ProcessView = c.follow.new.self in
    let w : ProcessView = c.claim.new.self in
    let k : ℕ = c.args.at.residence in
    let t : PageId = c.args.at.page in
    let shown : u ≡ at_front (length b.history) v = c.follow.ensures in
    let fine : (d : ResidenceFor) → CanMap v (residence_at v k d) t = λ d. can b v k t d c.history.ensures.legal c.requires.stands c.requires.page (c.requires.apart d) in
    let claim : (d : ResidenceFor) → IsClaimedIn b c.claim.new.board u w (residence_at u k d) t (claims.Right c.in-Right.right) =
    λ d. subst (λ (x : Claim). IsClaimedIn b c.claim.new.board u w (residence_at u k d) t x) c.in-Right.is (c.in_ok-claim.ensures d) in
    let seen : w ≡ at_front (length c.claim.new.board.history) v = right_shown b c.claim.new.board v u w (residence_at u k nowhere) t c.in-Right.right shown (claim nowhere) in
    let faulted = ap (λ (r : ResidenceFor). has_fault c.claim.new.board.history r.serial t) (sym (residence_still v u (length b.history) k t shown nowhere)) ∙ right_faulted b c.claim.new.board u w (residence_at u k nowhere) t c.in-Right.right (claim nowhere) in
    let fixed : IsFixedIn w c.map_shared.new.self (residence_at w k nowhere) t = c.map_shared.ensures nowhere in
    claimed_mapped c.pages_stand.ensures b c.claim.new.board v w c.map_shared.new.self (length c.claim.new.board.history) k t c.history.ensures.legal c.history-2.ensures.legal c.requires.stands
    (right_more b c.claim.new.board v u w (residence_at u k nowhere) t c.in-Right.right shown (claim nowhere)) seen c.requires.page.residence fine faulted fixed

pub returns-in-Taken : goal.returns-in-Taken
returns-in-Taken g c =
    let b : BoardState = c.args.board.now in
    let v : ProcessView = c.args.view.now in
    let u : ProcessView = c.follow.new.self in
    let w : ProcessView = c.claim.new.self in
    let k : ℕ = c.args.at.residence in
    let t : PageId = c.args.at.page in
    let shown : u ≡ at_front (length b.history) v = c.follow.ensures in
    let fine : (d : ResidenceFor) → CanMap v (residence_at v k d) t = λ d. can b v k t d c.history.ensures.legal c.requires.stands c.requires.page (c.requires.apart d) in
    let claim : (d : ResidenceFor) → IsClaimedIn b c.claim.new.board u w (residence_at u k d) t claims.Taken =
    λ d. subst (λ (x : Claim). IsClaimedIn b c.claim.new.board u w (residence_at u k d) t x) c.in-Taken.is (c.in_ok-claim.ensures d) in
    let seen : w ≡ at_front (length b.history) v = taken_shown b c.claim.new.board v u w (residence_at u k nowhere) t shown (claim nowhere) in
    let faulted = ap (λ (r : ResidenceFor). has_fault c.claim.new.board.history r.serial t) (sym (residence_still v u (length b.history) k t shown nowhere)) ∙ taken_faulted b c.claim.new.board u w (residence_at u k nowhere) t (claim nowhere) in
    claimed_mapped c.pages_stand.ensures b c.claim.new.board v w c.map_taken.new.self (length b.history) k t c.history.ensures.legal c.history-2.ensures.legal c.requires.stands
    (taken_more b c.claim.new.board v u w (residence_at u k nowhere) t shown c.requires.stands (claim nowhere)) seen c.requires.page.residence fine faulted (c.map_taken.ensures nowhere)
