use Rattle.std.proofs.Common.{sym, ◌∙◌, subst}
use Rattle.page_frames.specs.Residences.{ResidenceFor}
use Rattle.load_core.specs.BoardState.{BoardState}
use Rattle.process_view.specs.ProcessViews.{ProcessView}
use Rattle.process_view.proofs.Words.{nowhere}
use Rattle.check_play.specs.Mapping.{residence_at}
use Rattle.check_play.specs.Taking.{TookFault, HadFault, IsFaultTaken}
use Rattle.check_play.specs.Untouched.{IsMappedSo}
use Rattle.check_play.proofs.MappedPlaces.{can_map}
use Rattle.check_play.proofs.UntouchedReads.{was_there, fault_mapped, residence_later, can_later, shared_later, taken_mapped}
use Rattle.check_play.proofs.untouched.map_page.Goals as goal

pub returns-then-is_mapped : goal.returns-then-is_mapped
returns-then-is_mapped g c = λ d.
    was_there c.args.board.now c.args.view.now (residence_at c.args.view.now c.args.at.residence d) c.args.at.page c.requires.stands (sym (c.is_mapped.ensures d) ∙ c.if-is_mapped.true)

pub take_fault-requires-clause-page : goal.take_fault-requires-clause-page
take_fault-requires-clause-page g c = λ d. can_map c.args.view.now c.args.at.residence c.args.at.page d c.requires.page (sym (c.is_mapped.ensures d) ∙ c.if-is_mapped.false)

pub returns-then-branch : goal.returns-then-branch
returns-then-branch g c = λ d.
    let b : BoardState = c.args.board.now in
    let v : ProcessView = c.args.view.now in
    let r : ResidenceFor = residence_at v c.args.at.residence d in
    let took : TookFault b c.take_fault.new.board v c.take_fault.new.view r c.args.at.page =
    subst (IsFaultTaken b c.take_fault.new.board v c.take_fault.new.view r c.args.at.page) c.if-branch.true (c.in_ok-take_fault.ensures d) in
    fault_mapped b c.take_fault.new.board v c.take_fault.new.view r c.args.at.page took

pub map_shared-requires-clause-room : goal.map_shared-requires-clause-room
map_shared-requires-clause-room g c =
    let b : BoardState = c.args.board.now in
    let v : ProcessView = c.args.view.now in
    let had : HadFault b c.take_fault.new.board v c.take_fault.new.view (residence_at v c.args.at.residence nowhere) c.args.at.page =
    subst (IsFaultTaken b c.take_fault.new.board v c.take_fault.new.view (residence_at v c.args.at.residence nowhere) c.args.at.page) c.if-branch.false (c.in_ok-take_fault.ensures nowhere) in
    had.room

pub map_shared-requires-clause-residence : goal.map_shared-requires-clause-residence
map_shared-requires-clause-residence g c =
    let b : BoardState = c.args.board.now in
    let v : ProcessView = c.args.view.now in
    let had : HadFault b c.take_fault.new.board v c.take_fault.new.view (residence_at v c.args.at.residence nowhere) c.args.at.page =
    subst (IsFaultTaken b c.take_fault.new.board v c.take_fault.new.view (residence_at v c.args.at.residence nowhere) c.args.at.page) c.if-branch.false (c.in_ok-take_fault.ensures nowhere) in
    residence_later b v c.take_fault.new.view c.args.at.residence c.args.at.page had.view c.requires.page.residence

pub map_shared-requires-clause-page : goal.map_shared-requires-clause-page
map_shared-requires-clause-page g c =
    let b : BoardState = c.args.board.now in
    let v : ProcessView = c.args.view.now in
    let had : HadFault b c.take_fault.new.board v c.take_fault.new.view (residence_at v c.args.at.residence nowhere) c.args.at.page =
    subst (IsFaultTaken b c.take_fault.new.board v c.take_fault.new.view (residence_at v c.args.at.residence nowhere) c.args.at.page) c.if-branch.false (c.in_ok-take_fault.ensures nowhere) in
    can_later b v c.take_fault.new.view c.args.at.residence c.args.at.page had.view
    (λ d. can_map v c.args.at.residence c.args.at.page d c.requires.page (sym (c.is_mapped.ensures d) ∙ c.if-is_mapped.false))

pub map_shared-requires-clause-shared : goal.map_shared-requires-clause-shared
map_shared-requires-clause-shared g c =
    let b : BoardState = c.args.board.now in
    let v : ProcessView = c.args.view.now in
    let had : HadFault b c.take_fault.new.board v c.take_fault.new.view (residence_at v c.args.at.residence nowhere) c.args.at.page =
    subst (IsFaultTaken b c.take_fault.new.board v c.take_fault.new.view (residence_at v c.args.at.residence nowhere) c.args.at.page) c.if-branch.false (c.in_ok-take_fault.ensures nowhere) in
    shared_later b v c.take_fault.new.view c.args.at.residence c.args.at.page had.view c.requires.shared

pub returns : goal.returns
returns g c = λ d.
    let b : BoardState = c.args.board.now in
    let v : ProcessView = c.args.view.now in
    let w : ProcessView = c.take_fault.new.view in
    let r : ResidenceFor = residence_at v c.args.at.residence d in
    let had : HadFault b c.take_fault.new.board v w r c.args.at.page = subst (IsFaultTaken b c.take_fault.new.board v w r c.args.at.page) c.if-branch.false (c.in_ok-take_fault.ensures d) in
    subst (λ (y : BoardState). IsMappedSo b y v c.map_shared.new.self r c.args.at.page) (sym had.board)
    (taken_mapped b v w c.args.at.residence c.args.at.page had.view c.pages_stand.ensures c.map_shared.new.self d c.history.ensures.legal had.stands c.requires.page.residence
    (λ e. can_map v c.args.at.residence c.args.at.page e c.requires.page (sym (c.is_mapped.ensures e) ∙ c.if-is_mapped.false)) had.had (c.map_shared.ensures d))
