use Rattle.std.proofs.Common.{◌≡◌, ap}
use Rattle.process_view.specs.ProcessViews.{without_room}
use Rattle.proc_core.proofs.TouchedPage.{roomy_page}
use Rattle.stepped_runs.proofs.Pages.{roomy_mapped}
use Rattle.stepped_runs.proofs.mapping.touch_page.Goals as goal

pub is_shared_page-requires-clause-object : goal.is_shared_page-requires-clause-object
is_shared_page-requires-clause-object g c =
    let bare : without_room c.reserve_page.new.self ≡ without_room c.args.view.now = ap without_room c.in_ok-reserve_page.ensures.same in
    (roomy_page c.args.view.now c.reserve_page.new.self c.args.at.residence c.args.at.page bare c.requires.page).object

pub map_shared-requires-clause-page : goal.map_shared-requires-clause-page
map_shared-requires-clause-page g c =
    let bare : without_room c.reserve_page.new.self ≡ without_room c.args.view.now = ap without_room c.in_ok-reserve_page.ensures.same in
    roomy_page c.args.view.now c.reserve_page.new.self c.args.at.residence c.args.at.page bare c.requires.page

pub map_own-requires-clause-page : goal.map_own-requires-clause-page
map_own-requires-clause-page g c =
    let bare : without_room c.reserve_page.new.self ≡ without_room c.args.view.now = ap without_room c.in_ok-reserve_page.ensures.same in
    roomy_page c.args.view.now c.reserve_page.new.self c.args.at.residence c.args.at.page bare c.requires.page

pub returns-then-is_shared_page : goal.returns-then-is_shared_page
returns-then-is_shared_page g c =
    let bare : without_room c.reserve_page.new.self ≡ without_room c.args.view.now = ap without_room c.in_ok-reserve_page.ensures.same in
    roomy_mapped c.args.board.now c.map_shared.new.board c.args.view.now c.reserve_page.new.self c.map_shared.new.view bare c.requires.stands c.map_shared.ensures
