use Rattle.std.proofs.Common.{◌≡◌, sym, ap, ◌∙◌}
use Rattle.process_view.specs.ProcessViews.{without_room}
use Rattle.check_play.specs.Mapping.{residence_at}
use Rattle.check_play.proofs.MappedPlaces.{roomy_in, roomy_can, one_more, was_mapped}
use Rattle.check_play.proofs.touches.map_page.Goals as goal

pub returns-then-is_mapped : goal.returns-then-is_mapped
returns-then-is_mapped g c = λ d.
    was_mapped c.args.view.now (residence_at c.args.view.now c.args.at.residence d) c.args.at.page (sym (c.is_mapped.ensures d) ∙ c.if-is_mapped.true)

pub is_shared_page-requires-clause-object : goal.is_shared_page-requires-clause-object
is_shared_page-requires-clause-object g c =
    let bare : without_room c.reserve_page.new.self ≡ without_room c.args.view.now = ap without_room c.in_ok-reserve_page.ensures.same in
    (roomy_in c.args.view.now c.reserve_page.new.self c.args.at.residence c.args.at.page bare c.requires).object

pub map_shared-requires-clause-page : goal.map_shared-requires-clause-page
map_shared-requires-clause-page g c =
    let bare : without_room c.reserve_page.new.self ≡ without_room c.args.view.now = ap without_room c.in_ok-reserve_page.ensures.same in
    roomy_can c.args.view.now c.reserve_page.new.self c.args.at.residence c.args.at.page bare c.requires (λ d. sym (c.is_mapped.ensures d) ∙ c.if-is_mapped.false)

pub map_private-requires-clause-page : goal.map_private-requires-clause-page
map_private-requires-clause-page g c =
    let bare : without_room c.reserve_page.new.self ≡ without_room c.args.view.now = ap without_room c.in_ok-reserve_page.ensures.same in
    roomy_can c.args.view.now c.reserve_page.new.self c.args.at.residence c.args.at.page bare c.requires (λ d. sym (c.is_mapped.ensures d) ∙ c.if-is_mapped.false)

pub returns-then-is_shared_page : goal.returns-then-is_shared_page
returns-then-is_shared_page g c =
    let bare : without_room c.reserve_page.new.self ≡ without_room c.args.view.now = ap without_room c.in_ok-reserve_page.ensures.same in
    one_more c.pages_stand.ensures c.args.view.now c.reserve_page.new.self c.map_shared.new.self c.args.at.residence c.args.at.page bare c.requires
    (λ d. sym (c.is_mapped.ensures d) ∙ c.if-is_mapped.false) c.map_shared.ensures

pub returns-in_ok-buffer : goal.returns-in_ok-buffer
returns-in_ok-buffer g c =
    let bare : without_room c.reserve_page.new.self ≡ without_room c.args.view.now = ap without_room c.in_ok-reserve_page.ensures.same in
    one_more c.pages_stand.ensures c.args.view.now c.reserve_page.new.self c.map_private.new.self c.args.at.residence c.args.at.page bare c.requires
    (λ d. sym (c.is_mapped.ensures d) ∙ c.if-is_mapped.false) c.map_private.ensures.mapped
