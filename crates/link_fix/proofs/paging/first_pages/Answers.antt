use Rattle.std.proofs.Common.{map}
use Rattle.std.specs.List.{range_with_len}
use Rattle.link_fix.specs.Paging.{page_in}
use Rattle.link_fix.proofs.PageLists.{lists-fitted, if_ok_as}
use Rattle.link_fix.proofs.paging.first_pages.Goals as goal

pub returns : goal.returns
returns c =
    if_ok_as c.lists_of.result _ (map (page_in c.args.row.items) (range_with_len 0 c.args.count)) c.lists_of.ensures
    (lists-fitted c.args.row.items c.fit_row.new.row.items c.args.count c.in_ok-fit_row.ensures.len c.in_ok-fit_row.ensures.same)
