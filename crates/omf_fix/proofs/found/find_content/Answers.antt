use Rattle.std.proofs.Common.{◌∙◌, refl}
use Rattle.omf_fix.specs.Found.{found_in}
use Rattle.omf_fix.proofs.BlockFound.{content-never, content-copied}
use Rattle.omf_fix.proofs.found.find_content.Goals as goal

pub returns-then-times-eq0 : goal.returns-then-times-eq0
returns-then-times-eq0 c = content-never c.args.number c.args.times c.args.first c.args.past (found_in c.args.found.now) _ c.if-times-eq0.true c.in_ok-push.ensures.items

pub returns : goal.returns
returns c =
    c.in_ok-repeat_found.ensures
    ∙ content-copied c.args.number c.args.times c.args.first c.args.past c.len-start.result c.args.found.now.len c.in_ok-found.field-0 (found_in c.args.found.now) c.push_inside.new.places.items c.push.new.self.items
    (c.len-start.ensures ∙ c.args.found.now.places.ok.0) refl c.in_ok-found.ensures c.in_ok-push_inside.ensures c.in_ok-push.ensures.items
