use Rattle.std.proofs.Common.{◌∙◌, ap, is_some, bytes_eq}
use Rattle.link_model.specs.Groups.{DGROUP}
use Rattle.seg_parts.proofs.DgroupNames.{some-position}
use Rattle.seg_parts.proofs.members.has_dgroup.Goals as goal

pub returns : goal.returns
returns c = c.is_some.ensures ∙ ap is_some c.place_of.ensures ∙ some-position (bytes_eq DGROUP) c.args.names.now
