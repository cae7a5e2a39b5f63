use Rattle.std.proofs.Common.{◌∙◌, ap, position, bytes_eq}
use Rattle.std.proofs.Common.{map}
use Rattle.name_table.specs.Entries.{is_named}
use Rattle.seg_parts.proofs.NameLists.{position-entries}
use Rattle.seg_parts.proofs.groups.GroupNames.place_of.Goals as goal

pub returns : goal.returns
returns c =
    c.place_of.ensures ∙ ap (position (is_named {V = Unit {0}} c.args.name.now)) c.self.invariant
    ∙ position-entries c.args.name.now (map (λ n. n.now) c.self.inside.names.items)
    ∙ ap (position (bytes_eq c.args.name.now)) c.self.view_is
