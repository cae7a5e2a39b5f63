use Rattle.std.proofs.Common.{◌∙◌, ap, sym, map, not, bytes_eq}
use Rattle.link_model.specs.Appearance.{firsts}
use Rattle.link_model.specs.Groups.{FLAT}
use Rattle.seg_parts.proofs.Lists.{ok_by, filter-each}
use Rattle.seg_parts.proofs.groups.group_names_of.Goals as goal

pub returns : goal.returns
returns c =
    ok_by c.first_names.result
    (λ found e. e ∙ ap (λ v. firsts bytes_eq (map (λ n. n.now) v)) c.as_slice.ensures.value ∙ ap (firsts bytes_eq) c.in_ok-all.ensures
    ∙ ap (firsts bytes_eq) (sym (filter-each (λ n. not (bytes_eq n FLAT)) (λ m. map (λ g. g.name) m.groups) (λ m. m.now) c.args.modules.now)))
    c.first_names.ensures
