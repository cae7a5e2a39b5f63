use Rattle.std.proofs.Common.{◌<◌, List, length, sym, subst}
use Rattle.std.specs.List.{AllByRecursion}
use Rattle.obj_types.specs.declared.object.Group.{Group}
use Rattle.omf_write.specs.ObjectNames.{NameList}
use Rattle.omf_write.specs.ObjectBytes.{grpdef_bytes}
use Rattle.omf_write.proofs.objects.push_segment_records.Goals as goal

abbrev Room : NameList × List Group → Type 0
Room x = AllByRecursion (λ g. length (grpdef_bytes x.0 g) < 65535) x.1

pub push_groups-requires-clause-room : goal.push_groups-requires-clause-room
push_groups-requires-clause-room c = subst Room (λ i. (sym c.in_ok-names.ensures.0 i, sym c.as_slice-2.ensures i)) c.requires.members
