use Rattle.std.proofs.Common.{refl}
use Rattle.std.proofs.lemmas.Bool.{not_from_false, not-true}
use Rattle.writable_images.proofs.SourcesApart.{free_part, part_free}
use Rattle.writable_images.proofs.records.is_free.Goals as goal

pub returns : goal.returns
returns c = (
  λ yes. free_part _ refl refl c.args.taken.now c.args.first c.args.size c.contains.result c.contains.ensures.value c.requires (not-true c.contains.result yes),
  λ none. not_from_false c.contains.result (part_free _ refl refl c.args.taken.now c.args.first c.args.size c.contains.result c.contains.ensures.value c.requires none),
)
