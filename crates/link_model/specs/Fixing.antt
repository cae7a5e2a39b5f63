-- Two laws on which pages and records rest.
use Rattle.std.specs.Prelude.{◌≡◌, true, false, List}
use Rattle.std.specs.List.{AllPairs}
use Rattle.link_model.specs.Link.{Link}
use Rattle.link_model.specs.Fixups.{Fixup}
use Rattle.link_model.specs.Value.{World, Value}
use Rattle.link_model.specs.Mean.{overlap, live}
use Rattle.link_model.specs.Patches.{is_patched}

-- No two live fixups share a byte, so the order in which they are written does not matter.
abbrev pub LiveApart : Type 0
LiveApart = (qs : List Fixup) → AllPairs (λ a b. overlap a b ≡ false) (live qs)

-- What is patched into a page is the same whatever the bases and imports are.
abbrev pub PatchesStand : Type 0
PatchesStand = (l : Link) (w v : World) (q : Fixup) → is_patched q ≡ true → Value l w q ≡ Value l v q
