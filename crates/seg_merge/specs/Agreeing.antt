-- What the parts of one logical segment have in common.
use Rattle.std.specs.Prelude.{◌≡◌, true, None, AllPairs}
use Rattle.link_model.specs.Link.{Link}
use Rattle.link_model.specs.Parts.{joins}
use Rattle.link_model.specs.Communals.{parts}
use Rattle.link_model.specs.Flags.{flags_of}
use Rattle.link_model.specs.LayoutRefusals.{use_mixed}

-- Where no use is mixed, all parts of a logical segment have the same flags.
abbrev pub FlagsAgree : Type 0
FlagsAgree = (l : Link) → use_mixed l ≡ None → AllPairs (λ a b. joins a b ≡ true → flags_of l a ≡ flags_of l b) (parts l)
