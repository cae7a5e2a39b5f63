-- Whether a link is refused, and why. A link is accepted where there is no refusal, and nothing else is asked.
use Rattle.std.specs.Prelude.{[], ◌∷◌, ◌++◌, Option, map}
use Rattle.std.specs.Option.{option_map}
use Rattle.link_model.specs.declared.refusals.FixRefusal.{FixRefusal}
use Rattle.link_model.specs.declared.refusals.LinkRefusal.{LinkRefusal}
use Rattle.link_model.specs.declared.refusals.LinkRefusal.TheVariants.{Sym, Comdat, Lay, Fixing, Entry}
use Rattle.link_model.specs.Words.{first_of}
use Rattle.link_model.specs.Link.{Link}
use Rattle.link_model.specs.SymbolRefusals.{sym_refusal}
use Rattle.link_model.specs.LayoutRefusals.{lay_refusal}
use Rattle.link_model.specs.Fixups.{fixups, fix_refusal}
use Rattle.link_model.specs.Start.{start_outside}
use Rattle.link_model.specs.Exports.{entry_refusal}

-- Of a link whose names have meanings and whose segments have a layout: the refusal of the first fixup that has one,
-- in chosen order and in file order, then that of the start.
unfoldable pub place_refusal : Link → Option FixRefusal
place_refusal l = first_of (map fix_refusal (fixups l) ++ start_outside l ∷ [])

-- Symbols are tried first, then COMDATs, the layout, the fixups with the start, and the exports.
unfoldable pub link_refusal : Link → Option LinkRefusal
link_refusal l =
    first_of
    (option_map Sym (sym_refusal l) ∷ option_map Comdat l.clash ∷ option_map Lay (lay_refusal l)
    ∷ option_map Fixing (place_refusal l) ∷ option_map Entry (entry_refusal l) ∷ [])
