-- The names of a link fit the name tables: the module's, the description, those of exports and of import modules.
use Rattle.std.specs.Prelude.{◌≡◌, ◌≢◌, ℕ, Bool, true, false, cond, not, List, [], ◌∷◌, Option, Some, None, IfSome, map, filter, length, bytes_eq, unwrap_or}
use Rattle.std.specs.List.{AllByRecursion}
use Rattle.std.proofs.Common.{arith, subst}
use Rattle.std.proofs.lemmas.List.{length-map}
use Rattle.std.specs.Char.{to_ascii_uppercase}
use Rattle.link_model.proofs.Members.{not_empty}
use Rattle.lx_types.specs.Names.{IsName, uppercase}
use Rattle.obj_types.specs.declared.symbol.Imp.{Imp}
use Rattle.link_model.specs.Link.{Link}
use Rattle.link_model.specs.ImportTables.{link_pairs, modules_in}
use Rattle.link_model.proofs.Members.{In, from_map}
use Rattle.lx_model.specs.NameTables.{NameFits, ImportFits}
use Rattle.lx_model.specs.ExportTables.{Exported, named, described, resident_table, other_table}
use Rattle.image_model.specs.Linked.{called}
use Rattle.image_model.proofs.FewImports.{link-pairs-known}
use Rattle.layer_laws.proofs.Lists.{each-of, from-firsts}
use Rattle.layer_laws.proofs.Given.{Given}
use Rattle.layer_laws.proofs.Known.{known-import}
use Rattle.layer_laws.proofs.Exports.{ExportFits}

upper_long : (name : List ℕ) → length (uppercase name) ≡ length name
upper_long name = length-map name to_ascii_uppercase

upper_fits : (name : List ℕ) → name ≢ [] → IsName name → NameFits (uppercase name, 0)
upper_fits name some short =
    let long = upper_long name in
    let more = not_empty name some in
    record { some = omega (arith, long, more); short = omega (arith, long, short); ordinal = omega arith }

-- ---- the module's name and its description

by_name : (o : Option (List ℕ)) (stem : List ℕ) → IfSome o (λ n. n ≢ []) → stem ≢ [] → unwrap_or o stem ≢ []
by_name None stem some other = other
by_name (Some n) stem some other = some

by_short : (o : Option (List ℕ)) (stem : List ℕ) → IfSome o IsName → IsName stem → IsName (unwrap_or o stem)
by_short None stem short other = other
by_short (Some n) stem short other = short

called_fits : (l : Link) → Given l → NameFits (uppercase (called l), 0)
called_fits l g =
    upper_fits (called l) (by_name l.def.name l.stem g.def.name g.stem) (by_short l.def.name l.stem g.def_range.name g.stem_range)

described_fits : (name about : List ℕ) → NameFits (uppercase name, 0) → IsName about → NameFits (described name about, 0)
described_fits name [] fits short = fits
described_fits name (b ∷ bs) fits short = record { some = omega arith; short = omega (arith, short); ordinal = omega arith }

-- ---- exports

export_fits : (l : Link) (x : Exported) → ExportFits l x → NameFits (named x)
export_fits l x fits =
    let some = not_empty x.name fits.named in
    let short = fits.short in
    let ordinal = fits.ordinal in
    record { some = some; short = omega (arith, short); ordinal = omega (arith, ordinal) }

exports_fit : (l : Link) (keep : Exported → Bool) (xs : List Exported) → AllByRecursion (ExportFits l) xs → AllByRecursion NameFits (map named (filter keep xs))
exports_fit l keep [] each = tt
exports_fit l keep (x ∷ xs) each = by (keep x) (exports_fit l keep xs each.1)
  where
    by : (b : Bool) → AllByRecursion NameFits (map named (filter keep xs)) → AllByRecursion NameFits (map named (cond b (x ∷ filter keep xs) (filter keep xs)))
    by true rest = (export_fits l x each.0, rest)
    by false rest = rest

-- ---- the tables

pub residents-fit : (l : Link) → Given l → (xs : List Exported) → AllByRecursion (ExportFits l) xs → AllByRecursion NameFits (resident_table (called l) xs)
residents-fit l g xs each = (called_fits l g, exports_fit l (λ x. x.resident) xs each)

pub others-fit : (l : Link) → Given l → (xs : List Exported) → AllByRecursion (ExportFits l) xs → AllByRecursion NameFits (other_table (called l) l.def.about xs)
others-fit l g xs each = (described_fits (called l) l.def.about (called_fits l g) g.def_range.about, exports_fit l (λ x. not x.resident) xs each)

-- ---- import modules

module_fits : (l : Link) → Given l → (name : List ℕ) → In name (modules_in (link_pairs l)) → ImportFits name
module_fits l g name i =
    let pair = from_map (λ (pair : Imp). uppercase pair.module) (link_pairs l) (from-firsts bytes_eq (map (λ (pair : Imp). uppercase pair.module) (link_pairs l)) i) in
    let known = known-import l g pair.item (link-pairs-known l pair.item pair.inside) in
    let long = upper_long pair.item.module in
    let some = not_empty pair.item.module known.named in
    let short = known.range.module in
    subst ImportFits pair.is (record { some = omega (arith, long, some); short = omega (arith, long, short) })

pub modules-fit : (l : Link) → Given l → AllByRecursion ImportFits (modules_in (link_pairs l))
modules-fit l g = each-of ImportFits (modules_in (link_pairs l)) (module_fits l g)
