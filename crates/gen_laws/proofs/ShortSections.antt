-- How many bytes the sections of a file have at most, by how many items they have.
use Rattle.std.specs.Prelude.{ℕ, ◌+◌, ◌*◌, ◌≤◌, List, [], ◌∷◌, length}
use Rattle.std.specs.List.{AllByRecursion, flat_map}
use Rattle.std.proofs.Common.{arith, length-append}
use Rattle.lx_bytes.specs.LittleEndian.{little_bytes}
use Rattle.lx_model.specs.NameTables.{ImportFits, NameFits, Named, import_spelling, name_spelling, names_spelling}
use Rattle.image_model.specs.Image.{PageForm, iterated, plain, zeros}
use Rattle.image_model.specs.PageTables.{form_data}
use Rattle.image_model.specs.ReadBack.{FormFits}

-- ---- tables of names

names_by : (ns : List Named) → AllByRecursion NameFits ns → length (flat_map name_spelling ns) ≤ 258 * length ns
names_by [] fits = omega arith
names_by (n ∷ ns) fits =
    let own = length-append n.0 (little_bytes 2 n.1) in
    let both = length-append (name_spelling n) (flat_map name_spelling ns) in
    let short = fits.0.short in
    let rest = names_by ns fits.1 in
    omega (arith, own, both, short, rest)

pub names_short : (ns : List Named) → AllByRecursion NameFits ns → length (names_spelling ns) ≤ 258 * length ns + 1
names_short ns fits =
    let both = length-append (flat_map name_spelling ns) (0 ∷ []) in
    let names = names_by ns fits in
    omega (arith, both, names)

pub imports_short : (names : List (List ℕ)) → AllByRecursion ImportFits names → length (flat_map import_spelling names) ≤ 256 * length names
imports_short [] fits = omega arith
imports_short (name ∷ names) fits =
    let both = length-append (import_spelling name) (flat_map import_spelling names) in
    let short = fits.0.short in
    let rest = imports_short names fits.1 in
    omega (arith, both, short, rest)

-- ---- data of pages

form_short : (form : PageForm) → FormFits form → length (form_data form) ≤ 65536
form_short (plain bytes) fits = omega (arith, fits)
form_short (iterated groups) fits = let short = fits.2 in omega (arith, short)
form_short zeros fits = omega arith

pub forms_short : (forms : List PageForm) → AllByRecursion FormFits forms → length (flat_map form_data forms) ≤ 65536 * length forms
forms_short [] fits = omega arith
forms_short (form ∷ forms) fits =
    let both = length-append (form_data form) (flat_map form_data forms) in
    let first = form_short form fits.0 in
    let rest = forms_short forms fits.1 in
    omega (arith, both, first, rest)
