-- There is one export for each that is asked, and the chosen modules of a whole input are whole.
use Rattle.std.specs.Prelude.{◌≡◌, ℕ, ◌<◌, Bool, true, false, List, [], ◌∷◌, Option, Some, None, IsSome, map, length, slice_get, is_some, if◌then◌else◌, refl}
use Rattle.std.specs.List.{filter_map, cons_option, zip, AllByRecursion}
use Rattle.std.specs.Option.{option_map, option_and_then, IsSomeAnd}
use Rattle.std.proofs.Common.{ap, sym, ◌∙◌, arith, true≢false, subst}
use Rattle.std.proofs.lemmas.List.Elements.{All-from_recursion}
use Rattle.std.proofs.lemmas.List.{length-map}
use Rattle.lx_types.proofs.Lists.{length-map-enumerate_from}
use Rattle.obj_types.specs.declared.object.ObjModule.{ObjModule}
use Rattle.obj_types.specs.declared.input.LinkInput.{LinkInput}
use Rattle.obj_types.specs.declared.symbol.Exp.{Exp}
use Rattle.obj_types.specs.Input.{WholeInput}
use Rattle.obj_types.specs.Whole.{WholeModule}
use Rattle.link_model.specs.declared.symbols.Pick.{Pick}
use Rattle.link_model.specs.declared.symbols.SymDef.{SymDef}
use Rattle.link_model.specs.declared.symbols.SymDef.TheVariants as means
use Rattle.link_model.specs.Choosing.{module_of, modules_of}
use Rattle.link_model.specs.Link.{Link, exports}
use Rattle.link_model.specs.Symbols.{imports, global}
use Rattle.link_model.specs.SymbolRefusals.{is_exportable}
use Rattle.link_model.specs.Layout.{spot, common_spot}
use Rattle.link_model.specs.Goals.{internal, shifted, of_symbol}
use Rattle.link_model.specs.Exports.{Export, ExportTarget, Forward, is_resident, is_wide, export_target, export_of, ordinal_at, ordinals, asked_ordinals}
use Rattle.link_model.specs.NothingDropped.{WholeLink, ChosenAreWhole, ExportsStay}
use Rattle.link_model.proofs.Rules.{rules}
use Rattle.link_model.proofs.Members.{in_at, all_in, item_at}
use Rattle.link_model.proofs.ExternalsMean.{exports_lead}
use Rattle.link_model.proofs.FixupsStay.{IsThere, global_there, symbol_target}

-- ---- each export leads somewhere

place_leads : (l : Link) (o : Option (ℕ × ℕ)) → IsSome (internal o) → IsSome (option_and_then (export_target l) (internal o))
place_leads l None h = h
place_leads l (Some q) h = refl

import_leads : (l : Link) (slot : ℕ) → slot < length (imports l) → IsSome (option_and_then (export_target l) (of_symbol l (means.Import slot)))
unfolding rules
import_leads l slot h =
    let pair = item_at (imports l) slot h in
    subst (λ o. is_some (option_map Forward o) ≡ true) (sym pair.is) refl

symbol_leads : (l : Link) (d : SymDef) → IsThere l d → is_exportable (Some d) ≡ true → IsSome (option_and_then (export_target l) (of_symbol l d))
unfolding rules
symbol_leads l (means.In n seg offset) h e =
    place_leads l (option_map (shifted offset) (spot l n seg)) (symbol_target l (means.In n seg offset) h)
symbol_leads l (means.Const value) h e = absurd (true≢false (sym e))
symbol_leads l (means.Common slot) h e = place_leads l (common_spot l slot) (symbol_target l (means.Common slot) h)
symbol_leads l (means.Import slot) h e = import_leads l slot h

leads_by : (l : Link) (name : List ℕ) (o : Option SymDef) → WholeLink l → global l name ≡ o → is_exportable o ≡ true → IsSome (option_and_then (export_target l) (option_and_then (of_symbol l) o))
unfolding rules
leads_by l name None whole is e = absurd (true≢false (sym e))
leads_by l name (Some d) whole is e = symbol_leads l d (global_there l name d whole is) e

name_leads : (l : Link) (name : List ℕ) → WholeLink l → is_exportable (global l name) ≡ true → IsSome (option_and_then (export_target l) (option_and_then (of_symbol l) (global l name)))
unfolding rules
name_leads l name whole e = leads_by l name (global l name) whole refl e

-- ---- none is left out

-- An export is of this ordinal and name.
abbrev IsAs : ℕ → Exp → Export → Type 0
IsAs n x e = (e.ordinal ≡ n) × (e.name ≡ x.name)

export_by : (l : Link) (n : ℕ) (x : Exp) (o : Option ExportTarget) → IsSome o →
    IsSomeAnd (option_map (λ target. record { ordinal = n; name = x.name; resident = is_resident x; words = x.words; wide = is_wide l target; target = target }) o) (IsAs n x)
export_by l n x None h = absurd (true≢false (sym h))
export_by l n x (Some t) h = (refl, refl)

export_there : (l : Link) (n : ℕ) (x : Exp) → WholeLink l → is_exportable (global l x.internal) ≡ true → IsSomeAnd (export_of l n x) (IsAs n x)
unfolding rules
export_there l n x whole e =
    export_by l n x (option_and_then (export_target l) (option_and_then (of_symbol l) (global l x.internal))) (name_leads l x.internal whole e)

names_by : (n : ℕ) (x : Exp) (o : Option Export) (rest : List Export) (names : List (List ℕ)) → IsSomeAnd o (IsAs n x) → map (λ e. e.name) rest ≡ names → map (λ e. e.name) (cons_option o rest) ≡ x.name ∷ names
names_by n x None rest names h e = absurd h
names_by n x (Some t) rest names h e = ap (λ (k : List ℕ). k ∷ map (λ e. e.name) rest) h.1 ∙ ap (λ (t : List (List ℕ)). x.name ∷ t) e

ordinals_by : (n : ℕ) (x : Exp) (o : Option Export) (rest : List Export) (ns : List ℕ) → IsSomeAnd o (IsAs n x) → map (λ e. e.ordinal) rest ≡ ns → map (λ e. e.ordinal) (cons_option o rest) ≡ n ∷ ns
ordinals_by n x None rest ns h e = absurd h
ordinals_by n x (Some t) rest ns h e = ap (λ (k : ℕ). k ∷ map (λ e. e.ordinal) rest) h.0 ∙ ap (λ (t : List ℕ). n ∷ t) e

abbrev out_of : Link → List ℕ → List Exp → List Export
out_of l ns xs = filter_map (λ q. export_of l q.0 q.1) (zip ns xs)

abbrev Lead : Link → List Exp → Type 0
Lead l xs = AllByRecursion (λ x. is_exportable (global l x.internal) ≡ true) xs

all_names : (l : Link) (ns : List ℕ) (xs : List Exp) → WholeLink l → length ns ≡ length xs → Lead l xs → map (λ e. e.name) (out_of l ns xs) ≡ map (λ x. x.name) xs
all_names l [] [] whole e h = refl
all_names l [] (x ∷ xs) whole e h = absurd (omega (arith, e))
all_names l (n ∷ ns) [] whole e h = refl
all_names l (n ∷ ns) (x ∷ xs) whole e h =
    let shorter : length ns ≡ length xs = omega (arith, e) in
    names_by n x (export_of l n x) (out_of l ns xs) (map (λ x. x.name) xs) (export_there l n x whole h.0) (all_names l ns xs whole shorter h.1)

all_ordinals : (l : Link) (ns : List ℕ) (xs : List Exp) → WholeLink l → length ns ≡ length xs → Lead l xs → map (λ e. e.ordinal) (out_of l ns xs) ≡ ns
all_ordinals l [] xs whole e h = refl
all_ordinals l (n ∷ ns) [] whole e h = absurd (omega (arith, e))
all_ordinals l (n ∷ ns) (x ∷ xs) whole e h =
    let shorter : length ns ≡ length xs = omega (arith, e) in
    ordinals_by n x (export_of l n x) (out_of l ns xs) ns (export_there l n x whole h.0) (all_ordinals l ns xs whole shorter h.1)

pub exports_stay : ExportsStay
unfolding rules
exports_stay l whole e =
    let os = asked_ordinals l in
    let as_many : length (ordinals os) ≡ length (exports l) = length-map-enumerate_from (λ q. ordinal_at os q.0 q.1) 0 os ∙ length-map (exports l) (λ (x : Exp). x.ordinal) in
    let lead = exports_lead l e in
    record { names = all_names l (ordinals os) (exports l) whole as_many lead; ordinals = all_ordinals l (ordinals os) (exports l) whole as_many lead }

-- ---- the chosen modules of a whole input

picked_by : (input : LinkInput) (lib : Bool) (index : ℕ) (m : ObjModule) → WholeInput input → slice_get (if lib then input.libs else input.objects) index ≡ Some m → WholeModule m
unfolding rules
picked_by input true index m whole e = all_in WholeModule input.libs whole.libs (in_at input.libs index m e)
picked_by input false index m whole e = all_in WholeModule input.objects whole.objects (in_at input.objects index m e)

more_whole : (o : Option ObjModule) (ms : List ObjModule) → ((m : ObjModule) → o ≡ Some m → WholeModule m) → AllByRecursion WholeModule ms → AllByRecursion WholeModule (cons_option o ms)
more_whole None ms h rest = rest
more_whole (Some m) ms h rest = (h m refl, rest)

picks_whole : (input : LinkInput) (picks : List Pick) → WholeInput input → AllByRecursion WholeModule (modules_of input picks)
picks_whole input [] whole = tt
picks_whole input (pick ∷ picks) whole =
    more_whole (module_of input pick) (modules_of input picks) (λ m e. picked_by input pick.lib pick.index m whole e) (picks_whole input picks whole)

pub chosen_are_whole : ChosenAreWhole
chosen_are_whole input picks whole =
    All-from_recursion WholeModule (modules_of input picks) (picks_whole input picks whole)
