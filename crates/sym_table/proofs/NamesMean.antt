-- What the tables of names give of a name that is not local is what the rules say.
use Rattle.std.specs.Prelude.{◌≡◌, ℕ, ◌+◌, Bool, true, false, cond, List, [], ◌∷◌, Option, Some, None, map, filter, find, bytes_eq, is_none, refl}
use Rattle.std.specs.List.{enumerate_from, position_from}
use Rattle.std.specs.Option.{option_map, option_and_then, option_or}
use Rattle.std.specs.Cmp.Lexicographic.{nat_list_eq_equiv}
use Rattle.std.proofs.Common.{ap, sym, ◌∙◌}
use Rattle.std.proofs.lemmas.Iterator.Adapters.{position_from-zero}
use Rattle.std.proofs.lemmas.List.Elements.{filter_agree}
use Rattle.obj_types.specs.declared.symbol.Common.{Common}
use Rattle.obj_types.specs.declared.symbol.Imp.{Imp}
use Rattle.link_model.specs.declared.symbols.SymDef.{SymDef}
use Rattle.link_model.specs.declared.symbols.SymDef.TheVariants as means
use Rattle.link_model.specs.Appearance.{firsts, place_by}
use Rattle.link_model.specs.Link.{Link}
use Rattle.link_model.specs.Symbols as rules
use Rattle.link_model.proofs.Rules.{rules as opened}
use Rattle.name_table.specs.Entries.{is_named, value_named}
use Rattle.sym_table.specs.declared.definitions.Definition.{Definition}
use Rattle.link_types.specs.declared.symbols.Globals.{Globals}
use Rattle.sym_table.specs.Communals.{with_greatest, slotted}
use Rattle.link_model.specs.SymbolRefusals.{twice}
use Rattle.link_types.specs.declared.symbols.GlobalNames.{GlobalNames}
use Rattle.sym_table.specs.Binding.{AreNamesOf}
use Rattle.sym_table.specs.Definitions.{shown, meaning_among, imports_among, twice_among}
use Rattle.sym_table.specs.Firsts.{same_name, firsts_of}
use Rattle.sym_table.specs.Meanings.{defined_by}
use Rattle.link_types.specs.Globals.{global_in}
use Rattle.sym_table.proofs.FirstOnes.{first_found, value-firsts}

-- ---- by definitions

abbrev meant : List Imp → rules.Definition → Option SymDef
meant imports d = meaning_among imports d d.meaning

meant_by : (imports : List Imp) (d : rules.Definition) (b : Bool) (o : Option (List ℕ × Option SymDef)) (p : Option rules.Definition) → option_map (λ (e : List ℕ × Option SymDef). e.1) o ≡ option_map (meant imports) p →
    option_map (λ (e : List ℕ × Option SymDef). e.1) (cond b (Some (defined_by imports d)) o) ≡ option_map (meant imports) (cond b (Some d) p)
meant_by imports d true o p e = refl
meant_by imports d false o p e = e

meant_named : (imports : List Imp) (name : List ℕ) (ds : List rules.Definition) → value_named name (map (defined_by imports) ds) ≡ option_map (meant imports) (find (λ d. bytes_eq d.name name) ds)
meant_named imports name [] = refl
meant_named imports name (d ∷ ds) =
    meant_by imports d (bytes_eq name d.name) (find (is_named name) (map (defined_by imports) ds)) (find (λ d. bytes_eq d.name name) ds) (meant_named imports name ds)
    ∙ ap (λ (b : Bool). option_map (meant imports) (cond b (Some d) (find (λ d. bytes_eq d.name name) ds))) (nat_list_eq_equiv.symm name d.name)

same_meaning : (l : Link) (d : rules.Definition) (m : rules.Meaning) → meaning_among (rules.imports l) d m ≡ rules.by_definition l d m
same_meaning l d (rules.Public place) = refl
same_meaning l d (rules.Imported pair) = refl

joined : (l : Link) (o : Option rules.Definition) → option_and_then (λ m. m) (option_map (meant (rules.imports l)) o) ≡ option_and_then (λ d. rules.by_definition l d d.meaning) o
joined l None = refl
joined l (Some d) = same_meaning l d d.meaning

-- A name's definition, in the table.
defined_means : (l : Link) (name : List ℕ) → option_and_then (λ m. m) (value_named name (firsts same_name (map (defined_by (rules.imports l)) (rules.definitions l)))) ≡ option_and_then (λ d. rules.by_definition l d d.meaning) (rules.definition_of l name)
unfolding opened
defined_means l name =
    ap (λ (o : Option (Option SymDef)). option_and_then (λ m. m) o) (value-firsts name (map (defined_by (rules.imports l)) (rules.definitions l)) ∙ meant_named (rules.imports l) name (rules.definitions l))
    ∙ joined l (find (λ d. bytes_eq d.name name) (rules.definitions l))

-- ---- communals

slot_by : (b : Bool) (c : List ℕ × Common) (s : ℕ) (o : Option (List ℕ × SymDef)) (p : Option ℕ) → option_map (λ (e : List ℕ × SymDef). e.1) o ≡ option_map (λ slot. means.Common slot) p →
    option_map (λ (e : List ℕ × SymDef). e.1) (cond b (Some (c.0, means.Common s)) o) ≡ option_map (λ slot. means.Common slot) (cond b (Some s) p)
slot_by true c s o p e = refl
slot_by false c s o p e = e

slot_from : (name : List ℕ) (s : ℕ) (cs : List (List ℕ × Common)) → value_named name (map (λ q. (q.1.0, means.Common q.0)) (enumerate_from s cs)) ≡ option_map (λ slot. means.Common slot) (position_from (λ c. bytes_eq name c.0) s cs)
slot_from name s [] = refl
slot_from name s (c ∷ cs) =
    slot_by (bytes_eq name c.0) c s (find (is_named name) (map (λ q. (q.1.0, means.Common q.0)) (enumerate_from (s + 1) cs))) (position_from (λ c. bytes_eq name c.0) (s + 1) cs) (slot_from name (s + 1) cs)

slot_named : (name : List ℕ) (cs : List (List ℕ × Common)) → value_named name (slotted cs) ≡ option_map (λ slot. means.Common slot) (place_by bytes_eq (λ c. c.0) name cs)
slot_named name cs =
    slot_from name 0 cs ∙ ap (λ (o : Option ℕ). option_map (λ slot. means.Common slot) o) (sym (position_from-zero (λ c. bytes_eq name c.0) cs))

none_mapped : {X Y : Type 0} (f : X → Y) (o : Option X) → is_none o ≡ is_none (option_map f o)
none_mapped f None = refl
none_mapped f (Some x) = refl

-- The communals of all COMDEFs, where these are the definitions.
pub communals_are : (l : Link) (found : List Definition) → map shown found ≡ rules.definitions l →
    map (with_greatest (rules.comdefs l)) (firsts same_name (filter (λ c. is_none (value_named c.0 (firsts_of found))) (rules.comdefs l))) ≡ rules.commons l
unfolding opened
communals_are l found e =
    ap (λ (cs : List (List ℕ × Common)). map (with_greatest (rules.comdefs l)) (firsts same_name cs))
    (filter_agree (λ c. is_none (value_named c.0 (firsts_of found))) (λ c. is_none (rules.definition_of l c.0))
    (λ c. none_mapped shown (value_named c.0 (firsts_of found)) ∙ ap is_none (first_found c.0 found ∙ ap (find (λ d. bytes_eq d.name c.0)) e)) (rules.comdefs l))

-- ---- both

pub global_means : (l : Link) (globals : Globals) → globals.defined ≡ firsts same_name (map (defined_by (rules.imports l)) (rules.definitions l)) → globals.communal ≡ slotted (rules.commons l) →
    (name : List ℕ) → global_in globals name ≡ rules.global l name
unfolding opened
global_means l globals d c name =
    ap (λ t. option_or (option_and_then (λ m. m) (value_named name t)) (value_named name globals.communal)) d
    ∙ ap (λ t. option_or (option_and_then (λ m. m) (value_named name (firsts same_name (map (defined_by (rules.imports l)) (rules.definitions l))))) (value_named name t)) c
    ∙ ap (λ (o : Option SymDef). option_or o (value_named name (slotted (rules.commons l)))) (defined_means l name)
    ∙ ap (λ (o : Option SymDef). option_or (option_and_then (λ d. rules.by_definition l d d.meaning) (rules.definition_of l name)) o) (slot_named name (rules.commons l))

imports_are : (l : Link) → imports_among (rules.definitions l) ≡ rules.imports l
unfolding opened
imports_are l = refl

-- The names by the definitions of a link.
pub names_are : (l : Link) (found : List Definition) (first : List (List ℕ × Definition)) (names : GlobalNames) → map shown found ≡ rules.definitions l → first ≡ firsts_of found →
    names.imports ≡ imports_among (map shown found) →
    names.commons ≡ map (with_greatest (rules.comdefs l)) (firsts same_name (filter (λ c. is_none (value_named c.0 first)) (rules.comdefs l))) →
    names.globals.defined ≡ firsts same_name (map (defined_by (imports_among (map shown found))) (map shown found)) →
    names.globals.communal ≡ slotted names.commons → AreNamesOf l names
names_are l found first names e f imports commons defined communal =
    let pairs : names.imports ≡ rules.imports l = imports ∙ (ap imports_among e ∙ imports_are l) in
    let those : names.commons ≡ rules.commons l =
    commons ∙ ap (λ t. map (with_greatest (rules.comdefs l)) (firsts same_name (filter (λ c. is_none (value_named c.0 t)) (rules.comdefs l)))) f ∙ communals_are l found e in
    let by : names.globals.defined ≡ firsts same_name (map (defined_by (rules.imports l)) (rules.definitions l)) =
    defined ∙ ap (λ (ds : List rules.Definition). firsts same_name (map (defined_by (imports_among ds)) ds)) e
    ∙ ap (λ (is : List Imp). firsts same_name (map (defined_by is) (rules.definitions l))) (imports_are l) in
    record { global = global_means l names.globals by (communal ∙ ap slotted those); commons = those; imports = pairs }

pub twice_is : (l : Link) (found : List Definition) → map shown found ≡ rules.definitions l → twice_among (map shown found) ≡ twice l
unfolding opened
twice_is l found e = ap twice_among e
