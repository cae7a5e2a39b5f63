-- An external of a name that only an import library defines means a pair of that library.
use Rattle.std.specs.Prelude.{◌≡◌, ℕ, ◌&&◌, Bool, true, false, not, List, Option, Some, None, map, filter, slice_get, get_or, bytes_eq, if◌then◌else◌}
use Rattle.std.specs.List.{list_any, flat_map, enumerate_from, filter_map}
use Rattle.std.specs.Option.{option_map, option_and_then, option_or}
use Rattle.std.proofs.Common.{ap, sym, ◌∙◌, subst, true≢false}
use Rattle.std.proofs.lemmas.Bool.{and_parts, not_from_false}
use Rattle.std.proofs.lemmas.Bool.{eqb-true}
use Rattle.std.proofs.lemmas.List.Quantifiers.{position-Some}
use Rattle.std.proofs.lemmas.Option.{slice_get-get_or}
use Rattle.std.proofs.lemmas.Slice.Eq.{bytes_eq-Decides}
use Rattle.lx_types.specs.Names.{uppercase}
use Rattle.lx_types.specs.declared.entry.EntryKey.{EntryKey}
use Rattle.lx_types.specs.declared.entry.EntryKey.TheVariants.{Ordinal, Named}
use Rattle.obj_types.specs.declared.definition.DefFile.{DefFile}
use Rattle.obj_types.specs.declared.input.LinkInput.{LinkInput}
use Rattle.obj_types.specs.declared.object.ObjModule.{ObjModule}
use Rattle.obj_types.specs.declared.symbol.Exp.{Exp}
use Rattle.obj_types.specs.declared.symbol.Ext.{Ext}
use Rattle.obj_types.specs.declared.symbol.Imp.{Imp}
use Rattle.link_model.specs.declared.refusals.ComdatRefusal.{ComdatRefusal}
use Rattle.link_model.specs.declared.symbols.Pick.{Pick}
use Rattle.link_model.specs.declared.symbols.SymDef.{SymDef}
use Rattle.link_model.specs.declared.symbols.SymDef.TheVariants as means
use Rattle.link_model.specs.Appearance.{place_by}
use Rattle.link_model.specs.Choosing.{wanted, next_pick, modules_of}
use Rattle.link_model.specs.Clash.{comdat_refusal}
use Rattle.link_model.specs.Kept.{Kept}
use Rattle.link_model.specs.Link.{Link, externals}
use Rattle.link_model.specs.Symbols.{Imported, Definition, definitions, definition_of, import_key, same_import, same_entry, pair_of, imports, commons, by_definition, global, local_meaning, Sym}
use Rattle.link_model.proofs.Members.{In, in_map, in_filter, in_flat_map, in_contained, any_in, position_is, from_map, from_flat_map, from_numbered, in_at, found_as}
use Rattle.link_model.proofs.Tables.{any-firsts}
use Rattle.link_model.proofs.KeyTests.{import_tests}
use Rattle.implib_model.specs.ImportModule.{import_meant}
use Rattle.implib_model.specs.Imports.{name_or, import_for}
use Rattle.image_model.proofs.FewImports.{in-filter_map}
use Rattle.layer_laws.specs.ImportLaws.{OnlyImported, Binds, ImportsBind}
use Rattle.layer_laws.proofs.ForwardersNamed.{uppercase-twice}
use Rattle.layer_laws.proofs.ImportsDefined.{contained}
use Rattle.layer_laws.proofs.KeptInputs.{only-kept}
use Rattle.layer_laws.proofs.NamesBound.{Definer, link_with, name-defined}

-- ---- an external is wanted

external_wanted : (input : LinkInput) (picks : List Pick) (clash : Option ComdatRefusal) (n : ℕ) (e : Ext) → In (n, e) (externals (link_with input picks clash)) → e.local ≡ false → In e.name (flat_map wanted (modules_of input picks))
external_wanted input picks clash n e i shared =
    let modules = modules_of input picks in
    let r = from_flat_map (λ (q : ℕ × ObjModule). map (λ (e : Ext). (q.0, e)) q.1.exts) (enumerate_from 1 modules) i in
    let own = from_map (λ (e : Ext). (r.item.0, e)) r.item.1.exts r.gives in
    let same : own.item ≡ e = ap (λ (q : ℕ × Ext). q.1) own.is in
    let place = from_numbered 1 modules r.inside in
    let inside = in_at modules place.place r.item.1 place.is in
    let kept : In own.item (filter (λ (e : Ext). not e.local) r.item.1.exts) = in_filter (λ (e : Ext). not e.local) own.inside (ap (λ (e : Ext). not e.local) same ∙ not_from_false e.local shared) in
    subst (λ (x : Ext). In x.name (flat_map wanted modules)) same (in_flat_map wanted inside (in_map (λ (e : Ext). e.name) kept))

-- ---- the slot of the pair

entry_equal : (a b : EntryKey) → same_entry a b ≡ true → a ≡ b
entry_equal (Ordinal n) (Ordinal m) e = ap Ordinal (eqb-true n m e)
entry_equal (Named n) (Named m) e = ap Named ((bytes_eq-Decides n m).0 e)
entry_equal (Ordinal n) (Named m) e = absurd (true≢false (sym e))
entry_equal (Named n) (Ordinal m) e = absurd (true≢false (sym e))

-- The pair that stands for another in the table of pairs: of one module and one entry.
record Slotted (l : Link) (p : Imp) : Type 0 where
  slot : ℕ
  pair : Imp
  found : place_by same_import import_key (import_key p) (imports l) ≡ Some slot
  stands : slice_get (imports l) slot ≡ Some pair
  from : uppercase p.module ≡ uppercase pair.module
  entry : p.entry ≡ pair.entry

slotted : (l : Link) (d : Definition) (p : Imp) → In d (definitions l) → d.meaning ≡ Imported p → Slotted l p
unfolding imports
slotted l d p i is =
    let pairs = filter_map (λ (d : Definition). pair_of d.meaning) (definitions l) in
    let test : Imp → Bool = λ x. same_import (import_key p) (import_key x) in
    let inside : In p pairs = in-filter_map (λ (d : Definition). pair_of d.meaning) i (ap pair_of is) in
    let any : list_any test (imports l) ≡ true = any-firsts import_tests p pairs ∙ any_in test inside (import_tests.refl p) in
    let at = position_is test (imports l) any in
    let r = position-Some test (imports l) _ p at in
    let outer = and_parts (bytes_eq p.name (get_or (imports l) _ p).name && bytes_eq (uppercase p.module) (uppercase (get_or (imports l) _ p).module)) (same_entry p.entry (get_or (imports l) _ p).entry) r.1 in
    let inner = and_parts (bytes_eq p.name (get_or (imports l) _ p).name) (bytes_eq (uppercase p.module) (uppercase (get_or (imports l) _ p).module)) outer.0 in
    record {
      slot = _;
      pair = get_or (imports l) _ p;
      found = at;
      stands = slice_get-get_or (imports l) _ p r.0;
      from = (bytes_eq-Decides (uppercase p.module) (uppercase (get_or (imports l) _ p).module)).0 inner.1;
      entry = entry_equal p.entry (get_or (imports l) _ p).entry outer.1;
    }

-- ---- what the external means

by_meaning : (l : Link) (d : Definition) (p : Imp) (slot : ℕ) → d.meaning ≡ Imported p → place_by same_import import_key (import_key p) (imports l) ≡ Some slot → by_definition l d d.meaning ≡ Some (means.Import slot)
by_meaning l d p slot is found = ap (by_definition l d) is ∙ ap (option_map (λ slot. means.Import slot)) found

global_is : (l : Link) (name : List ℕ) (d : Definition) (s : SymDef) → definition_of l name ≡ Some d → by_definition l d d.meaning ≡ Some s → global l name ≡ Some s
unfolding global
global_is l name d s is gives =
    ap (λ (o : Option Definition). option_or (option_and_then (λ d. by_definition l d d.meaning) o) (option_map (λ slot. means.Common slot) (place_by bytes_eq (λ c. c.0) name (commons l)))) is
    ∙ ap (λ (o : Option SymDef). option_or o (option_map (λ slot. means.Common slot) (place_by bytes_eq (λ c. c.0) name (commons l)))) gives

sym_is : (l : Link) (n : ℕ) (e : Ext) → e.local ≡ false → Sym l n e ≡ global l e.name
unfolding Sym
sym_is l n e shared = ap (λ (b : Bool). if b then local_meaning l n e.name else global l e.name) shared

definition_inside : (l : Link) (name : List ℕ) (d : Definition) → definition_of l name ≡ Some d → In d (definitions l)
unfolding definition_of
definition_inside l name d is = (found_as (λ (d : Definition). bytes_eq d.name name) (definitions l) d is).inside

bound_by : (l : Link) (d : DefFile) (stem name : List ℕ) (n : ℕ) (e : Ext) → e.local ≡ false → e.name ≡ name → Definer l d stem name → Binds l d stem name (Sym l n e)
bound_by l d stem name n e shared same definer =
    let x = definer.of.export in
    let p = import_meant (import_for (name_or d.name stem) x) in
    let s = slotted l definer.definition p (definition_inside l name definer.definition definer.is) definer.of.is in
    record {
      slot = s.slot;
      pair = s.pair;
      means = sym_is l n e shared ∙ ap (global l) same ∙ global_is l name definer.definition (means.Import s.slot) definer.is (by_meaning l definer.definition p s.slot definer.of.is s.found);
      stands = s.stands;
      export = x;
      exported = contained d.exports definer.of.exported;
      named = definer.of.named;
      of = record { «module» = sym s.from ∙ uppercase-twice (name_or d.name stem); entry = sym s.entry };
    }

by_picks : (input : LinkInput) (picks : List Pick) (clash : Option ComdatRefusal) → next_pick input picks ≡ None → (d : DefFile) (stem : List ℕ) (x : Exp) → In x d.exports → OnlyImported input d stem x.name → (n : ℕ) (e : Ext) → In (n, e) (externals (link_with input picks clash)) → e.local ≡ false → e.name ≡ x.name → Binds (link_with input picks clash) d stem x.name (Sym (link_with input picks clash) n e)
by_picks input picks clash ends d stem x i only n e j shared same =
    let asked = subst (λ (name : List ℕ). In name (flat_map wanted (modules_of input picks))) same (external_wanted input picks clash n e j shared) in
    bound_by (link_with input picks clash) d stem x.name n e shared same (name-defined input picks clash ends d stem x i only asked)

pub imports_bind : ImportsBind
imports_bind input l links d stem x i only n e j shared same =
    let picks = links.of_input.picks in
    let is = links.of_input.same in
    subst (λ (k : Link). Binds k d stem x.name (Sym k n e)) (sym is)
    (by_picks (Kept input) picks (comdat_refusal input picks) links.of_input.chosen.ends d stem x (in_contained d.exports x i) (only-kept input d stem x.name only) n e (subst (λ (k : Link). In (n, e) (externals k)) is (in_contained (externals l) (n, e) j)) shared same)
