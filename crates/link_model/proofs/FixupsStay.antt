-- All fixups and exports of a whole link whose names are not refused have a target and a place.
use Rattle.std.specs.Prelude.{◌≡◌, ℕ, zero, suc, ◌+◌, ◌<◌, Bool, true, false, cond, not, ◌&&◌, List, [], ◌∷◌, ◌++◌, Option, Some, None, IsSome, map, length, filter, slice_get, is_some, bytes_eq, refl}
use Rattle.std.specs.List.{find, filter_map, flat_map, enumerate_from, position, cons_option}
use Rattle.std.specs.Option.{option_map, option_and_then, option_or, IsSomeAnd}
use Rattle.std.proofs.Common.{ap, sym, ◌∙◌, arith, true≢false, subst, inl, inr}
use Rattle.std.proofs.lemmas.List.Quantifiers.{position-Some}
use Rattle.std.proofs.lemmas.Option.{same_Some}
use Rattle.std.proofs.lemmas.List.{map-append}
use Rattle.lx_types.proofs.Options.{mapped_some, some_and}
use Rattle.obj_types.specs.declared.object.FixAt.{FixAt}
use Rattle.obj_types.specs.declared.object.Goal.{Goal}
use Rattle.obj_types.specs.declared.object.Goal.TheVariants as goals
use Rattle.obj_types.specs.declared.object.ObjModule.{ObjModule}
use Rattle.obj_types.specs.declared.symbol.Pub.{Pub}
use Rattle.obj_types.specs.declared.symbol.PubPlace.{PubPlace}
use Rattle.obj_types.specs.declared.symbol.PubPlace.TheVariants as places
use Rattle.obj_types.specs.declared.symbol.Ext.{Ext}
use Rattle.obj_types.specs.declared.symbol.Imp.{Imp}
use Rattle.obj_types.specs.Items.{item, IsIndex}
use Rattle.obj_types.specs.Location.{location_len}
use Rattle.obj_types.specs.Whole.{IsPlainSeg, LiesIn, WholePlace, WholeFix, WholeGoal, WholeModule}
use Rattle.link_model.specs.declared.symbols.SymDef.{SymDef}
use Rattle.link_model.specs.declared.symbols.SymDef.TheVariants as means
use Rattle.link_model.specs.Appearance.{place_by}
use Rattle.link_model.specs.Link.{Link, chosen_module, externals}
use Rattle.link_model.specs.Symbols.{Meaning, Public, Imported, Definition, of_public, of_import, definitions_in, definitions, definition_of, import_key, same_import, imports, commons, at_place, by_definition, global, local_meaning, Sym}
use Rattle.link_model.specs.SymbolRefusals.{sym_refusal}
use Rattle.link_model.specs.Layout.{spot, common_spot}
use Rattle.link_model.specs.Goals.{Target, shifted, of_symbol, of_external, target_of}
use Rattle.link_model.specs.Fixups.{Fixup, fixup_at, fixup_of}
use Rattle.link_model.specs.NothingDropped.{WholeLink, LiesInObject, FixupsStay}
use Rattle.link_model.proofs.Rules.{rules}
use Rattle.link_model.proofs.Members.{In, here, there, in_map, in_flat_map, in_at, each_in, all_in, in_either, Mapped, from_map, from_filter, from_flat_map, from_numbered, value_of, value_is, item_at, found_as}
use Rattle.link_model.proofs.ExternalsMean.{externals_by_recursion}
use Rattle.link_model.proofs.SegmentsStand.{segments_stand, communals_stand}

-- ---- what stands

pub module_whole : (l : Link) (n : ℕ) (m : ObjModule) → WholeLink l → chosen_module l n ≡ Some m → WholeModule m
module_whole l zero m whole e = absurd (true≢false (sym (ap is_some e)))
module_whole l (suc n) m whole e = all_in WholeModule l.modules whole (in_at l.modules n m e)

pub numbered_module : (l : Link) (q : ℕ × ObjModule) → In q (enumerate_from 1 l.modules) → chosen_module l q.0 ≡ Some q.1
numbered_module l q i =
    let r = from_numbered 1 l.modules i in
    let n = r.number in
    let same : suc r.place ≡ q.0 = omega (arith, n) in
    subst (λ (k : ℕ). item l.modules k ≡ Some q.1) same r.is

plain_stands : (l : Link) (n index : ℕ) (m : ObjModule) → chosen_module l n ≡ Some m → IsPlainSeg m index → IsSome (spot l n index)
unfolding rules
plain_stands l n index m em plain =
    let s = value_of (item m.segs index) (λ s. s.debug ≡ false) plain in
    some_and (spot l n index) (LiesInObject l s.item.len) (segments_stand l n index m s.item em s.is s.holds)

-- ---- what a meaning names is there

pub record InModule (l : Link) (n seg : ℕ) : Type 0 where
  pub owner : ObjModule
  pub chosen : chosen_module l n ≡ Some owner
  pub plain : IsPlainSeg owner seg

abbrev pub IsThere : Link → SymDef → Type 0
IsThere l (means.In n seg offset) = InModule l n seg
IsThere l (means.Const value) = Unit {0}
IsThere l (means.Common slot) = slot < length (commons l)
IsThere l (means.Import slot) = slot < length (imports l)

place_there : (l : Link) (n : ℕ) (m : ObjModule) (place : PubPlace) → chosen_module l n ≡ Some m → WholePlace m place → IsThere l (at_place n place)
place_there l n m (places.In seg offset) e whole = record { owner = m; chosen = e; plain = whole }
place_there l n m (places.Const value) e whole = tt

-- ---- local names

local_by : (l : Link) (n : ℕ) (m : ObjModule) (name : List ℕ) (d : SymDef) → WholeModule m → chosen_module l n ≡ Some m →
    (o : Option Pub) → find (λ p. p.local && bytes_eq p.name name) m.pubs ≡ o → option_map (λ p. at_place n p.place) o ≡ Some d → IsThere l d
local_by l n m name d whole em None is e = absurd (true≢false (sym (ap is_some e)))
local_by l n m name d whole em (Some p) is e =
    let inside = found_as (λ (p : Pub). p.local && bytes_eq p.name name) m.pubs p is in
    let there = place_there l n m p.place em (all_in (λ (p : Pub). WholePlace m p.place) m.pubs whole.pubs inside.inside) in
    subst (IsThere l) (same_Some (at_place n p.place) d e) there

local_there : (l : Link) (n : ℕ) (m : ObjModule) (name : List ℕ) (d : SymDef) → WholeLink l → chosen_module l n ≡ Some m → local_meaning l n name ≡ Some d → IsThere l d
local_there l n m name d whole em e =
    let opened : option_map (λ p. at_place n p.place) (find (λ p. p.local && bytes_eq p.name name) m.pubs) ≡ Some d =
    sym (ap (option_and_then (λ m. option_map (λ p. at_place n p.place) (find (λ p. p.local && bytes_eq p.name name) m.pubs))) em) ∙ e in
    local_by l n m name d (module_whole l n m whole em) em (find (λ p. p.local && bytes_eq p.name name) m.pubs) refl opened

-- ---- global names

abbrev place_in : Meaning → Option PubPlace
place_in (Public place) = Some place
place_in (Imported pair) = None

-- Where a public's definition is from.
pub record Defined (l : Link) (d : Definition) (place : PubPlace) : Type 0 where
  pub owner : ObjModule
  pub chosen : chosen_module l d.by ≡ Some owner
  pub whole : WholePlace owner place

public_from : (l : Link) (n : ℕ) (m : ObjModule) (d : Definition) (place : PubPlace) →
    WholeModule m → chosen_module l n ≡ Some m → Mapped (of_public n) (filter (λ p. not p.local) m.pubs) d → place_in d.meaning ≡ Some place → Defined l d place
public_from l n m d place whole em r e =
    let p = r.item in
    let inside = from_filter (λ (p : Pub). not p.local) m.pubs r.inside in
    let holds : WholePlace m p.place = all_in (λ (p : Pub). WholePlace m p.place) m.pubs whole.pubs inside in
    let same : p.place ≡ place = same_Some p.place place (ap (λ (t : Definition). place_in t.meaning) r.is ∙ e) in
    let by : n ≡ d.by = ap (λ (t : Definition). t.by) r.is in
    record { owner = m; chosen = subst (λ (k : ℕ). chosen_module l k ≡ Some m) by em; whole = subst (WholePlace m) same holds }

no_public : (l : Link) (n : ℕ) (is : List Imp) (d : Definition) (place : PubPlace) → Mapped (of_import n) is d → place_in d.meaning ≡ Some place → Defined l d place
no_public l n is d place r e =
    absurd (true≢false (sym (ap is_some (ap (λ (t : Definition). place_in t.meaning) r.is ∙ e))))

in_module_from : (l : Link) (q : ℕ × ObjModule) (d : Definition) (place : PubPlace) → WholeLink l → In q (enumerate_from 1 l.modules) → In d (definitions_in q.0 q.1) → place_in d.meaning ≡ Some place → Defined l d place
unfolding rules
in_module_from l q d place whole iq i e =
    let em = numbered_module l q iq in
    elim (in_either (map (of_public q.0) (filter (λ p. not p.local) q.1.pubs)) (map (of_import q.0) q.1.imports) i) as (λ s. Defined l d place) [ inl j ↦ public_from l q.0 q.1 d place (module_whole l q.0 q.1 whole em) em (from_map (of_public q.0) (filter (λ p. not p.local) q.1.pubs) j) e | inr j ↦ no_public l q.0 q.1.imports d place (from_map (of_import q.0) q.1.imports j) e ]

public_defined : (l : Link) (d : Definition) (place : PubPlace) → WholeLink l → In d (definitions l) → place_in d.meaning ≡ Some place → Defined l d place
unfolding rules
public_defined l d place whole i e =
    elim (in_either (flat_map (λ q. definitions_in q.0 q.1) (enumerate_from 1 l.modules)) (map (of_import 0) l.def.imports) i) as (λ s. Defined l d place) [ inl j ↦ let r = from_flat_map (λ (q : ℕ × ObjModule). definitions_in q.0 q.1) (enumerate_from 1 l.modules) j in in_module_from l r.item d place whole r.inside r.gives e | inr j ↦ no_public l 0 l.def.imports d place (from_map (of_import 0) l.def.imports j) e ]

below : {X : Type 0} (test : X → Bool) (xs : List X) (k : ℕ) → position test xs ≡ Some k → k < length xs
below test [] k e = absurd (true≢false (sym (ap is_some e)))
below test (x ∷ xs) k e = (position-Some test (x ∷ xs) k x e).0

communal_by : (l : Link) (name : List ℕ) (d : SymDef) (o : Option ℕ) → place_by bytes_eq (λ c. c.0) name (commons l) ≡ o → option_map (λ slot. means.Common slot) o ≡ Some d → IsThere l d
unfolding rules
communal_by l name d None is e = absurd (true≢false (sym (ap is_some e)))
communal_by l name d (Some slot) is e =
    subst (IsThere l) (same_Some (means.Common slot) d e) (below (λ c. bytes_eq name c.0) (commons l) slot is)

communal_there : (l : Link) (name : List ℕ) (d : SymDef) → option_map (λ slot. means.Common slot) (place_by bytes_eq (λ c. c.0) name (commons l)) ≡ Some d → IsThere l d
unfolding rules
communal_there l name d e = communal_by l name d (place_by bytes_eq (λ c. c.0) name (commons l)) refl e

import_by : (l : Link) (name : List ℕ) (pair : Imp) (d : SymDef) (o : Option ℕ) → place_by same_import import_key (import_key pair) (imports l) ≡ o →
    option_or (option_map (λ slot. means.Import slot) o) (option_map (λ slot. means.Common slot) (place_by bytes_eq (λ c. c.0) name (commons l))) ≡ Some d → IsThere l d
unfolding rules
import_by l name pair d None is e = communal_there l name d e
import_by l name pair d (Some slot) is e =
    subst (IsThere l) (same_Some (means.Import slot) d e) (below (λ i. same_import (import_key pair) (import_key i)) (imports l) slot is)

meaning_by : (l : Link) (name : List ℕ) (d : SymDef) (df : Definition) (m : Meaning) → WholeLink l → In df (definitions l) → df.meaning ≡ m →
    option_or (by_definition l df m) (option_map (λ slot. means.Common slot) (place_by bytes_eq (λ c. c.0) name (commons l))) ≡ Some d → IsThere l d
unfolding rules
meaning_by l name d df (Public place) whole i is e =
    let r = public_defined l df place whole i (ap place_in is) in
    subst (IsThere l) (same_Some (at_place df.by place) d e) (place_there l df.by r.owner place r.chosen r.whole)
meaning_by l name d df (Imported pair) whole i is e =
    import_by l name pair d (place_by same_import import_key (import_key pair) (imports l)) refl e

global_by : (l : Link) (name : List ℕ) (d : SymDef) (o : Option Definition) → WholeLink l → definition_of l name ≡ o → option_or (option_and_then
    (λ d. by_definition l d d.meaning) o) (option_map (λ slot. means.Common slot) (place_by bytes_eq (λ c. c.0) name (commons l))) ≡ Some d → IsThere l d
unfolding rules
global_by l name d None whole is e = communal_there l name d e
global_by l name d (Some df) whole is e =
    meaning_by l name d df df.meaning whole (found_as (λ (t : Definition). bytes_eq t.name name) (definitions l) df is).inside refl e

pub global_there : (l : Link) (name : List ℕ) (d : SymDef) → WholeLink l → global l name ≡ Some d → IsThere l d
unfolding rules
global_there l name d whole e = global_by l name d (definition_of l name) whole refl e

sym_by : (l : Link) (n : ℕ) (m : ObjModule) (name : List ℕ) (local : Bool) (d : SymDef) → WholeLink l → chosen_module l n ≡ Some m → cond local (local_meaning l n name) (global l name) ≡ Some d → IsThere l d
unfolding rules
sym_by l n m name true d whole em e = local_there l n m name d whole em e
sym_by l n m name false d whole em e = global_there l name d whole e

pub sym_there : (l : Link) (n : ℕ) (m : ObjModule) (e : Ext) (d : SymDef) → WholeLink l → chosen_module l n ≡ Some m → Sym l n e ≡ Some d → IsThere l d
unfolding rules
sym_there l n m e d whole em is = sym_by l n m e.name e.local d whole em is

-- ---- targets

pub symbol_target : (l : Link) (d : SymDef) → IsThere l d → IsSome (of_symbol l d)
unfolding rules
symbol_target l (means.In n seg offset) h =
    mapped_some _ _ (mapped_some (shifted offset) (spot l n seg) (plain_stands l n seg h.owner h.chosen h.plain))
symbol_target l (means.Const value) h = refl
symbol_target l (means.Common slot) h =
    let c = item_at (commons l) slot h in
    mapped_some _ _ (some_and (common_spot l slot) (LiesInObject l c.item.1.len) (communals_stand l slot c.item c.is))
symbol_target l (means.Import slot) h = refl

pub record AtIndex {X : Type 0} (xs : List X) (i : ℕ) : Type 0 where
  pub value : X
  pub is : item xs i ≡ Some value
  pub inside : In value xs

at_index : {X : Type 0} (xs : List X) (i : ℕ) → IsIndex xs i → AtIndex xs i
at_index xs zero h = absurd (omega (arith, h.0))
at_index xs (suc i) h =
    let r = item_at xs i (omega (arith, h.1)) in record { value = r.item; is = r.is; inside = in_at xs i r.item r.is }

module_in_list : (ms : List ObjModule) (b k : ℕ) (m : ObjModule) → slice_get ms k ≡ Some m → In (b + k, m) (enumerate_from b ms)
module_in_list [] b k m e = absurd (true≢false (sym (ap is_some e)))
module_in_list (x ∷ ms) b zero m e =
    let same : x ≡ m = same_Some x m e in
    let at : b ≡ b + 0 = omega arith in
    subst (λ (t : ObjModule). In (b + 0, t) ((b, x) ∷ enumerate_from (b + 1) ms)) same (subst (λ (n : ℕ). In (n, x) ((b, x) ∷ enumerate_from (b + 1) ms)) at here)
module_in_list (x ∷ ms) b (suc k) m e =
    let at : b + 1 + k ≡ b + suc k = omega arith in
    there (subst (λ (n : ℕ). In (n, m) (enumerate_from (b + 1) ms)) at (module_in_list ms (b + 1) k m e))

chosen_in : (l : Link) (n : ℕ) (m : ObjModule) → chosen_module l n ≡ Some m → In (n, m) (enumerate_from 1 l.modules)
chosen_in l zero m e = absurd (true≢false (sym (ap is_some e)))
chosen_in l (suc n) m e =
    let at : 1 + n ≡ suc n = omega arith in
    subst (λ (k : ℕ). In (k, m) (enumerate_from 1 l.modules)) at (module_in_list l.modules 1 n m e)

external_target : (l : Link) (n i : ℕ) (m : ObjModule) → WholeLink l → sym_refusal l ≡ None → chosen_module l n ≡ Some m → IsIndex m.exts i → IsSome (of_external l n i)
unfolding rules
external_target l n i m whole e em index =
    let x = at_index m.exts i index in
    let listed : In (n, x.value) (externals l) = in_flat_map (λ (q : ℕ × ObjModule). map (λ e. (q.0, e)) q.1.exts) (chosen_in l n m em) (in_map (λ (e : Ext). (n, e)) x.inside) in
    let meant = value_is (Sym l n x.value) (each_in (λ q. IsSome (Sym l q.0 q.1)) (externals l) (externals_by_recursion l e) listed) in
    let there = sym_by l n m x.value.name x.value.local meant.item whole em meant.is in
    let opened : of_external l n i ≡ of_symbol l meant.item =
    ap (option_and_then (λ m. option_and_then (λ e. option_and_then (of_symbol l) (Sym l n e)) (item m.exts i))) em
    ∙ (ap (option_and_then (λ e. option_and_then (of_symbol l) (Sym l n e))) x.is ∙ ap (option_and_then (of_symbol l)) meant.is) in
    subst (λ (o : Option Target). is_some o ≡ true) (sym opened) (symbol_target l meant.item there)

goal_target : (l : Link) (n : ℕ) (m : ObjModule) (goal : Goal) → WholeLink l → sym_refusal l ≡ None → chosen_module l n ≡ Some m → WholeGoal m goal → IsSome (target_of l n goal)
unfolding rules
goal_target l n m (goals.Seg i) whole e em h = mapped_some _ _ (plain_stands l n i m em h)
goal_target l n m (goals.Ext i) whole e em h = external_target l n i m whole e em h
goal_target l n m (goals.Group i) whole e em h =
    let g = at_index m.groups i h in
    mapped_some _ _ (subst (λ (o : Option (List ℕ)). is_some o ≡ true) (sym (ap (option_and_then (λ m. option_map (λ g. g.name) (item m.groups i))) em ∙ ap (option_map (λ g. g.name)) g.is)) refl)

-- ---- fixups

fixup_by : (l : Link) (n : ℕ) (m : ObjModule) (f : FixAt) (t : Option Target) (o : Option (ℕ × ℕ)) →
    IsSome t → IsSome o → IsSomeAnd (option_and_then (λ target. option_map (fixup_at l n m f target) (option_map (shifted f.offset) o)) t) (λ x. x.fix ≡ f)
fixup_by l n m f None o ht ho = absurd (true≢false (sym ht))
fixup_by l n m f (Some t) None ht ho = absurd (true≢false (sym ho))
fixup_by l n m f (Some t) (Some q) ht ho = refl

weaker : {X : Type 0} (o : Option X) (P Q : X → Type 0) → ((x : X) → P x → Q x) → IsSomeAnd o P → IsSomeAnd o Q
weaker None P Q f h = h
weaker (Some x) P Q f h = f x h

pub lies_stands : (l : Link) (n : ℕ) (m : ObjModule) (seg offset len : ℕ) → chosen_module l n ≡ Some m → LiesIn m seg offset len → IsSome (spot l n seg)
lies_stands l n m seg offset len em h =
    plain_stands l n seg m em (weaker (item m.segs seg) _ (λ s. s.debug ≡ false) (λ s both. both.0) h)

fixup_there : (l : Link) (n : ℕ) (m : ObjModule) (f : FixAt) → WholeLink l → sym_refusal l ≡ None → chosen_module l n ≡ Some m → WholeFix m f → IsSomeAnd (fixup_of l n m f) (λ x. x.fix ≡ f)
unfolding rules
fixup_there l n m f whole e em h =
    fixup_by l n m f (target_of l n f.goal) (spot l n f.seg) (goal_target l n m f.goal whole e em h.goal) (lies_stands l n m f.seg f.offset (location_len f.loc) em h.place)

stays_by : (f : FixAt) (o : Option Fixup) (rest : List Fixup) (fs : List FixAt) → IsSomeAnd o (λ x. x.fix ≡ f) → map (λ x. x.fix) rest ≡ fs → map (λ x. x.fix) (cons_option o rest) ≡ f ∷ fs
stays_by f None rest fs h e = absurd h
stays_by f (Some x) rest fs h e = ap (λ (g : FixAt). g ∷ map (λ x. x.fix) rest) h ∙ ap (λ (t : List FixAt). f ∷ t) e

stay : (h : FixAt → Option Fixup) (fs : List FixAt) → ((f : FixAt) → In f fs → IsSomeAnd (h f) (λ x. x.fix ≡ f)) → map (λ x. x.fix) (filter_map h fs) ≡ fs
stay h [] all = refl
stay h (f ∷ fs) all = stays_by f (h f) (filter_map h fs) fs (all f here) (stay h fs (λ g i. all g (there i)))

stay_in_modules : (l : Link) (b : ℕ) (ms : List ObjModule) →
    WholeLink l → sym_refusal l ≡ None → ((q : ℕ × ObjModule) → In q (enumerate_from b ms) → chosen_module l q.0 ≡ Some q.1) →
    map (λ x. x.fix) (flat_map (λ q. filter_map (fixup_of l q.0 q.1) q.1.fixes) (enumerate_from b ms)) ≡ flat_map (λ m. m.fixes) ms
unfolding rules
stay_in_modules l b [] whole e chosen = refl
stay_in_modules l b (m ∷ ms) whole e chosen =
    let em = chosen (b, m) here in
    let w = module_whole l b m whole em in
    let first = stay (fixup_of l b m) m.fixes (λ f i. fixup_there l b m f whole e em (all_in (WholeFix m) m.fixes w.fixes i)) in
    let rest = flat_map (λ (q : ℕ × ObjModule). filter_map (fixup_of l q.0 q.1) q.1.fixes) (enumerate_from (b + 1) ms) in
    map-append (λ (x : Fixup). x.fix) (filter_map (fixup_of l b m) m.fixes) rest ∙ (ap (λ (t : List FixAt). t ++ map (λ x. x.fix) rest) first
    ∙ ap (λ (t : List FixAt). m.fixes ++ t) (stay_in_modules l (b + 1) ms whole e (λ q i. chosen q (there i))))

pub fixups_stay : FixupsStay
unfolding rules
fixups_stay l whole e = stay_in_modules l 1 l.modules whole e (λ q i. numbered_module l q i)
