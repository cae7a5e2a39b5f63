-- The externals of all modules mean what the rules say, and the first that means nothing is the rules'.
use Rattle.std.specs.Prelude.{◌≡◌, ℕ, suc, ◌&&◌, bytes_eq, Bool, true, false, cond, List, [], ◌∷◌, Option, Some, map, find, is_none, refl}
use Rattle.std.specs.List.{enumerate_from, flat_map}
use Rattle.std.specs.Option.{option_map, option_and_then, option_or}
use Rattle.std.proofs.Common.{ap, sym, ◌∙◌, arith}
use Rattle.std.proofs.lemmas.List.Folds.{find-append}
use Rattle.sym_table.proofs.LeaderTables.{map-or}
use Rattle.lx_types.proofs.Lists.{map_agree, find_agree}
use Rattle.obj_types.specs.Items.{item}
use Rattle.obj_types.specs.declared.object.ObjModule.{ObjModule}
use Rattle.obj_types.specs.declared.symbol.Ext.{Ext}
use Rattle.link_model.specs.declared.refusals.SymRefusal.{SymRefusal}
use Rattle.link_model.specs.declared.refusals.SymRefusal.TheVariants.{Missing}
use Rattle.link_model.specs.declared.symbols.SymDef.{SymDef}
use Rattle.link_model.specs.Words.{first_of}
use Rattle.link_model.specs.Link.{Link}
use Rattle.link_model.specs.Symbols as rules
use Rattle.link_model.specs.SymbolRefusals.{missing_external}
use Rattle.link_model.proofs.Members.{In, here, there, from_numbered}
use Rattle.link_model.proofs.Rules.{rules as opened}
use Rattle.link_types.specs.declared.symbols.Globals.{Globals}
use Rattle.link_types.specs.Globals.{global_in}
use Rattle.sym_table.specs.Meanings.{meaning_in, row_in, rows_in, missing_row, missing_external_in}

-- ---- the externals of all modules

abbrev pub Agree : Link → Globals → Type 0
Agree l globals = (name : List ℕ) → global_in globals name ≡ rules.global l name

abbrev IsNumbered : Link → (ℕ × ObjModule) → Type 0
IsNumbered l q = item l.modules q.0 ≡ Some q.1

either : (l : Link) (globals : Globals) (n : ℕ) (m : ObjModule) (e : Ext) (b : Bool) → Agree l globals → IsNumbered l (n, m) →
    cond b (option_map (λ p. rules.at_place n p.place) (find (λ p. p.local && bytes_eq p.name e.name) m.pubs)) (global_in globals e.name) ≡ cond b (rules.local_meaning l n e.name) (rules.global l e.name)
either l globals n m e true agree at =
    sym (ap (λ (o : Option ObjModule). option_and_then (λ (m : ObjModule). option_map (λ p. rules.at_place n p.place) (find (λ p. p.local && bytes_eq p.name e.name) m.pubs)) o) at)
either l globals n m e false agree at = agree e.name

meaning_is : (l : Link) (globals : Globals) (n : ℕ) (m : ObjModule) → Agree l globals → IsNumbered l (n, m) → (e : Ext) → meaning_in globals n m e ≡ rules.Sym l n e
unfolding opened
meaning_is l globals n m agree at e = either l globals n m e e.local agree at

row_is : (l : Link) (globals : Globals) (q : ℕ × ObjModule) → Agree l globals → IsNumbered l q → row_in globals q.0 q.1 ≡ map (rules.Sym l q.0) q.1.exts
row_is l globals q agree at = map_agree (meaning_in globals q.0 q.1) (rules.Sym l q.0) (meaning_is l globals q.0 q.1 agree at) q.1.exts

rows_by : (l : Link) (globals : Globals) → Agree l globals → (qs : List (ℕ × ObjModule)) → ((q : ℕ × ObjModule) → In q qs → IsNumbered l q) →
    map (λ q. row_in globals q.0 q.1) qs ≡ map (λ q. map (rules.Sym l q.0) q.1.exts) qs
rows_by l globals agree [] at = refl
rows_by l globals agree (q ∷ qs) at =
    ap (λ (r : List (Option SymDef)). r ∷ map (λ q. row_in globals q.0 q.1) qs) (row_is l globals q agree (at q here))
    ∙ ap (λ (t : List (List (Option SymDef))). map (rules.Sym l q.0) q.1.exts ∷ t) (rows_by l globals agree qs (λ p i. at p (there i)))

numbers : (l : Link) (q : ℕ × ObjModule) → In q (enumerate_from 1 l.modules) → IsNumbered l q
numbers l q i =
    let r = from_numbered 1 l.modules i in
    let number = r.number in
    let next : q.0 ≡ suc r.place = omega (arith, number) in
    ap (item l.modules) next ∙ r.is

-- Each external means what the rules say.
pub rows_are : (l : Link) (globals : Globals) → Agree l globals → rows_in globals l.modules ≡ map (λ q. map (rules.Sym l q.0) q.1.exts) (enumerate_from 1 l.modules)
rows_are l globals agree = rows_by l globals agree (enumerate_from 1 l.modules) (numbers l)

abbrev nothing : Link → (ℕ × Ext) → Bool
nothing l q = is_none (rules.Sym l q.0 q.1)

abbrev lacking : (ℕ × Ext) → SymRefusal
lacking q = Missing q.1.name

of_module : (l : Link) (n : ℕ) (es : List Ext) → option_map (λ (e : Ext). Missing e.name) (find (λ e. is_none (rules.Sym l n e)) es) ≡ option_map lacking (find (nothing l) (map (λ (e : Ext). (n, e)) es))
of_module l n [] = refl
of_module l n (e ∷ es) = one (is_none (rules.Sym l n e)) (find (λ e. is_none (rules.Sym l n e)) es) (find (nothing l) (map (λ (e : Ext). (n, e)) es)) (of_module l n es)
  where
    one : (b : Bool) (o : Option Ext) (p : Option (ℕ × Ext)) → option_map (λ (e : Ext). Missing e.name) o ≡ option_map lacking p → option_map (λ (e : Ext). Missing e.name) (cond b (Some e) o) ≡ option_map lacking (cond b (Some (n, e)) p)
    one true o p h = refl
    one false o p h = h

missing_is : (l : Link) (globals : Globals) (q : ℕ × ObjModule) → Agree l globals → IsNumbered l q → missing_row globals q.0 q.1 ≡ option_map lacking (find (nothing l) (map (λ (e : Ext). (q.0, e)) q.1.exts))
missing_is l globals q agree at =
    ap (λ (o : Option Ext). option_map (λ (e : Ext). Missing e.name) o)
    (find_agree (λ e. is_none (meaning_in globals q.0 q.1 e)) (λ e. is_none (rules.Sym l q.0 e)) (λ e. ap is_none (meaning_is l globals q.0 q.1 agree at e)) q.1.exts)
    ∙ of_module l q.0 q.1.exts

missing_by : (l : Link) (globals : Globals) → Agree l globals → (qs : List (ℕ × ObjModule)) → ((q : ℕ × ObjModule) → In q qs → IsNumbered l q) →
    first_of (map (λ q. missing_row globals q.0 q.1) qs) ≡ option_map lacking (find (nothing l) (flat_map (λ q. map (λ (e : Ext). (q.0, e)) q.1.exts) qs))
missing_by l globals agree [] at = refl
missing_by l globals agree (q ∷ qs) at =
    let own : List (ℕ × Ext) = map (λ (e : Ext). (q.0, e)) q.1.exts in
    let others : List (ℕ × Ext) = flat_map (λ q. map (λ (e : Ext). (q.0, e)) q.1.exts) qs in
    ap (λ (o : Option SymRefusal). option_or o (first_of (map (λ q. missing_row globals q.0 q.1) qs))) (missing_is l globals q agree (at q here))
    ∙ ap (λ (o : Option SymRefusal). option_or (option_map lacking (find (nothing l) own)) o) (missing_by l globals agree qs (λ p i. at p (there i)))
    ∙ sym (ap (λ (o : Option (ℕ × Ext)). option_map lacking o) (find-append (nothing l) own others) ∙ map-or lacking (find (nothing l) own) (find (nothing l) others))

-- The first external that means nothing.
pub missing_externals_are : (l : Link) (globals : Globals) → Agree l globals → missing_external_in globals l.modules ≡ missing_external l
missing_externals_are l globals agree = missing_by l globals agree (enumerate_from 1 l.modules) (numbers l)
