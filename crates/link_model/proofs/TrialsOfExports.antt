-- Exports, their refusals and the order of all refusals, tried on small inputs: each line is a value that the rules
-- give by hand.
use Rattle.std.specs.Prelude.{◌≡◌, ℕ, true, false, List, [], ◌∷◌, Option, Some, None, refl, codes}
use Rattle.lx_types.specs.declared.entry.EntryKey.TheVariants as keys
use Rattle.obj_types.specs.declared.object.Frame.TheVariants as frames
use Rattle.obj_types.specs.declared.object.Goal.TheVariants as goals
use Rattle.obj_types.specs.declared.object.FixAt.{FixAt}
use Rattle.obj_types.specs.declared.object.ObjModule.{ObjModule}
use Rattle.obj_types.specs.declared.symbol.Exp.{Exp}
use Rattle.obj_types.specs.declared.symbol.Ext.{Ext}
use Rattle.obj_types.specs.declared.definition.ModKind.TheVariants.{Library}
use Rattle.obj_types.specs.Fresh.{empty_module}
use Rattle.link_model.specs.declared.refusals.SymRefusal.TheVariants.{Missing}
use Rattle.link_model.specs.declared.refusals.LayRefusal.TheVariants.{AbsoluteSeg}
use Rattle.link_model.specs.declared.refusals.FixRefusal.TheVariants.{FarSelf}
use Rattle.link_model.specs.declared.refusals.EntryRefusal.TheVariants.{Ordinal, NameTwice}
use Rattle.link_model.specs.declared.refusals.LinkRefusal.TheVariants as why
use Rattle.link_model.specs.Link.{Link}
use Rattle.link_model.specs.Exports.{At, Forward, ordinals, Out, entry_refusal, ordinal_past}
use Rattle.link_model.specs.Refusal.{link_refusal}
use Rattle.obj_types.specs.Defaults.{default_def}
use Rattle.link_model.proofs.Rules.{rules}
use Rattle.link_model.proofs.Samples.{linked, seg, fix, public, extern, import, export, code32, code16}

abbrev library : List ObjModule → Link
library modules = linked (default_def Library None) modules

-- ---- exports

-- Ordinals 2 and 1 are given, so `G` gets 3; its name is resident. `H` leads to another module.
abbrev exporting : Link
exporting =
    library
    (record empty_module {
      segs = code32 8 ∷ [];
      pubs = public (codes "F") 1 0 ∷ public (codes "G") 1 4 ∷ [];
      imports = import (codes "H") (codes "LIB") (keys.Ordinal 9) ∷ [];
      exports = export (codes "F") (codes "F") (Some 2) ∷ export (codes "G") (codes "G") None ∷ export (codes "H") (codes "H") (Some 1) ∷ [];
    } ∷ [])

three_exports :
    Out exporting ≡ record { ordinal = 2; name = codes "F"; resident = false; words = 0; wide = true; target = At 1 0 }
    ∷ record { ordinal = 3; name = codes "G"; resident = true; words = 0; wide = true; target = At 1 4 }
    ∷ record { ordinal = 1; name = codes "H"; resident = false; words = 0; wide = false; target = Forward (import (codes "H") (codes "LIB") (keys.Ordinal 9)) } ∷ []
unfolding rules
three_exports = refl

-- An export of a 16-bit object has a short offset, and parameter words are kept.
abbrev narrow : Link
narrow =
    library
    (record empty_module { segs = code16 (codes "A") 8 ∷ []; pubs = public (codes "F") 1 4 ∷ []; exports = record (export (codes "F") (codes "F") None) { words = 3 } ∷ [] } ∷ [])

narrow_export : Out narrow ≡ record { ordinal = 1; name = codes "F"; resident = true; words = 3; wide = false; target = At 1 4 } ∷ []
unfolding rules
narrow_export = refl

-- Exports without ordinal take the free numbers in turn.
free_in_turn : ordinals (None ∷ Some 2 ∷ None ∷ Some 1 ∷ Some 4 ∷ None ∷ []) ≡ 3 ∷ 2 ∷ 5 ∷ 1 ∷ 4 ∷ 6 ∷ []
unfolding rules
free_in_turn = refl

-- ---- refusals

abbrev exports_of : List Exp → ObjModule
exports_of list = record empty_module { segs = code32 8 ∷ []; pubs = public (codes "F") 1 0 ∷ []; exports = list }

abbrev asked : List ℕ → Option ℕ → Exp
asked name ordinal = export name (codes "F") ordinal

-- Ordinal 0 is none.
ordinal_0 : entry_refusal (library (exports_of (asked (codes "A") (Some 1) ∷ asked (codes "B") (Some 0) ∷ []) ∷ [])) ≡ Some (Ordinal 0)
unfolding rules
ordinal_0 = refl

-- The first ordinal that was given before, and not the least one.
given_twice :
    entry_refusal (library (exports_of (asked (codes "A") (Some 7) ∷ asked (codes "B") (Some 5) ∷ asked (codes "C") (Some 7) ∷ asked (codes "D") (Some 5) ∷ []) ∷ [])) ≡ Some (Ordinal 7)
unfolding rules
given_twice = refl

-- Where 3 is the greatest, the third export without ordinal passes it, since 2 is given.
past_greatest : ordinal_past 3 (None ∷ Some 2 ∷ None ∷ None ∷ []) ≡ Some (Ordinal 4)
unfolding rules
past_greatest = refl

up_to_greatest : ordinal_past 3 (None ∷ Some 2 ∷ None ∷ []) ≡ None
unfolding rules
up_to_greatest = refl

-- Two exports of one name, in two modules; the ordinal is tried first.
name_twice : entry_refusal (library (exports_of (asked (codes "A") None ∷ asked (codes "B") None ∷ []) ∷ record empty_module { exports = asked (codes "B") None ∷ [] } ∷ [])) ≡ Some (NameTwice (codes "B"))
unfolding rules
name_twice = refl

ordinal_first : entry_refusal (library (exports_of (asked (codes "A") None ∷ asked (codes "A") (Some 0) ∷ []) ∷ [])) ≡ Some (Ordinal 0)
unfolding rules
ordinal_first = refl

-- Names are compared byte for byte.
two_cases : entry_refusal (library (exports_of (asked (codes "A") None ∷ asked (codes "a") None ∷ []) ∷ [])) ≡ None
unfolding rules
two_cases = refl

-- ---- the order of all refusals: an input with one of each kind, and without the earlier ones in turn

abbrev faulty : List Ext → ℕ → List FixAt → Link
faulty exts align fixes =
    library
    (record (exports_of (asked (codes "A") (Some 0) ∷ [])) { segs = code32 8 ∷ seg (codes "D") (codes "DATA") align 2 true 8 ∷ []; exts = exts; fixes = fixes } ∷ [])

abbrev far : FixAt
far = fix 1 0 0 true frames.Here (goals.Seg 1) 129

symbols_first : link_refusal (faulty (extern (codes "x") ∷ []) 0 (far ∷ [])) ≡ Some (why.Sym (Missing (codes "x")))
unfolding rules
symbols_first = refl

then_layout : link_refusal (faulty [] 0 (far ∷ [])) ≡ Some (why.Lay (AbsoluteSeg (codes "D")))
unfolding rules
then_layout = refl

then_fixups : link_refusal (faulty [] 5 (far ∷ [])) ≡ Some (why.Fixing (FarSelf 1 1 0))
unfolding rules
then_fixups = refl

then_exports : link_refusal (faulty [] 5 []) ≡ Some (why.Entry (Ordinal 0))
unfolding rules
then_exports = refl

-- Nothing is refused.
accepted : link_refusal exporting ≡ None
unfolding rules
accepted = refl
