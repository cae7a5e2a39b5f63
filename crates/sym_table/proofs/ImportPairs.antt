-- The table of import pairs, with one more definition.
use Rattle.std.specs.Prelude.{◌≡◌, cond, List, [], ◌∷◌, ◌++◌, Option, Some, None}
use Rattle.std.specs.List.{list_any, filter_map, cons_option}
use Rattle.std.proofs.Common.{ap, ◌∙◌}
use Rattle.std.proofs.lemmas.List.{append-nil}
use Rattle.std.proofs.lemmas.List.Elements.{filter_map-append}
use Rattle.obj_types.specs.declared.symbol.Imp.{Imp}
use Rattle.link_model.specs.Appearance.{firsts_by}
use Rattle.link_model.specs.Symbols.{Definition, import_key, same_import, pair_of}
use Rattle.link_model.proofs.KeyTests.{import_tests}
use Rattle.link_model.proofs.Tables.{firsts-push}
use Rattle.sym_table.specs.Definitions.{imports_among}

pub public-push : (ds : List Definition) (d : Definition) → pair_of d.meaning ≡ None → imports_among (ds ++ d ∷ []) ≡ imports_among ds
public-push ds d e =
    ap (firsts_by same_import import_key) (filter_map-append (λ (x : Definition). pair_of x.meaning) ds (d ∷ [])
    ∙ ap (λ (o : Option Imp). filter_map (λ (x : Definition). pair_of x.meaning) ds ++ cons_option o []) e
    ∙ append-nil (filter_map (λ (x : Definition). pair_of x.meaning) ds))

pub import-push : (ds : List Definition) (d : Definition) (pair : Imp) → pair_of d.meaning ≡ Some pair →
    imports_among (ds ++ d ∷ []) ≡ cond (list_any (λ k. same_import (import_key pair) (import_key k)) (imports_among ds)) (imports_among ds) (imports_among ds ++ pair ∷ [])
import-push ds d pair e =
    ap (firsts_by same_import import_key) (filter_map-append (λ (x : Definition). pair_of x.meaning) ds (d ∷ [])
    ∙ ap (λ (o : Option Imp). filter_map (λ (x : Definition). pair_of x.meaning) ds ++ cons_option o []) e)
    ∙ firsts-push import_tests (filter_map (λ (x : Definition). pair_of x.meaning) ds) pair
