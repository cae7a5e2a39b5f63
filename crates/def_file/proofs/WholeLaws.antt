-- Facts of each item of a list, with one more item and through a map, and that a file of whole statements is whole.
use Rattle.std.proofs.Common.{◌≢◌, ℕ, ◌≤◌, zero, suc, List, [], ◌∷◌, ◌++◌, map, Option, Some, None, unwrap_or, arith}
use Rattle.std.specs.Prelude.{IfSome}
use Rattle.std.specs.List.{All}
use Rattle.std.proofs.lemmas.List.Elements.{All-append, All-map}
use Rattle.obj_types.specs.declared.definition.Attrs.{Attrs}
use Rattle.obj_types.specs.declared.definition.SegAttrs.{SegAttrs}
use Rattle.def_model.specs.declared.draft.SegDraft.{SegDraft}
use Rattle.obj_types.specs.declared.limits.TheConstants.{MAX_DATA}
use Rattle.obj_types.specs.Definition.{WholeDef}
use Rattle.def_model.specs.declared.draft.Draft.{Draft}
use Rattle.def_model.specs.Draft.{no_words}
use Rattle.def_model.specs.Attributes.{attrs_with}
use Rattle.obj_types.specs.Defaults.{code_attrs, data_attrs}
use Rattle.def_model.specs.Meaning.{file_of, segment_of}
use Rattle.def_file.specs.Whole.{WholeDraft}

alone : {X : Type 0} (P : X → Type 0) (x : X) → P x → All P (x ∷ [])
alone P x here zero d h = here
alone P x here (suc k) d h = absurd (omega arith)

pub all_pushed : {X : Type 0} (P : X → Type 0) (xs : List X) (x : X) → All P xs → P x → All P (xs ++ x ∷ [])
all_pushed P xs x each here = All-append P xs (x ∷ []) each (alone P x here)

-- An item of SEGMENTS keeps its name.
named_segments : (code plain : Attrs) (segs : List SegDraft) → All (λ (s : SegDraft). s.name ≢ []) segs
    → All (λ (s : SegAttrs). s.name ≢ []) (map (segment_of code plain) segs)
named_segments code plain segs each = All-map (λ (s : SegAttrs). s.name ≢ []) (segment_of code plain) segs each

small_stack : (stack : Option ℕ) → IfSome stack (λ n. n ≤ MAX_DATA) → unwrap_or stack 0 ≤ MAX_DATA
small_stack None small = omega arith
small_stack (Some n) small = small

-- The file of whole statements.
pub whole_file : (d : Draft) → WholeDraft d → WholeDef (file_of d)
whole_file d whole =
    record {
      name = whole.name;
      stack = small_stack d.stack whole.stack;
      base = whole.base;
      segs = named_segments (attrs_with code_attrs (unwrap_or d.code no_words)) (attrs_with data_attrs (unwrap_or d.plain no_words)) d.segs whole.segs;
      exports = whole.exports;
      imports = whole.imports;
    }
