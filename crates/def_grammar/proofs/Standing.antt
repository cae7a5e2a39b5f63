-- Which statements stand already, by what was said.
use Rattle.std.proofs.Common.{◌≡◌, ℕ, List, [], ◌∷◌, refl, ap, ◌∙◌, Bool, false}
use Rattle.std.specs.Prelude.{Option, Some, None, is_some}
use Rattle.std.specs.List.{list_any}
use Rattle.obj_types.specs.declared.definition.ModKind.TheVariants as modules
use Rattle.def_model.specs.declared.keyword.Keyword.{Keyword}
use Rattle.def_model.specs.declared.keyword.Keyword.TheVariants as kw
use Rattle.def_model.specs.declared.draft.Draft.{Draft}
use Rattle.def_model.specs.Statements.{is_second}
use Rattle.def_grammar.specs.Statements.{Statement, program, library, description, code, plain, stack_size, heap_size, base}
use Rattle.def_grammar.specs.Rules.{counts_as, stands}
use Rattle.def_grammar.specs.Sayings.{said, said_with}

none_counts : (ss : List Statement) → false ≡ list_any (counts_as None) ss
none_counts [] = refl
none_counts (s ∷ ss) = none_counts ss

kind_stands : (ss : List Statement) → is_some (said ss).kind ≡ list_any (counts_as (Some 1)) ss
kind_stands [] = refl
kind_stands (program name window ∷ ss) = refl
kind_stands (library name calls ∷ ss) = refl
kind_stands (s ∷ ss) = kind_stands ss

about_stands : (ss : List Statement) → is_some (said ss).about ≡ list_any (counts_as (Some 2)) ss
about_stands [] = refl
about_stands (description about ∷ ss) = refl
about_stands (s ∷ ss) = about_stands ss

code_stands : (ss : List Statement) → is_some (said ss).code ≡ list_any (counts_as (Some 3)) ss
code_stands [] = refl
code_stands (code words ∷ ss) = refl
code_stands (s ∷ ss) = code_stands ss

plain_stands : (ss : List Statement) → is_some (said ss).plain ≡ list_any (counts_as (Some 4)) ss
plain_stands [] = refl
plain_stands (plain words ∷ ss) = refl
plain_stands (s ∷ ss) = plain_stands ss

stack_stands : (ss : List Statement) → is_some (said ss).stack ≡ list_any (counts_as (Some 5)) ss
stack_stands [] = refl
stack_stands (stack_size n ∷ ss) = refl
stack_stands (s ∷ ss) = stack_stands ss

heap_stands : (ss : List Statement) → is_some (said ss).heap ≡ list_any (counts_as (Some 6)) ss
heap_stands [] = refl
heap_stands (heap_size n ∷ ss) = refl
heap_stands (s ∷ ss) = heap_stands ss

base_stands : (ss : List Statement) → is_some (said ss).base ≡ list_any (counts_as (Some 7)) ss
base_stands [] = refl
base_stands (base n ∷ ss) = refl
base_stands (s ∷ ss) = base_stands ss

pub second_is : (ss : List Statement) (k : Keyword) → is_second (said ss) k ≡ stands k ss
second_is ss kw.Name = kind_stands ss
second_is ss kw.Library = kind_stands ss
second_is ss kw.Description = about_stands ss
second_is ss kw.Code = code_stands ss
second_is ss kw.Data = plain_stands ss
second_is ss kw.StackSize = stack_stands ss
second_is ss kw.HeapSize = heap_stands ss
second_is ss kw.Base = base_stands ss
second_is ss k = none_counts ss

-- ---- without NAME and LIBRARY

-- Nothing is said of a name and of calls.
pub record Unnamed (d : Draft) : Type 0 where
  pub kind : d.kind ≡ None
  pub name : d.name ≡ None
  pub init : d.init_each ≡ None
  pub term : d.term_each ≡ None

unnamed_by : (ss : List Statement) → list_any (counts_as (Some 1)) ss ≡ false → Unnamed (said ss)
unnamed_by [] h = record { kind = refl; name = refl; init = refl; term = refl }
unnamed_by (program name window ∷ ss) h = absurd cc
unnamed_by (library name calls ∷ ss) h = absurd cc
unnamed_by (s ∷ ss) h =
    let rest = unnamed_by ss h in
    record { kind = rest.kind; name = rest.name; init = rest.init; term = rest.term }

pub unnamed : (ss : List Statement) → stands kw.Name ss ≡ false → Unnamed (said ss)
unnamed ss h = unnamed_by ss h

-- What is said of NAME or LIBRARY alone, before a name or a word.
pub begun_program : (d : Draft) → Unnamed d → record d { kind = Some modules.Program } ≡ said_with d (program None false)
begun_program d h = ap (λ (n : Option (List ℕ)). record d { kind = Some modules.Program; name = n }) h.name

pub begun_library : (d : Draft) → Unnamed d → record d { kind = Some modules.Library } ≡ said_with d (library None [])
begun_library d h =
    ap (λ (n : Option (List ℕ)). record d { kind = Some modules.Library; name = n }) h.name
    ∙ (ap (λ (i : Option Bool). record d { kind = Some modules.Library; name = None; init_each = i }) h.init
    ∙ ap (λ (t : Option Bool). record d { kind = Some modules.Library; name = None; init_each = None; term_each = t }) h.term)

pub named_library : (d : Draft) (name : List ℕ) → Unnamed d
    → record d { kind = Some modules.Library; name = Some name } ≡ record d { kind = Some modules.Library; name = Some name; init_each = None; term_each = None }
named_library d name h =
    ap (λ (i : Option Bool). record d { kind = Some modules.Library; name = Some name; init_each = i }) h.init
    ∙ ap (λ (t : Option Bool). record d { kind = Some modules.Library; name = Some name; init_each = None; term_each = t }) h.term
