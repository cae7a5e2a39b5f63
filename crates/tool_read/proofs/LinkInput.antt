-- The input of a link, from what was read.
use Rattle.std.proofs.Common.{◌≡◌, ℕ, Bool, true, false, List, [], ◌∷◌, ◌++◌, None, Ok, Err, ◌∙◌, ap, sym, subst, refl}
use Rattle.std.specs.Prelude.{if◌then◌else◌}
use Rattle.std.specs.List.{flat_map}
use Rattle.std.proofs.lemmas.List.{flat_map_more}
use Rattle.obj_types.specs.Defaults.{default_def}
use Rattle.obj_types.specs.declared.definition.DefFile.{DefFile}
use Rattle.obj_types.specs.declared.definition.ModKind.TheVariants.{Program}
use Rattle.obj_types.specs.declared.input.LinkInput.{LinkInput}
use Rattle.lx_ports.specs.Calls.{Call, load, save}
use Rattle.answer_model.specs.LinkAnswer.{definition_in, input_with, libraries_in, objects_in}
use Rattle.answer_model.specs.Loading.{AreRead, IsRead}
use Rattle.answer_model.specs.Reading.{IsItem}
use Rattle.answer_model.specs.Items.{Item, definition, is_library, library, library_form, linked, object, object_form, object_or_library, raw, resources, session}
use Rattle.answer_model.specs.AskedFiles.{asked_inputs}
use Rattle.tool_read.specs.declared.modules.Modules.{Modules}
use Rattle.tool_read.specs.Readings.{asked}
use Rattle.tool_read.specs.Steps.{AreModulesOf, Gains, GivesDefinition, IsInputWith}

-- Object files and libraries are no definition files.
no_definition : (b : Bool) (bytes : List ℕ) (d : DefFile) → IsItem (if b then library_form else object_form) bytes (definition d) → ⊥
no_definition true bytes d is = absurd is
no_definition false bytes d is = absurd is

item_is_none : (name : List ℕ) (call : Call) (d : DefFile) → IsRead (asked object_or_library name) call (definition d) → ⊥
item_is_none name (load own (Ok bytes)) d is = no_definition (is_library bytes) bytes d is.1.1
item_is_none name (load own (Err why)) d is = absurd is.1
item_is_none name (save own bytes answer) d is = absurd is

none_defines : (names : List (List ℕ)) (calls : List Call) (items : List Item) → AreRead (asked_inputs names) calls items → definition_in items ≡ default_def Program None
none_defines [] [] [] are = refl
none_defines [] [] (i ∷ items) are = absurd are
none_defines [] (c ∷ calls) items are = absurd are
none_defines (n ∷ names) [] items are = absurd are
none_defines (n ∷ names) (c ∷ calls) [] are = absurd are
none_defines (n ∷ names) (c ∷ calls) (object m ∷ items) are = none_defines names calls items are.1
none_defines (n ∷ names) (c ∷ calls) (library ms ∷ items) are = none_defines names calls items are.1
none_defines (n ∷ names) (c ∷ calls) (definition d ∷ items) are = absurd (item_is_none n c d are.0)
none_defines (n ∷ names) (c ∷ calls) (linked m ∷ items) are = none_defines names calls items are.1
none_defines (n ∷ names) (c ∷ calls) (session s ∷ items) are = none_defines names calls items are.1
none_defines (n ∷ names) (c ∷ calls) (resources xs ∷ items) are = none_defines names calls items are.1
none_defines (n ∷ names) (c ∷ calls) (raw own ∷ items) are = none_defines names calls items are.1

same_input : (own : List ℕ) (items : List Item) (input : LinkInput) → input.objects ≡ flat_map objects_in items → input.libs ≡ flat_map libraries_in items → input.def ≡ definition_in items → input.stem ≡ own
    → input ≡ input_with own items
same_input own items input objects libs def stem = λ k. record { objects = objects k; libs = libs k; def = def k; stem = stem k }

pub input_is : (own : List ℕ) (def : DefFile) (modules : Modules) (input : LinkInput) (names : List (List ℕ)) (calls : List Call) (first items : List Item) → GivesDefinition def first → AreRead (asked_inputs names) calls items
    → AreModulesOf modules items → IsInputWith own def modules input → input ≡ input_with own (first ++ items)
input_is own def modules input names calls [] items given read are is =
    same_input own items input (is.objects ∙ are.objects) (is.libs ∙ are.libs) (is.def_is ∙ given ∙ sym (none_defines names calls items read)) is.stem_is
input_is own def modules input names calls (i ∷ []) items given read are is =
    let P : Item → Type 0 = λ j. input ≡ input_with own (j ∷ items) in
    subst P (sym given) (same_input own (definition def ∷ items) input (is.objects ∙ are.objects) (is.libs ∙ are.libs) is.def_is is.stem_is)
input_is own def modules input names calls (i ∷ j ∷ first) items given read are is = absurd given

-- The modules of one file more are those of one item more.
pub gains_more : (old new : Modules) (item : Item) (items : List Item) → Gains old item new → AreModulesOf old items → AreModulesOf new (items ++ item ∷ [])
gains_more old new item items gains are = record {
  objects = gains.objects ∙ ap (λ t. t ++ objects_in item) are.objects ∙ flat_map_more objects_in [] items item;
  libs = gains.libs ∙ ap (λ t. t ++ libraries_in item) are.libs ∙ flat_map_more libraries_in [] items item;
}
