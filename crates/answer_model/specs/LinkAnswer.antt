-- What `link OUT DEF IN ..` comes to: the file of the linked module, and a line of counts, or the link's refusal.
use Rattle.std.specs.Prelude.{◌≡◌, ℕ, List, [], ◌∷◌, ◌++◌, codes, length, None, sum_by}
use Rattle.std.specs.Option.{option_map}
use Rattle.std.specs.Fmt.{decimal}
use Rattle.std.specs.List.{flat_map}
use Rattle.lx_types.specs.Names.{uppercase}
use Rattle.obj_types.specs.declared.object.ObjModule.{ObjModule}
use Rattle.obj_types.specs.declared.definition.DefFile.{DefFile}
use Rattle.obj_types.specs.declared.definition.ModKind.TheVariants.{Program}
use Rattle.obj_types.specs.declared.input.LinkInput.{LinkInput}
use Rattle.obj_types.specs.Defaults.{default_def}
use Rattle.link_model.specs.declared.refusals.LinkRefusal.{LinkRefusal}
use Rattle.link_model.specs.declared.refusals.LinkRefusal.TheVariants.{Sym, Comdat, Lay, Fixing, Entry}
use Rattle.link_model.specs.Link.{Link, IsLinkOf}
use Rattle.link_model.specs.Layout.{objects}
use Rattle.link_model.specs.Refusal.{link_refusal}
use Rattle.image_model.specs.File.{file_of}
use Rattle.image_model.specs.Linked.{image_of, called, page_forms, page_fixes}
use Rattle.lx_types.specs.Escaped.{escaped}
use Rattle.answer_model.specs.LinkRefusals.{sym_text, comdat_text, lay_text, fix_text, entry_text}
use Rattle.answer_model.specs.Outcome.{Outcome, kept, refused_or}
use Rattle.answer_model.specs.Items.{Item, object, library, definition}
use Rattle.answer_model.specs.Stem.{stem_of}

-- ---- the input: what the files mean, in their order

abbrev pub objects_in : Item → List ObjModule
objects_in (object m) = m ∷ []
objects_in _ = []

abbrev pub libraries_in : Item → List ObjModule
libraries_in (library ms) = ms
libraries_in _ = []

-- Without a definition file the module is a program of which nothing else is said.
abbrev pub definition_in : List Item → DefFile
definition_in [] = default_def Program None
definition_in (definition d ∷ items) = d
definition_in (_ ∷ items) = definition_in items

-- The stem is the module's name where the definition file gives none.
abbrev pub input_with : List ℕ → List Item → LinkInput
input_with stem items = record {
  objects = flat_map objects_in items;
  libs = flat_map libraries_in items;
  def = definition_in items;
  stem = stem;
}

abbrev pub input_of : List ℕ → List Item → LinkInput
input_of out items = input_with (stem_of out) items

-- ---- the outcome

abbrev pub link_text : LinkRefusal → List ℕ
link_text (Sym refusal) = sym_text refusal
link_text (Comdat refusal) = comdat_text refusal
link_text (Lay refusal) = lay_text refusal
link_text (Fixing refusal) = fix_text refusal
link_text (Entry refusal) = entry_text refusal

-- `NAME objects O pages P sources S`: the fixups of all pages count, and one whose field stands on two pages counts on
-- each.
abbrev pub counts_line : List ℕ → ℕ → ℕ → ℕ → List ℕ
counts_line name objects pages sources =
    escaped name ++ (codes " objects " ++ (decimal objects ++ (codes " pages " ++ (decimal pages ++ (codes " sources " ++ (decimal sources ++ 10 ∷ []))))))

abbrev pub counts_of : Link → List ℕ
counts_of l = counts_line (uppercase (called l)) (length (objects l)) (length (page_forms l)) (sum_by length (page_fixes l))

abbrev pub link_outcome : List ℕ → Link → Outcome
link_outcome out l = refused_or out (option_map link_text (link_refusal l)) (kept out (file_of (image_of l)) (counts_of l))

pub record LinkAnswer (out : List ℕ) (items : List Item) (outcome : Outcome) : Type 0 where
  pub link : Link
  pub of_input : IsLinkOf (input_of out items) link
  pub comes_to : outcome ≡ link_outcome out link
