-- The files of one module more, and all of them, before any is saved.
use Rattle.std.specs.Prelude.{◌≡◌, ℕ, suc, ◌+◌, List, [], ◌∷◌, ◌++◌, length, map, refl}
use Rattle.std.specs.List.{AllByRecursion, enumerate_from, flat_map}
use Rattle.std.proofs.Common.{ap, sym, ◌∙◌, arith, subst, append_assoc, length-append}
use Rattle.std.proofs.lemmas.List.{flat_map_more, map-append}
use Rattle.std.proofs.lemmas.List.Elements.{All-from_recursion}
use Rattle.omf_model.specs.Object.{Obj}
use Rattle.session_model.specs.Spelling.{session_bytes}
use Rattle.gen_model.specs.declared.totals.Totals.{Totals}
use Rattle.gen_model.specs.Modules.{gen_object, definition_text}
use Rattle.gen_model.specs.Sessions.{gen_session, object_name, definition_name, session_name}
use Rattle.gen_model.specs.Sums.{AreTotals, totals_line}
use Rattle.lx_ports.specs.Files.{FilesState}
use Rattle.answer_model.specs.declared.said.Said.{Said}
use Rattle.answer_model.specs.GenAnswer.{AreObjectFiles, GenWords, module_files}
use Rattle.answer_model.specs.Outcome.{Saved}
use Rattle.gen_core.specs.declared.outputs.Output.{Output}
use Rattle.gen_core.specs.Doing.{Generates, Saves}
use Rattle.gen_core.specs.Generated.{AreOutputs, HasLine, IsOutput, saved_of}

-- ---- on the way: the files of the first modules

pub record HasMade (prefix : List ℕ) (count : ℕ) (outputs : List Output) : Type 0 where
  pub objects : List (List ℕ)
  pub each : length objects ≡ count
  pub mean : AreObjectFiles 1 objects
  pub files_are : map saved_of outputs ≡ flat_map (module_files prefix) (enumerate_from 1 objects)
  pub lines : AllByRecursion HasLine outputs

pub nothing_made : (prefix : List ℕ) → HasMade prefix 0 []
nothing_made prefix = record { objects = []; each = refl; mean = tt; files_are = refl; lines = tt }

objects_more : (k : ℕ) (objects : List (List ℕ)) (bytes : List ℕ) → AreObjectFiles k objects → Obj bytes (gen_object (k + length objects)) → AreObjectFiles k (objects ++ bytes ∷ [])
objects_more k [] bytes mean one =
    let number : k + 0 ≡ k = omega arith in (subst (λ (n : ℕ). Obj bytes (gen_object n)) number one, tt)
objects_more k (other ∷ objects) bytes mean one =
    let number : k + suc (length objects) ≡ suc k + length objects = omega arith in
    (mean.0, objects_more (suc k) objects bytes mean.1 (subst (λ (n : ℕ). Obj bytes (gen_object n)) number one))

numbered_more : (k : ℕ) (objects : List (List ℕ)) (bytes : List ℕ) → enumerate_from k (objects ++ bytes ∷ []) ≡ enumerate_from k objects ++ (k + length objects, bytes) ∷ []
numbered_more k [] bytes = ap (λ (n : ℕ). (n, bytes) ∷ []) (at k)
  where
    at : (k : ℕ) → k ≡ k + 0
    at k = omega arith
numbered_more k (other ∷ objects) bytes =
    ap (λ (qs : List (ℕ × List ℕ)). (k, other) ∷ qs) (numbered_more (k + 1) objects bytes ∙ ap (λ (n : ℕ). enumerate_from (k + 1) objects ++ (n, bytes) ∷ []) (after k (length objects)))
  where
    after : (k n : ℕ) → k + 1 + n ≡ k + suc n
    after k n = omega arith

lines_more : (outputs : List Output) (output : Output) → AllByRecursion HasLine outputs → HasLine output → AllByRecursion HasLine (outputs ++ output ∷ [])
lines_more [] output each one = (one, tt)
lines_more (other ∷ outputs) output each one = (each.0, lines_more outputs output each.1 one)

-- The two files of a module stand after the others.
files_more : (prefix : List ℕ) (outputs : List Output) (files : List (ℕ × List ℕ)) (object definition : Output) (n : ℕ) (bytes : List ℕ) → map saved_of outputs ≡ flat_map (module_files prefix) files → saved_of object ≡ record { name = object_name prefix n; bytes = bytes }
    → saved_of definition ≡ record { name = definition_name prefix n; bytes = definition_text n } → map saved_of ((outputs ++ object ∷ []) ++ definition ∷ []) ≡ flat_map (module_files prefix) (files ++ (n, bytes) ∷ [])
files_more prefix outputs files object definition n bytes before one other =
    ap (map saved_of) (append_assoc outputs (object ∷ []) (definition ∷ []))
    ∙ map-append saved_of outputs (object ∷ definition ∷ [])
    ∙ ap (λ (saved : List Saved). saved ++ saved_of object ∷ saved_of definition ∷ []) before
    ∙ ap (λ (s : Saved). flat_map (module_files prefix) files ++ s ∷ saved_of definition ∷ []) one
    ∙ ap (λ (s : Saved). flat_map (module_files prefix) files ++ record { name = object_name prefix n; bytes = bytes } ∷ s ∷ []) other
    ∙ flat_map_more (module_files prefix) [] files (n, bytes)

pub made_more : (prefix : List ℕ) (count : ℕ) (outputs : List Output) (object definition : Output) (bytes : List ℕ) → HasMade prefix count outputs → IsOutput (object_name prefix (count + 1)) bytes object → Obj bytes (gen_object (count + 1))
    → IsOutput (definition_name prefix (count + 1)) (definition_text (count + 1)) definition → HasMade prefix (count + 1) ((outputs ++ object ∷ []) ++ definition ∷ [])
made_more prefix count outputs object definition bytes made one means other =
    let objects = made.objects in
    let number : 1 + length objects ≡ count + 1 = (let each = made.each in omega (arith, each)) in
    record {
      objects = objects ++ bytes ∷ [];
      each = length-append objects (bytes ∷ []) ∙ ap (λ (n : ℕ). n + 1) made.each;
      mean = objects_more 1 objects bytes made.mean (subst (λ (n : ℕ). Obj bytes (gen_object n)) (sym number) means);
      files_are = files_more prefix outputs (enumerate_from 1 objects) object definition (count + 1) bytes made.files_are one.0 other.0
          ∙ ap (λ (n : ℕ). flat_map (module_files prefix) (enumerate_from 1 objects ++ (n, bytes) ∷ [])) (sym number)
          ∙ ap (flat_map (module_files prefix)) (sym (numbered_more 1 objects bytes));
      lines = lines_more (outputs ++ object ∷ []) definition (lines_more outputs object made.lines one.1) other.1;
    }

-- ---- all of them

pub all_made : (words : GenWords) (outputs : List Output) (session : Output) → HasMade words.prefix words.count outputs → IsOutput (session_name words.prefix) (session_bytes (gen_session words.count words.prefix)) session → AreOutputs words (outputs ++ session ∷ [])
all_made words outputs session made one = record {
  objects = made.objects;
  each = made.each;
  mean = made.mean;
  files_are = map-append saved_of outputs (session ∷ []) ∙ ap (λ (saved : List Saved). saved ++ saved_of session ∷ []) made.files_are
      ∙ ap (λ (s : Saved). flat_map (module_files words.prefix) (enumerate_from 1 made.objects) ++ s ∷ []) one.0;
  lines = All-from_recursion HasLine (outputs ++ session ∷ []) (lines_more outputs session made.lines one.1);
}

-- ---- and they are saved

pub generated : (words : GenWords) (outputs : List Output) (totals : Totals) (line : List ℕ) (before now : FilesState) (said : Said) → AreOutputs words outputs → AreTotals words.count totals → line ≡ totals_line totals → Saves (map saved_of outputs) line before now said → Generates words before now said
generated words outputs totals line before now said made are told saved = record {
  saves = saved.saves;
  says = record {
    files = map saved_of outputs;
    text = line;
    answer = record { objects = made.objects; each = made.each; mean = made.mean; files_are = made.files_are; totals = totals; are = are; told = told };
    saves = saved.says;
  };
  had = saved.had;
  held = saved.held;
}
