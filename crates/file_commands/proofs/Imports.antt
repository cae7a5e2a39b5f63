-- The imports of several files together, and the length of their library.
use Rattle.std.proofs.Common.{◌≡◌, ℕ, zero, suc, Err, ◌+◌, ◌<◌, ◌≤◌, List, [], ◌∷◌, ◌++◌, length, map, ◌∙◌, ap, sym, subst, refl, arith}
use Rattle.std.proofs.lemmas.List.{map-append, length-append}
use Rattle.std.proofs.lemmas.Grind.{flat_map-append}
use Rattle.std.proofs.lemmas.List.Folds.{flat_map-map}
use Rattle.std.specs.Prelude.{slice_index_or}
use Rattle.std.specs.List.{flat_map}
use Rattle.lx_types.specs.Answers.{Answers}
use Rattle.lx_types.specs.declared.fail.Fail.{Fail}
use Rattle.lx_types.specs.declared.fail.Fail.TheVariants as fail
use Rattle.obj_types.specs.declared.symbol.Imp.{Imp}
use Rattle.implib_model.specs.Library.{library_bytes, library_len, page_up, pages_of}
use Rattle.omf_write.specs.Joined.{modules_together}
use Rattle.omf_write.specs.declared.libraries.LibraryLong.{LibraryLong}
use Rattle.implib_model.specs.Imports.{modules_of}
use Rattle.answer_model.specs.ImplibAnswer.{all_imports, imports_of}
use Rattle.answer_model.specs.Loading.{file_limit}
use Rattle.tool_read.specs.Readings.{exporter_item}
use Rattle.tool_read.specs.declared.exporters.Exporter.{Exporter}
use Rattle.implib_core.specs.declared.imports.ImportLibrary.{ImportLibrary}
use Rattle.file_commands.specs.ImportLibraries.{IsLibraryOf, IsTooLong}

-- ---- modules of imports, file by file

pub together : {X : Type 0} (f : X → List Imp) (xs : List X) → modules_together (map (λ x. modules_of (f x)) xs) ≡ modules_of (flat_map f xs)
together f [] = refl
together f (x ∷ xs) =
    ap (λ (t : List (List ℕ)). modules_of (f x) ++ t) (together f xs)
    ∙ sym (map-append _ (f x) (flat_map f xs))

-- ---- lengths

pages_joined : (a b : List Imp) → length (pages_of (modules_of (a ++ b))) ≡ length (pages_of (modules_of a)) + length (pages_of (modules_of b))
pages_joined a b =
    ap (λ (t : List (List ℕ)). length (pages_of t)) (map-append _ a b)
    ∙ ap (λ (t : List ℕ). length t) (flat_map-append page_up (modules_of a) (modules_of b))
    ∙ length-append (pages_of (modules_of a)) (pages_of (modules_of b))

-- The library of all is as long as that of one at least.
one_fits : {X : Type 0} (f : X → List Imp) (xs : List X) (i : ℕ) (x : X) → i < length xs → slice_index_or xs i x ≡ x → library_len (modules_of (f x)) ≤ library_len (modules_of (flat_map f xs))
one_fits f [] i x within at = absurd (omega (arith, within))
one_fits f (z ∷ xs) zero x within at =
    let sum = pages_joined (f z) (flat_map f xs) in
    let P : _ → Type 0 = λ y. library_len (modules_of (f y)) ≤ library_len (modules_of (f z ++ flat_map f xs)) in
    subst P at (omega (arith, sum))
one_fits f (z ∷ xs) (suc i) x within at =
    let rest = one_fits f xs i x (omega (arith, within)) at in
    let sum = pages_joined (f z) (flat_map f xs) in
    omega (arith, rest, sum)

-- ---- the imports of files

abbrev pub own_imports : List ℕ → Exporter → List Imp
own_imports stem x = imports_of stem (exporter_item x)

all_are : (stem : List ℕ) (xs : List Exporter) → all_imports stem (map exporter_item xs) ≡ flat_map (own_imports stem) xs
all_are stem xs = flat_map-map (imports_of stem) exporter_item xs

-- What is too long for one is for all.
pub all_too_long : (stem : List ℕ) (xs : List Exporter) (i : ℕ) (x : Exporter) → i < length xs → x ≡ slice_index_or xs i x → IsTooLong (own_imports stem x) → IsTooLong (all_imports stem (map exporter_item xs))
all_too_long stem xs i x within at long =
    let P : List Imp → Type 0 = λ is. IsTooLong is in
    let fits = one_fits (own_imports stem) xs i x within (sym at) in
    subst P (sym (all_are stem xs)) (omega (arith, fits, long))

-- The modules of each file.
abbrev pub each_of : List ℕ → List Exporter → List (List (List ℕ))
each_of stem xs = map (λ x. modules_of (own_imports stem x)) xs

each_together : (stem : List ℕ) (xs : List Exporter) → modules_together (each_of stem xs) ≡ modules_of (all_imports stem (map exporter_item xs))
each_together stem xs = together (own_imports stem) xs ∙ ap modules_of (sym (all_are stem xs))

pub joined_too_long : (stem : List ℕ) (xs : List Exporter) → file_limit < library_len (modules_together (each_of stem xs)) → IsTooLong (all_imports stem (map exporter_item xs))
joined_too_long stem xs long =
    let P : List (List ℕ) → Type 0 = λ ms. file_limit < library_len ms in
    subst P (each_together stem xs) long

pub joined_are : (stem : List ℕ) (xs : List Exporter) (library : ImportLibrary) → library.bytes.items ≡ library_bytes (modules_together (each_of stem xs)) → library_len (modules_together (each_of stem xs)) ≤ file_limit
    → library.imports ≡ length (flat_map (own_imports stem) xs) → IsLibraryOf library (all_imports stem (map exporter_item xs))
joined_are stem xs library bytes short count =
    let P : List (List ℕ) → Type 0 = λ ms. library_len ms ≤ file_limit in
    record {
      written = record {
        bytes_are = bytes ∙ ap (λ ms. library_bytes ms) (each_together stem xs);
        short = subst P (each_together stem xs) short;
      };
      count = count ∙ ap (λ is. length is) (sym (all_are stem xs));
    }

-- ---- answers

-- What holds of a refusal is passed on.
pub passed_on : {A B : Type 0} (why : Fail LibraryLong) (P : A → Type 0) (R : B → Type 0) (Q S : Type 0) → (Q → S) → Answers {A = A} (Err why) P (λ _. Q) → Answers {A = B} (Err why) R (λ _. S)
passed_on (fail.Said refusal) P R Q S gives said = gives said
passed_on fail.NoMemory P R Q S gives said = tt

-- A refusal has what the answer says of refusals.
pub refusal_has : {A : Type 0} (why : Fail LibraryLong) (P : A → Type 0) (Q : Type 0) → Answers {A = A} (Err why) P (λ _. Q) → (refusal : LibraryLong) → why ≡ fail.Said refusal → Q
refusal_has (fail.Said own) P Q is refusal same = is
refusal_has fail.NoMemory P Q is refusal same = absurd cc
