-- The text of entries is that of the first of them and that of those after them.
use Rattle.std.proofs.Common.{◌≡◌, ℕ, suc, ◌+◌, List, [], ◌∷◌, ◌++◌, length, take, drop, Result, Ok, Err, sym, ap, ◌∙◌, arith}
use Rattle.std.specs.Prelude.{IfOk}
use Rattle.std.specs.List.{flat_map, enumerate_from}
use Rattle.std.proofs.lemmas.List.{take-append-drop}
use Rattle.std.proofs.lemmas.Grind.{flat_map-append}
use Rattle.load_model.specs.declared.deeds.Entry.{Entry}
use Rattle.load_model.specs.Modules.{Library}
use Rattle.session_model.specs.declared.sessions.ScriptLines.{ScriptLines}
use Rattle.session_model.specs.Merging.{numbers_of}
use Rattle.session_model.specs.Transcript.{entry_text, script_text}
use Rattle.session_text.specs.Parts.{entries_text}

enumerated : {X : Type 0} (n : ℕ) (xs ys : List X) → enumerate_from n (xs ++ ys) ≡ enumerate_from n xs ++ enumerate_from (n + length xs) ys
enumerated n [] ys = let same : n ≡ n + 0 = omega arith in ap (λ (k : ℕ). enumerate_from k ys) same
enumerated n (x ∷ xs) ys =
    let next : n + 1 + length xs ≡ n + suc (length xs) = omega arith in
    ap (λ es. (n, x) ∷ es) (enumerated (n + 1) xs ys ∙ ap (λ (k : ℕ). enumerate_from (n + 1) xs ++ enumerate_from k ys) next)

pub entries-of-both : (lib : Library) (steady : List ScriptLines) (before : ℕ) (xs ys : List Entry)
    → entries_text lib steady before (xs ++ ys) ≡ entries_text lib steady before xs ++ entries_text lib steady (before + length xs) ys
entries-of-both lib steady before xs ys =
    let first : before + 1 + length xs ≡ before + length xs + 1 = omega arith in
    let text : ℕ × Entry → List ℕ = entry_text lib (numbers_of steady) in
    ap (flat_map text) (enumerated (before + 1) xs ys) ∙ flat_map-append text _ _
    ∙ ap (λ (k : ℕ). flat_map text (enumerate_from (before + 1) xs) ++ flat_map text (enumerate_from k ys)) first

pub entries-by-halves : (lib : Library) (steady : List ScriptLines) (before : ℕ) (es low high : List Entry) (k : ℕ) → low ≡ take k es → high ≡ drop k es
    → entries_text lib steady before low ++ entries_text lib steady (before + length low) high ≡ entries_text lib steady before es
entries-by-halves lib steady before es low high k front back =
    sym (entries-of-both lib steady before low high)
    ∙ ap (entries_text lib steady before) ((λ i. front i ++ back i) ∙ take-append-drop k es)

pub scripts-by-halves : (scripts low high : List ScriptLines) (k : ℕ) → low ≡ take k scripts → high ≡ drop k scripts
    → flat_map script_text low ++ flat_map script_text high ≡ flat_map script_text scripts
scripts-by-halves scripts low high k front back =
    sym (flat_map-append script_text low high) ∙ ap (flat_map script_text) ((λ i. front i ++ back i) ∙ take-append-drop k scripts)

-- what is told of a text's bytes
pub told-by : {V E : Type 0} (items : V → List ℕ) (r : Result V E) (a b : List ℕ) → a ≡ b → IfOk r (λ v. items v ≡ a) → IfOk r (λ v. items v ≡ b)
told-by items (Ok v) a b same is = is ∙ same
told-by items (Err e) a b same is = tt
