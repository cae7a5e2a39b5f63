-- The definition file of a module, which is one line, says what is linked.
use Rattle.std.proofs.Common.{◌≡◌, ◌≢◌, ℕ, ◌+◌, ◌^◌, ◌<◌, ◌≤◌, ◌%◌, true, List, [], ◌∷◌, ◌++◌, codes, decimal, length, Some, None, Ok, refl, ap, ◌∙◌, arith}
use Rattle.std.specs.List.{list_all}
use Rattle.std.proofs.lemmas.Bool.Decides.{nat_tests}
use Rattle.std.proofs.lemmas.Fmt.{decimal_by_steps, length-decimal-le}
use Rattle.std.proofs.lemmas.Bool.{and_from}
use Rattle.obj_types.specs.Defaults.{default_def}
use Rattle.obj_types.specs.declared.definition.ModKind.TheVariants.{Library}
use Rattle.def_model.specs.declared.keyword.Keyword.TheVariants as kw
use Rattle.def_model.specs.Lexemes.{Lexeme, keyword, word, ending}
use Rattle.def_model.specs.Tokens.{is_word_byte, tokens_after, tokens_of, word_lexeme}
use Rattle.def_tokens.proofs.LexemeLaws.{first-true, lexemes, lexemes-line_end, lexemes-run, lexemes-space, second-true}
use Rattle.def_model.specs.Draft.{fresh}
use Rattle.def_file.proofs.Compute.{computed}
use Rattle.def_file.proofs.SaysLaws.{says, run-says, name-is, goes-on}
use Rattle.gen_model.specs.Modules.{definition_text, gen_definition, module_name}
use Rattle.gen_laws.specs.Laws.{DefinitionsMean}

-- ---- tokens

abbrev AreWordBytes : List ℕ → Type 0
AreWordBytes bytes = list_all (λ b. is_word_byte b) bytes ≡ true

digit : (n : ℕ) → n < 10 → AreWordBytes ((48 + n) ∷ [])
digit n small = grind (arith, nat_tests)

after : (ds : List ℕ) (d : ℕ) → AreWordBytes ds → AreWordBytes (d ∷ []) → AreWordBytes (ds ++ d ∷ [])
after [] d h last = last
after (c ∷ ds) d h last = and_from _ _ (first-true _ _ h) (after ds d (second-true _ _ h) last)

digits : (n : ℕ) → n < 2 ^ 64 → AreWordBytes (decimal n)
digits = decimal_by_steps (λ n ds. AreWordBytes ds) digit (λ n ds large h. after ds (48 + n % 10) h (digit (n % 10) (omega arith)))

-- No keyword begins with G.
its_name : (ds : List ℕ) → word_lexeme (71 ∷ ds) ≡ word (71 ∷ ds)
its_name ds = refl

nothing_more : lexemes [] ≡ ending ∷ []
unfolding tokens_after
nothing_more = refl

abbrev line_of : List ℕ → List Lexeme
line_of name = keyword kw.Library ∷ word name ∷ ending ∷ []

its_tokens : (k : ℕ) → k < 2 ^ 64 → lexemes (definition_text k) ≡ line_of (module_name k)
its_tokens k small =
    let name = module_name k in
    let of_name = lexemes-run name 10 [] (digits k small) (omega arith) refl ∙ ap (λ t. t ∷ lexemes (10 ∷ [])) (its_name (decimal k)) in
    lexemes-run (codes "LIBRARY") 32 (name ++ 10 ∷ []) refl (omega arith) refl
    ∙ ap (λ ts. keyword kw.Library ∷ ts) (lexemes-space (name ++ 10 ∷ []) ∙ of_name ∙ ap (λ ts. word name ∷ ts) (lexemes-line_end [] ∙ nothing_more))

-- ---- what they say

library_said : (name : List ℕ) → name ≢ [] → length name ≤ 255
    → says fresh (line_of name) ≡ Ok (record (default_def Library None) { name = Some name })
unfolding computed
library_said name some short = goes-on _ name _ _ (name-is name some short)

pub definitions_said : DefinitionsMean
definitions_said k one =
    let small : k < 2 ^ 64 = omega arith in
    let short : length (module_name k) ≤ 255 = omega (arith, length-decimal-le 2 k (omega arith) (omega arith) small) in
    run-says fresh (tokens_of (definition_text k)) (gen_definition k)
    (ap (λ ts. says fresh ts) (its_tokens k small) ∙ library_said (module_name k) (λ e. cc) short)
