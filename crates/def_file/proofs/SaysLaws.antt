-- Reading tokens without their lines.
use Rattle.std.proofs.Common.{◌≡◌, ◌≢◌, ℕ, ◌≤◌, List, [], ◌∷◌, length, Result, Ok, Err, refl, arith, ap, ◌∙◌, false, Some, nat_lt, ◌&&◌, nat_le}
use Rattle.std.specs.Prelude.{◌==◌}
use Rattle.std.proofs.lemmas.Bool.{ne_eqb}
use Rattle.std.proofs.lemmas.Bool.Decides.{nat_tests}
use Rattle.obj_types.specs.declared.definition.DefFile.{DefFile}
use Rattle.def_model.specs.Lexemes.{Lexeme}
use Rattle.def_model.specs.Tokens.{Placed}
use Rattle.def_tokens.proofs.TokenLaws.{if-first, if-second}
use Rattle.def_tokens.proofs.LexemeLaws.{bare}
use Rattle.def_model.specs.declared.refusal.DefKind.{DefKind}
use Rattle.def_model.specs.declared.draft.Reading.{Reading}
use Rattle.lx_types.specs.Answers.{◌>>=◌}
use Rattle.def_model.specs.Meaning.{file_of}
use Rattle.def_model.specs.TokenMeaning.{name_of, text_of, within}
use Rattle.def_model.specs.Reading.{step, at_line, run}

-- What tokens say after those so far.
abbrev pub says : Reading → List Lexeme → Result DefFile DefKind
says r [] = Ok (file_of r.draft)
says r (t ∷ ts) = step r t >>= (λ next. says next ts)

after-step : (answer : Result Reading DefKind) (line : ℕ) (ts : List Placed) (d : DefFile)
    → ((next : Reading) → says next (bare ts) ≡ Ok d → run next ts ≡ Ok d)
    → (answer >>= (λ next. says next (bare ts))) ≡ Ok d → (at_line line answer >>= (λ next. run next ts)) ≡ Ok d
after-step (Ok next) line ts d each h = each next h
after-step (Err kind) line ts d each h = cc

pub run-says : (r : Reading) (ts : List Placed) (d : DefFile) → says r (bare ts) ≡ Ok d → run r ts ≡ Ok d
run-says r [] d h = ap Ok (let same : file_of r.draft ≡ d = cc in same)
run-says r (t ∷ ts) d h = after-step (step r t.lexeme) t.line ts d (λ next k. run-says next ts d k) h

-- ---- what stands for a name, a text, a number

pub text-is : (bytes : List ℕ) → length bytes ≤ 255 → text_of bytes ≡ Ok bytes
text-is bytes short = if-second (nat_lt 255 (length bytes)) _ _ (grind (arith, nat_tests))

not-none : (bytes : List ℕ) → bytes ≢ [] → (length bytes == 0) ≡ false
not-none [] some = absurd (some refl)
not-none (b ∷ bytes) some = ne_eqb (length (b ∷ bytes)) 0 (λ e. omega arith)

pub name-is : (bytes : List ℕ) → bytes ≢ [] → length bytes ≤ 255 → name_of bytes ≡ Ok bytes
name-is bytes some short = if-second (length bytes == 0) _ _ (not-none bytes some) ∙ text-is bytes short

pub within-is : (low high n : ℕ) → low ≤ n → n ≤ high → within low high (Some n) ≡ Ok n
within-is low high n above below = if-first (nat_le low n && nat_le n high) _ _ (grind (arith, nat_tests))

-- A step that goes on so.
pub goes-on : {A B C E : Type 0} (answer : Result A E) (value : A) (go : A → Result B E) (then : B → Result C E)
    → answer ≡ Ok value → ((answer >>= go) >>= then) ≡ (go value >>= then)
goes-on answer value go then h = ap (λ a. (a >>= go) >>= then) h
