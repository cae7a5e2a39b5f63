-- One more token of a file.
use Rattle.std.proofs.Common.{◌≡◌, List, [], Ok, Err, Bool, true, false, cond, refl, ap, ◌∙◌}
use Rattle.def_model.specs.Lexemes.{is_ending}
use Rattle.def_model.specs.Tokens.{Placed, before}
use Rattle.def_model.specs.declared.refusal.DefKind.{DefKind}
use Rattle.def_model.specs.declared.draft.Reading.{Reading}
use Rattle.lx_types.specs.Answers.{◌>>=◌}
use Rattle.def_model.specs.Meaning.{file_of}
use Rattle.def_model.specs.Reading.{step, at_line, run}

after : (test : Bool) (others : List Placed) → test ≡ false → cond test [] others ≡ others
after true others h = cc
after false others h = refl

nothing-after : (test : Bool) (others : List Placed) → test ≡ true → cond test [] others ≡ []
nothing-after true others h = refl
nothing-after false others h = cc

-- A token that is taken.
pub run-next : (r next : Reading) (t : Placed) (ts others : List Placed) → ts ≡ before t others → is_ending t.lexeme ≡ false
    → step r t.lexeme ≡ Ok next → run r ts ≡ run next others
run-next r next t ts others is_before not_end taken =
    ap (λ xs. run r xs) is_before
    ∙ ap (λ s. at_line t.line s >>= (λ n. run n (cond (is_ending t.lexeme) [] others))) taken
    ∙ ap (λ xs. run next xs) (after (is_ending t.lexeme) others not_end)

-- The end that is taken.
pub run-end : (r next : Reading) (t : Placed) (ts others : List Placed) → ts ≡ before t others → is_ending t.lexeme ≡ true
    → step r t.lexeme ≡ Ok next → run r ts ≡ Ok (file_of next.draft)
run-end r next t ts others is_before is_end taken =
    ap (λ xs. run r xs) is_before
    ∙ ap (λ s. at_line t.line s >>= (λ n. run n (cond (is_ending t.lexeme) [] others))) taken
    ∙ ap (λ xs. run next xs) (nothing-after (is_ending t.lexeme) others is_end)

-- A token that is refused.
pub run-fault : (r : Reading) (t : Placed) (ts others : List Placed) (kind : DefKind) → ts ≡ before t others
    → step r t.lexeme ≡ Err kind → run r ts ≡ Err (record { line = t.line; kind = kind })
run-fault r t ts others kind is_before refused =
    ap (λ xs. run r xs) is_before
    ∙ ap (λ s. at_line t.line s >>= (λ n. run n (cond (is_ending t.lexeme) [] others))) refused
