use Rattle.std.proofs.Common.{◌≡◌, ◌++◌, map, drop}
use Rattle.def_tokens.specs.Seen.{lexeme_of}
use Rattle.def_write.specs.Spelling.{text_after}
use Rattle.def_write.proofs.spelling.put_after.Given as goal

-- With the tokens that are left, what is written so far is the whole.
abbrev pub invariant-loop-token : goal.invariant-loop-token
invariant-loop-token l =
    l.out.items ++ text_after (lexeme_of l.before) (map lexeme_of (drop l.token-index l.tokens))
    ≡ l.fn.out.items ++ text_after (lexeme_of l.first) (map lexeme_of l.tokens)
