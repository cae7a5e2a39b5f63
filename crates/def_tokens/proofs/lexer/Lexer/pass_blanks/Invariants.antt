use Rattle.std.proofs.Common.{◌≡◌, ◌≤◌, length}
use Rattle.def_model.specs.Tokens.{tokens_from, tokens_after}
use Rattle.def_tokens.proofs.lexer.Lexer.pass_blanks.Given as goal

-- The tokens of what is left are those of the beginning.
abbrev pub invariant-loop-self : goal.invariant-loop-self
invariant-loop-self l =
    (tokens_after 0 l.self-inside.line l.self-inside.left.now ≡ tokens_from l.fn.self)
    × (length l.self-inside.left.now ≤ length l.fn.self.left)

abbrev pub decreases-loop-self : goal.decreases-loop-self
decreases-loop-self l = length l.self-inside.left.now
