-- The table is held against the definition at each byte, by computing.
use Rattle.std.proofs.Common.{refl, arith, not, ◌==◌, get_or}
use Rattle.std.proofs.lemmas.Bool.{agree_below_at}
use Rattle.def_model.specs.Tokens.{is_word_byte}
use Rattle.def_tokens.specs.declared.lexer.TheConstants.{WORD_BYTES}
use Rattle.def_tokens.proofs.lexer.is_word_byte.Goals as goal

pub returns : goal.returns
returns c = rw c.from.ensures (agree_below_at (λ b. not (get_or WORD_BYTES b 0 == 46)) (λ b. is_word_byte b) 256 c.args.byte refl (omega arith))
