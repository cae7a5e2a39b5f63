use Rattle.std.proofs.Common.{arith, ◌∙◌, ap, length}
use Rattle.std.proofs.lemmas.List.{take_rest, length-drop}
use Rattle.def_tokens.proofs.TokenLaws.{tokens-passed}
use Rattle.def_tokens.proofs.lexer.Lexer.pass_blanks.Goals as goal

pub loop-self-preserved : goal.loop-self-preserved
loop-self-preserved c =
    let left = c.loop-self.self-inside.left.now in
    let len = c.blank_len-len.result in (
      tokens-passed c.loop-self.self-inside.line c.line_after-self-inside.result len left c.blank_len-len.ensures.value (omega arith) c.line_after-self-inside.ensures
          ∙ c.loop-self.invariant.0,
      omega (arith, ap length (take_rest left len), length-drop len left, c.loop-self.invariant.1),
    )
