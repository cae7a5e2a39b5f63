use Rattle.std.proofs.Common.{◌≢◌, inl, inr, length, Some, sym, ◌∙◌, ap, arith}
use Rattle.std.proofs.lemmas.Bool.{eqb-true, eqb-false}
use Rattle.session_read.proofs.HexLaws.{hex-empty, hex-long, hex-decoded, hex-refused}
use Rattle.session_read.proofs.numbers.hex_in.Goals as goal

pub returns-then-is_empty : goal.returns-then-is_empty
returns-then-is_empty c = sym (hex-empty c.args.word.now (eqb-true (length c.args.word.now) 0 (sym c.if-is_empty.ensures)))

pub returns-then-word : goal.returns-then-word
returns-then-word c = sym (hex-long c.args.word.now c.if-word.true)

pub returns-in-Ok : goal.returns-in-Ok
returns-in-Ok c =
    let none : length c.args.word.now ≢ 0 = eqb-false (length c.args.word.now) 0 (sym c.if-is_empty.ensures) in
    ap Some c.from_vec.ensures ∙ hex-decoded c.args.word.now c.in-Ok.bytes.items (omega (arith, none)) c.if-word.false c.in-Ok.ensures.ok

pub returns-in_default : goal.returns-in_default
returns-in_default c =
    elim c.in-Err.ensures.err [
      | inl none ↦ absurd (c.in_default.not-OutOfMemory none)
      | inr read ↦ hex-refused c.args.word.now c.in-Err.error read
    ]
