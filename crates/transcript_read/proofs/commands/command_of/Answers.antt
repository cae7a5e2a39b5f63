use Rattle.std.proofs.Common.{◌≡◌, length, subst, sym, ap, ◌∙◌, arith}
use Rattle.session_model.specs.Spelling.{session_bytes}
use Rattle.dump_model.proofs.WordLaws.{same-pointwise, other-pointwise}
use Rattle.transcript_read.specs.Commands.{IsCommandText, of_one, one_bytes}
use Rattle.transcript_read.proofs.CommandLaws.{command_short, no_fault, read_is_one, last_said, same_text, one_written}
use Rattle.transcript_read.proofs.commands.command_of.Goals as goal

pub returns-then-text-ge-MOST : goal.returns-then-text-ge-MOST
returns-then-text-ge-MOST c d said is = let short = command_short d said in omega (arith, short, ap length is, c.if-text-ge-MOST.true)

pub returns-in-Err-Said : goal.returns-in-Err-Said
returns-in-Err-Said c d said is =
    no_fault c.args.text.now c.deref.result.now c.in-Err-Said.field-0-0 d (c.deref.ensures.value ∙ c.in_ok-bytes.ensures) (rw c.in-Err-Said.field-0-is at c.in-Err-Said.ensures) said is

pub returns-in_default : goal.returns-in_default
returns-in_default c d said is =
    let same = read_is_one c.args.text.now c.deref.result.now c.in-Ok.session d (c.deref.ensures.value ∙ c.in_ok-bytes.ensures) c.in-Ok.ensures said is in
    let no = c.in_default.ensures.one d same in
    absurd (cc (no))

pub returns-then-eq : goal.returns-then-eq
returns-then-eq c =
    let one = c.last_command-then-eq.ensures.one c.in-Some.command c.in_ok-session.ensures in
    let same = same-pointwise c.as_slice.result.now c.as_slice-2.result.now (sym c.eq.ensures ∙ c.if-eq.true) in
    let written = sym (ap session_bytes c.in_ok-session.ensures) ∙ sym c.in_ok-written.ensures.text ∙ sym c.as_slice.ensures ∙ same ∙ c.as_slice-2.ensures.value ∙ c.in_ok-bytes.ensures in
    subst (λ o. IsCommandText o c.args.text.now) (sym one)
    (last_said c.deref.result.now c.in-Ok.session c.in-Some.command c.in-Ok.ensures c.in-Some.ensures.some, same_text c.args.text.now c.in-Some.command written)

pub returns : goal.returns
returns c d said is =
    let same = read_is_one c.args.text.now c.deref.result.now c.in-Ok.session d (c.deref.ensures.value ∙ c.in_ok-bytes.ensures) c.in-Ok.ensures said is in
    let told = c.in-Some.ensures.one d same in
    let one : c.in-Some.command ≡ d = cc (told) in
    let written = c.as_slice.ensures ∙ c.in_ok-written.ensures.text ∙ ap session_bytes (c.in_ok-session.ensures ∙ ap of_one one) ∙ one_written d ∙ ap one_bytes (sym is)
    ∙ sym c.in_ok-bytes.ensures ∙ sym c.as_slice-2.ensures.value in
    other-pointwise c.as_slice.result.now c.as_slice-2.result.now (sym c.eq.ensures ∙ c.if-eq.false) written
