use Rattle.std.proofs.Common.{ap, sym, arith}
use Rattle.def_tokens.specs.WordLengths.{words_of_len}
use Rattle.def_tokens.proofs.Words.{no-such-len}
use Rattle.def_tokens.proofs.keyword.words_of_len.Goals as goal

pub returns-in-3 : goal.returns-in-3
unfolding words_of_len
returns-in-3 c = sym (ap words_of_len c.in-3.is)

pub returns-in-4 : goal.returns-in-4
unfolding words_of_len
returns-in-4 c = sym (ap words_of_len c.in-4.is)

pub returns-in-5 : goal.returns-in-5
unfolding words_of_len
returns-in-5 c = sym (ap words_of_len c.in-5.is)

pub returns-in-6 : goal.returns-in-6
unfolding words_of_len
returns-in-6 c = sym (ap words_of_len c.in-6.is)

pub returns-in-7 : goal.returns-in-7
unfolding words_of_len
returns-in-7 c = sym (ap words_of_len c.in-7.is)

pub returns-in-8 : goal.returns-in-8
unfolding words_of_len
returns-in-8 c = sym (ap words_of_len c.in-8.is)

pub returns-in-9 : goal.returns-in-9
unfolding words_of_len
returns-in-9 c = sym (ap words_of_len c.in-9.is)

pub returns-in-10 : goal.returns-in-10
unfolding words_of_len
returns-in-10 c = sym (ap words_of_len c.in-10.is)

pub returns-in-11 : goal.returns-in-11
unfolding words_of_len
returns-in-11 c = sym (ap words_of_len c.in-11.is)

pub returns-in-12 : goal.returns-in-12
unfolding words_of_len
returns-in-12 c = sym (ap words_of_len c.in-12.is)

pub returns-in-13 : goal.returns-in-13
unfolding words_of_len
returns-in-13 c = sym (ap words_of_len c.in-13.is)

pub returns-in-14 : goal.returns-in-14
unfolding words_of_len
returns-in-14 c = sym (ap words_of_len c.in-14.is)

pub returns-in-15 : goal.returns-in-15
unfolding words_of_len
returns-in-15 c = sym (ap words_of_len c.in-15.is)

pub returns-in_default : goal.returns-in_default
returns-in_default c = sym (no-such-len c.args.len (omega arith) (omega arith) (omega arith) (omega arith) (omega arith) (omega arith) (omega arith) (omega arith) (omega arith) (omega arith) (omega arith) (omega arith) (omega arith))
