-- Worked values: the words of `check`, and its lines.
use Rattle.std.specs.Prelude.{◌≡◌, ◌++◌, [], ◌∷◌, codes, Some, None}
use Rattle.check_model.specs.declared.kinds.CheckKind.TheVariants as kinds
use Rattle.answer_model.specs.CheckAnswer.{check_of, check_text, ok_line}
use Rattle.answer_model.specs.FileLine.{file_line}
use Rattle.answer_model.specs.RunAnswer.{run_of}
use Rattle.answer_model.specs.Words.{command_of}

pub record WorkedCheck : Type 0 where
  pub words : check_of (codes "check" ∷ codes "s.ses" ∷ codes "s.txt" ∷ []) ≡ Some (record { session = codes "s.ses"; transcript = codes "s.txt" })
  pub no_transcript : check_of (codes "check" ∷ codes "s.ses" ∷ []) ≡ None
  pub three_files : check_of (codes "check" ∷ codes "s.ses" ∷ codes "s.txt" ∷ codes "t.txt" ∷ []) ≡ None
  pub other : check_of (codes "cheque" ∷ codes "s.ses" ∷ codes "s.txt" ∷ []) ≡ None
  -- they are no run, and no command of the tool
  pub no_run : run_of (codes "check" ∷ codes "s.ses" ∷ codes "s.txt" ∷ []) ≡ None
  pub no_command : command_of (codes "check" ∷ codes "s.ses" ∷ codes "s.txt" ∷ []) ≡ None
  -- what is said of a transcript that is one, and of others
  pub ok : ok_line (record { processes = 2; entries = 11; faults = 4 }) ≡ codes "ok processes 2 entries 11 faults 4" ++ 10 ∷ []
  pub touch : file_line (codes "s.txt") (check_text (record { line = 5; kind = kinds.Touch })) ≡ codes "lx: s.txt: line 5 Touch" ++ 10 ∷ []
  pub long : check_text (record { line = 5000000000; kind = kinds.Text }) ≡ codes "line 5000000000 Text"
