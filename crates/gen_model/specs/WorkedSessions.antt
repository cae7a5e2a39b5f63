-- Worked values: the text of the session of one module, and how that of two begins and what its first script is.
use Rattle.std.specs.Prelude.{◌≡◌, ℕ, List, [], ◌∷◌, ◌++◌, codes}
use Rattle.session_model.specs.Spelling.{session_bytes, script_lines}
use Rattle.gen_model.specs.Sessions.{gen_session, gen_script, object_name, definition_name, session_name}

abbrev pub ln : List ℕ → List ℕ
ln text = text ++ 10 ∷ []

abbrev pub G : List ℕ
G = codes "g"

-- what a process does to one module
abbrev pub one_script : List ℕ → List ℕ
one_script process =
    ln process ++ ln (codes "load G1") ++ ln (codes "touch G1 1 0 8192") ++ ln (codes "peek G1 1 0 16") ++ ln (codes "free G1")

pub record WorkedSessions : Type 0 where
  pub one :
      session_bytes (gen_session 1 G)
      ≡ ln (codes "build G1 g1.def g1.obj") ++ one_script (codes "process 1") ++ one_script (codes "process 2")
      ++ one_script (codes "process 3") ++ one_script (codes "process 4")
  pub two :
      script_lines (gen_script 2 3)
      ≡ ln (codes "process 3") ++ ln (codes "load G2") ++ ln (codes "touch G1 1 0 8192") ++ ln (codes "peek G1 1 0 16")
      ++ ln (codes "touch G2 1 0 8192") ++ ln (codes "peek G2 1 0 16") ++ ln (codes "free G2")
  pub objects : object_name (codes "out/g") 12 ≡ codes "out/g12.obj"
  pub definitions : definition_name [] 7 ≡ codes "7.def"
  pub session : session_name G ≡ codes "g.ses"
