-- What the definitions of sessions say together.
use Rattle.std.specs.Prelude.{◌≡◌, ℕ, ◌+◌, ◌⊎◌, List, [], ◌∷◌, ◌++◌, length, None, Some}
use Rattle.session_model.specs.declared.sessions.Session.{Session}
use Rattle.session_model.specs.declared.sessions.SessionRefusal.{SessionRefusal}
use Rattle.session_model.specs.Lines.{lines_in}
use Rattle.session_model.specs.Sessions.{session_of, statements_of, line_fault, SesFault, Ses}

-- Bytes are one session at most.
abbrev pub MeansOne : Type 0
MeansOne = (bytes : List ℕ) (s t : Session) → Ses bytes s → Ses bytes t → s ≡ t

-- Bytes are a session, or have a first fault, and not both.
abbrev pub MeansOrFails : Type 0
MeansOrFails = (bytes : List ℕ) → Ses bytes (session_of (statements_of (lines_in bytes))) ⊎ ((e : SessionRefusal) × (SesFault bytes ≡ Some e))

abbrev pub FaultMeansNone : Type 0
FaultMeansNone = (bytes : List ℕ) (s : Session) (e : SessionRefusal) → SesFault bytes ≡ Some e → Ses bytes s → ⊥

-- no line of some is wrong, after others
abbrev pub NoneWrong : List (List ℕ) → List (List ℕ) → Type 0
NoneWrong before [] = Unit {0}
NoneWrong before (line ∷ after) = (line_fault before line ≡ None) × NoneWrong (before ++ line ∷ []) after

-- a line is wrong, and none before it
pub record FirstWrong (lines : List (List ℕ)) (e : SessionRefusal) : Type 0 where
  pub before : List (List ℕ)
  pub line : List ℕ
  pub after : List (List ℕ)
  pub all : lines ≡ before ++ line ∷ after
  pub number : e.line ≡ length before + 1
  pub kind : line_fault before line ≡ Some e.kind
  pub good : NoneWrong [] before

-- The fault is that of the first line that is wrong.
abbrev pub FaultIsFirst : Type 0
FaultIsFirst = (bytes : List ℕ) (e : SessionRefusal) → SesFault bytes ≡ Some e → FirstWrong (lines_in bytes) e
