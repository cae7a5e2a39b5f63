-- Worked values: the words of `gen`, the files of two modules, and what is said where the second of them is not saved.
use Rattle.std.specs.Prelude.{◌≡◌, List, ℕ, [], ◌∷◌, ◌++◌, codes, map, Option, Some, None, Ok, Err}
use Rattle.lx_ports.specs.Calls.{save}
use Rattle.lx_ports.specs.declared.files.SaveFault.TheVariants.{Failed}
use Rattle.answer_model.specs.Ends.{outputs_of}
use Rattle.answer_model.specs.GenAnswer.{files_with, SavesInTurn, GenWords}
use Rattle.answer_model.specs.Outcome.{Saved}
use Rattle.answer_model.specs.Words.{Command, command_of, gen}

abbrev pub of : List ℕ → Option Command
of count = command_of (codes "gen" ∷ count ∷ codes "g" ∷ [])

abbrev pub of_two : GenWords
of_two = record { count = 2; prefix = codes "g" }

abbrev pub two_files : List Saved
two_files = record { name = codes "a"; bytes = 1 ∷ [] } ∷ record { name = codes "b"; bytes = 2 ∷ [] } ∷ []

abbrev pub say : List ℕ
say = codes "all" ++ 10 ∷ []

pub record WorkedGenWords : Type 0 where
  pub one : of (codes "1") ≡ Some (gen 1 (codes "g"))
  pub most : of (codes "64") ≡ Some (gen 64 (codes "g"))
  pub more : of (codes "65") ≡ None
  pub nothing : of (codes "0") ≡ None
  pub zero_in_front : of (codes "01") ≡ None
  pub sign : of (codes "+1") ≡ None
  pub no_count : of [] ≡ None
  pub empty_prefix : command_of (codes "gen" ∷ codes "2" ∷ [] ∷ []) ≡ Some (gen 2 [])
  pub two : command_of (codes "gen" ∷ codes "2" ∷ []) ≡ None
  pub four : command_of (codes "gen" ∷ codes "2" ∷ codes "g" ∷ codes "g" ∷ []) ≡ None
  pub other : command_of (codes "Gen" ∷ codes "2" ∷ codes "g" ∷ []) ≡ None

pub record WorkedGenSaves : Type 0 where
  pub order :
      map (λ saved. saved.name) (files_with of_two ([] ∷ [] ∷ []))
      ≡ codes "g1.obj" ∷ codes "g1.def" ∷ codes "g2.obj" ∷ codes "g2.def" ∷ codes "g.ses" ∷ []
  pub named : outputs_of (gen 2 (codes "g")) ≡ map (λ saved. saved.name) (files_with of_two ([] ∷ [] ∷ []))
  pub all : SavesInTurn two_files say (save (codes "a") (1 ∷ []) (Ok tt) ∷ save (codes "b") (2 ∷ []) (Ok tt) ∷ []) (record { status = 0; text = say })
  pub second :
      SavesInTurn two_files say (save (codes "a") (1 ∷ []) (Ok tt) ∷ save (codes "b") (2 ∷ []) (Err Failed) ∷ [])
      (record { status = 4; text = codes "lx: b: write failed" ++ 10 ∷ [] })
  pub first : SavesInTurn two_files say (save (codes "a") (1 ∷ []) (Err Failed) ∷ []) (record { status = 4; text = codes "lx: a: write failed" ++ 10 ∷ [] })
