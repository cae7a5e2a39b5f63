-- What is said of refusals.
use Rattle.std.specs.Prelude.{◌≡◌, ◌⊎◌, ℕ, List, ◌++◌, codes, Option, Some, None, Result, Ok, Err}
use Rattle.lx_types.specs.declared.fail.Fail.{Fail}
use Rattle.lx_types.specs.declared.fail.Fail.TheVariants as fail
use Rattle.lx_types.specs.declared.fail.NoMemory.{NoMemory}
use Rattle.link_model.specs.declared.refusals.LinkRefusal.{LinkRefusal}
use Rattle.image_pages.specs.declared.refusals.ImageRefusal.{ImageRefusal}
use Rattle.image_pages.specs.declared.refusals.ImageRefusal.TheVariants as image
use Rattle.omf_write.specs.declared.libraries.LibraryLong.{LibraryLong}
use Rattle.answer_model.specs.FileRefusals.{field}
use Rattle.answer_model.specs.declared.said.Said.{Said}
use Rattle.answer_model.specs.FileLine.{file_line}
use Rattle.answer_model.specs.LinkAnswer.{link_text}
use Rattle.refusal_text.specs.declared.refused.Cause.{Cause}
use Rattle.refusal_text.specs.declared.refused.Refused.{Refused}
use Rattle.refusal_text.specs.Refusals.{said_of, said_under}
use Rattle.file_commands.specs.declared.told.Told.{Told}

-- What a command comes to, by what it says.
abbrev pub said_in : Result Told NoMemory → Result Said NoMemory
said_in (Ok told) = Ok told.said
said_in (Err why) = Err why

-- What is said of a refused step, where there is memory for it.
abbrev pub Gives : Fail Refused → Result Said NoMemory → Type 0
Gives (fail.Said refused) (Ok said) = said ≡ said_of refused
Gives fail.NoMemory (Ok said) = ⊥
Gives why (Err _) = Unit {0}

-- The same of a cause, under a name.
abbrev pub RefusesUnder : List ℕ → Cause → Result Said NoMemory → Type 0
RefusesUnder name cause (Ok said) = said ≡ said_under name cause
RefusesUnder name cause (Err _) = Unit {0}

-- A refusal with this text is said under a name.
abbrev pub RefusesBy : {R : Type 0} → (R → List ℕ) → List ℕ → Fail R → Result Said NoMemory → Type 0
RefusesBy text name (fail.Said refusal) (Ok said) = said ≡ record { status = 1; text = file_line name (text refusal) }
RefusesBy text name fail.NoMemory (Ok said) = ⊥
RefusesBy text name why (Err _) = Unit {0}

abbrev pub RefusesAs : List ℕ → Fail LinkRefusal → Result Said NoMemory → Type 0
RefusesAs name why result = RefusesBy link_text name why result

abbrev pub image_text_of : ImageRefusal → List ℕ
image_text_of (image.Link refusal) = link_text refusal
image_text_of image.NoModule = codes "NoModule"
image_text_of (image.ArenaFull object size) = codes "ArenaFull" ++ (field object ++ field size)

abbrev pub RefusesImageAs : List ℕ → Fail ImageRefusal → Result Said NoMemory → Type 0
RefusesImageAs name why result = RefusesBy image_text_of name why result

abbrev pub RefusesLibrary : List ℕ → Fail LibraryLong → Result Said NoMemory → Type 0
RefusesLibrary name why result = RefusesBy (λ _. codes "LibraryLong") name why result
