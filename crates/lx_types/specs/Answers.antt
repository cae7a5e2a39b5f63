-- What a call answers, against what the definitions read.
use Rattle.std.specs.Prelude.{◌≡◌, Option, Some, None, Result, Ok, Err}
use Rattle.lx_types.specs.declared.fail.Fail.{Fail}
use Rattle.lx_types.specs.declared.fail.Fail.TheVariants.{Said, NoMemory}

-- ---- readings

-- One reading after another. The first that fails ends them.
infixl 10 ◌>>=◌
abbrev pub ◌>>=◌ : {A B F : Type 0} → Result A F → (A → Result B F) → Result B F
(Ok x) >>= f = f x
(Err fault) >>= f = Err fault

-- A value where nothing is wrong, or what is wrong.
abbrev pub unless : {A F : Type 0} → Option F → A → Result A F
unless None x = Ok x
unless (Some fault) x = Err fault

-- ---- how an error is told: the fault that it stands for, in the words of the definitions, if for any

-- The error is the fault.
abbrev pub as_is : {F : Type 0} → F → Option F
as_is fault = Some fault

-- The definitions have other words for it.
abbrev pub told_as : {E F : Type 0} → (E → F) → E → Option F
told_as told e = Some (told e)

-- A call that takes memory says the fault. Want of memory stands for none.
abbrev pub if_said : {F : Type 0} → Fail F → Option F
if_said (Said fault) = Some fault
if_said NoMemory = None

abbrev pub if_said_as : {E F : Type 0} → (E → F) → Fail E → Option F
if_said_as told (Said refusal) = Some (told refusal)
if_said_as told NoMemory = None

-- The reading has the fault that is told. Where none is told, it is free.
abbrev pub Tells : {B F : Type 0} → Option F → Result B F → Type 0
Tells (Some fault) read = read ≡ Err fault
Tells None read = Unit {0}

-- ---- answers

-- A call gives what is read, seen by view, or an error, told so.
abbrev pub Gives : {A B E F : Type 0} → (A → B) → (E → Option F) → Result A E → Result B F → Type 0
Gives view told (Ok x) read = read ≡ Ok (view x)
Gives view told (Err e) read = Tells (told e) read

-- A call gives what is read at a cursor, and moves the cursor past it. After an error the cursor may be
-- anywhere.
abbrev pub Reads : {A B C E F : Type 0} → (A → B) → (E → Option F) → Result A E → (C → Result (B × C) F) → C → C → Type 0
Reads view told (Ok x) read old new = read old ≡ Ok (view x, new)
Reads view told (Err e) read old new = Tells (told e) (read old)

-- The same, and after an error the cursor is where it was.
abbrev pub Yields : {A B C E F : Type 0} → (A → B) → (E → Option F) → Result A E → (C → Result (B × C) F) → C → C → Type 0
Yields view told (Ok x) read old new = read old ≡ Ok (view x, new)
Yields view told (Err e) read old new = Tells (told e) (read old) × (new ≡ old)

-- A call that takes memory and answers no reading: P holds of its value, Q of its refusal. Want of memory is free.
abbrev pub Answers : {A R : Type 0} → Result A (Fail R) → (A → Type 0) → (R → Type 0) → Type 0
Answers (Ok value) P Q = P value
Answers (Err (Said refusal)) P Q = Q refusal
Answers (Err NoMemory) P Q = Unit {0}

-- A refusal as a call answers it that takes memory.
abbrev pub as_said : {A F : Type 0} → Result A F → Result A (Fail F)
as_said (Ok x) = Ok x
as_said (Err fault) = Err (Said fault)
