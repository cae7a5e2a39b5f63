-- What a judgement answers: that nothing is wrong, or what is wrong first.
use Rattle.std.specs.Prelude.{◌≡◌, Option, Some, None, Result, Ok, Err}

-- The fault that is told is the one that is found. Where none is told, it is free.
abbrev pub IsFault : {F : Type 0} → Option F → Option F → Type 0
IsFault (Some told) found = found ≡ Some told
IsFault None found = Unit {0}

-- Nothing is wrong, or the error tells what is.
abbrev pub Judged : {A E F : Type 0} → (E → Option F) → Result A E → Option F → Type 0
Judged told (Ok x) fault = fault ≡ None
Judged told (Err e) fault = IsFault (told e) fault

-- The same, and where nothing is wrong the value is given.
abbrev pub Judges : {A E F : Type 0} → (E → Option F) → Result A E → A → Option F → Type 0
Judges told (Ok x) value fault = (fault ≡ None) × (x ≡ value)
Judges told (Err e) value fault = IsFault (told e) fault
