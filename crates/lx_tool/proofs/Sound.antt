-- Calls of which none failed are those that the told files have.
use Rattle.std.proofs.Common.{◌≡◌, ℕ, List, [], ◌∷◌, length, Option, Some, None, Ok, Err, ap, sym, subst, refl}
use Rattle.std.specs.Prelude.{if◌then◌else◌}
use Rattle.std.specs.List.{AllByRecursion}
use Rattle.std.proofs.lemmas.Bool.{lt-leb, le-leb}
use Rattle.lx_ports.specs.Calls.{Call, load, save, is_failed_load, load_faults}
use Rattle.lx_ports.specs.Files.{Contents, IsLoadOf}
use Rattle.lx_ports.specs.declared.files.LoadFault.TheVariants as fault
use Rattle.answer_model.specs.Answer.{IsSound, loaded}
use Rattle.answer_model.specs.Ends.{IsTold, is_failed_save, save_faults}
use Rattle.answer_model.specs.Loading.{file_limit}
use Rattle.file_commands.proofs.Begun.{IsPlain}
use Rattle.lx_tool.proofs.Counts.{none_after, not_first}

-- ---- a load

loaded_bytes : (has : Option (List ℕ)) (bytes : List ℕ) → IsLoadOf has file_limit (Ok bytes) → Ok bytes ≡ loaded has
loaded_bytes has bytes told =
    let P : Option (List ℕ) → Type 0 = λ o. Ok bytes ≡ loaded o in
    subst P (sym told.0) (sym (ap (λ b. if b then Ok bytes else Err fault.TooLong) (le-leb (length bytes) file_limit told.1)))

too_long : (has : Option (List ℕ)) → IsLoadOf has file_limit (Err fault.TooLong) → Err fault.TooLong ≡ loaded has
too_long None told = absurd told
too_long (Some bytes) told = sym (ap (λ b. if b then Ok bytes else Err fault.TooLong) (lt-leb (length bytes) file_limit told))

absent : (has : Option (List ℕ)) → IsLoadOf has file_limit (Err fault.Absent) → Err fault.Absent ≡ loaded has
absent has told =
    let P : Option (List ℕ) → Type 0 = λ o. Err fault.Absent ≡ loaded o in
    subst P (sym told) refl

-- ---- all

sound_call : (contents : Contents) (call : Call) (calls : List Call) → IsTold contents call → IsPlain call → load_faults (call ∷ calls) ≡ 0 → save_faults (call ∷ calls) ≡ 0 → IsSound contents call
sound_call contents (load name (Ok bytes)) calls told plain loads saves = loaded_bytes (contents name) bytes told
sound_call contents (load name (Err fault.Absent)) calls told plain loads saves = absent (contents name) told
sound_call contents (load name (Err fault.TooLong)) calls told plain loads saves = too_long (contents name) told
sound_call contents (load name (Err fault.Failed)) calls told plain loads saves = absurd (not_first is_failed_load (load name (Err fault.Failed)) calls refl loads)
sound_call contents (load name (Err fault.NoMemory)) calls told plain loads saves = absurd plain
sound_call contents (save name bytes (Ok done)) calls told plain loads saves = refl
sound_call contents (save name bytes (Err why)) calls told plain loads saves = absurd (not_first is_failed_save (save name bytes (Err why)) calls refl saves)

pub sound_all : (contents : Contents) (calls : List Call) → AllByRecursion (IsTold contents) calls → AllByRecursion IsPlain calls → load_faults calls ≡ 0 → save_faults calls ≡ 0
    → AllByRecursion (IsSound contents) calls
sound_all contents [] told plain loads saves = tt
sound_all contents (call ∷ calls) told plain loads saves =
    (sound_call contents call calls told.0 plain.0 loads saves, sound_all contents calls told.1 plain.1 (none_after is_failed_load call calls loads) (none_after is_failed_save call calls saves))
