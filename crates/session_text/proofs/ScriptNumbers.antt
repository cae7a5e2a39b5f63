-- A process is told by its script's number.
use Rattle.std.proofs.Common.{◌≡◌, ℕ, zero, suc, ◌-◌, ◌<◌, List, [], ◌∷◌, ◌++◌, length, get_or, refl, sym, ap, ◌∙◌, arith}
use Rattle.std.specs.Prelude.{codes, decimal}
use Rattle.session_model.specs.declared.sessions.ScriptLines.{ScriptLines}
use Rattle.session_model.specs.Merging.{numbers_of}
use Rattle.session_model.specs.Transcript.{process_text}

number-at : (steady : List ScriptLines) (k : ℕ) (d : ScriptLines) → k < length steady → get_or (numbers_of steady) k 0 ≡ (get_or steady k d).pid
number-at [] k d within = absurd (omega arith)
number-at (s ∷ steady) zero d within = refl
number-at (s ∷ steady) (suc k) d within = number-at steady k d (omega arith)

pub script-number : (steady : List ScriptLines) (pid : ℕ) (s : ScriptLines) → (pid ≡ 0 → ⊥) → pid - 1 < length steady → s ≡ get_or steady (pid - 1) s
    → process_text (numbers_of steady) pid ≡ codes "P" ++ decimal s.pid
script-number steady pid s some within is =
    let next : pid ≡ suc (pid - 1) = omega (arith, some) in
    let number : get_or (numbers_of steady) (pid - 1) 0 ≡ s.pid = number-at steady (pid - 1) s within ∙ ap (λ s. s.pid) (sym is) in
    ap (process_text (numbers_of steady)) next ∙ ap (λ n. codes "P" ++ decimal n) number
