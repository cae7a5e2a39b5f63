-- What `memory` comes to: one thing, and something.
use Rattle.std.proofs.Common.{◌≡◌, ◌⊎◌, ℕ, List, [], ◌++◌, inl, inr, refl, ap, sym, ◌∙◌}
use Rattle.std.specs.Prelude.{Option, None, Some, codes}
use Rattle.lx_model.specs.declared.library.LibraryRefusal.{LibraryRefusal}
use Rattle.load_model.specs.Modules.{Library}
use Rattle.load_model.specs.Outcomes as outcomes
use Rattle.load_model.specs.declared.commands.Refusal.{Refusal}
use Rattle.load_model.specs.declared.commands.Refusal.TheVariants as why
use Rattle.load_model.specs.declared.commands.Reply.TheVariants.{Refused}
use Rattle.memory_model.specs.Memory.{RefusesMemory, entered, memory_after, outcome, refusal_of}
use Rattle.memory_model.specs.declared.held.MemoryRefusal.{MemoryRefusal}
use Rattle.memory_model.specs.declared.held.MemoryRefusal.TheVariants as kinds
use Rattle.memory_model.specs.declared.held.ModuleMemory.{ModuleMemory}
use Rattle.memory_core.proofs.FirstEntry.{brought_or_refused}
use Rattle.answer_model.specs.FileRefusals.{field}
use Rattle.answer_model.specs.MemoryAnswer.{ShowsModules, memory_text, unloaded_text}
use Rattle.answer_model.specs.Outcome.{Outcome, refused, shown}
use Rattle.answer_model.specs.SessionRefusals.{library_text}

-- ---- one thing

-- the text of the refusal that a process is told
abbrev told_text : Refusal → List ℕ
told_text why.NoModule = codes "NoModule"
told_text why.NoEntry = codes "NoEntry"
told_text why.ForwardLoop = codes "ForwardLoop"
told_text why.Gate286 = codes "Gate286"
told_text (why.ArenaFull number of object size) = codes "ArenaFull" ++ (field of ++ (field object ++ field size))
told_text _ = []

text_told : (own : MemoryRefusal) → unloaded_text own ≡ told_text (refusal_of own)
text_told kinds.NoModule = refl
text_told kinds.NoEntry = refl
text_told kinds.ForwardLoop = refl
text_told kinds.Gate286 = refl
text_told (kinds.ArenaFull of object size) = refl

abbrev refusal_told : outcomes.Outcome → List ℕ
refusal_told (outcomes.told (Refused refusal)) = told_text refusal
refusal_told _ = []

texts_agree : (lib : Library) (one other : MemoryRefusal) → RefusesMemory lib one → RefusesMemory lib other → unloaded_text one ≡ unloaded_text other
texts_agree lib one other h k = text_told one ∙ ap refusal_told (sym h ∙ k) ∙ sym (text_told other)

apart : (lib : Library) (own : MemoryRefusal) → outcome lib ≡ outcomes.done 1 → RefusesMemory lib own → ⊥
apart lib own brought refuses =
    let both : outcomes.done 1 ≡ outcomes.told (Refused (refusal_of own)) = sym brought ∙ refuses in
    cc

pub memory_once : (name : List ℕ) (lib : Library) (fault : Option LibraryRefusal) (o p : Outcome) → ShowsModules name lib fault o → ShowsModules name lib fault p → o ≡ p
memory_once name lib (Some refusal) o p h k = h ∙ sym k
memory_once name lib None o p (inl h) (inl k) = h.told ∙ ap (λ (found : List ModuleMemory). shown (memory_text found)) (h.is.is ∙ sym k.is.is) ∙ sym k.told
memory_once name lib None o p (inl h) (inr k) = absurd (apart lib k.why h.is.brought k.refuses)
memory_once name lib None o p (inr h) (inl k) = absurd (apart lib h.why k.is.brought h.refuses)
memory_once name lib None o p (inr h) (inr k) = h.told ∙ ap (λ (text : List ℕ). refused name text) (texts_agree lib h.why k.why h.refuses k.refuses) ∙ sym k.told

-- ---- something

brought_or : (name : List ℕ) (lib : Library) → (outcome lib ≡ outcomes.done 1) ⊎ ((own : MemoryRefusal) × RefusesMemory lib own) → (o : Outcome) × ShowsModules name lib None o
brought_or name lib (inl brought) =
    let found = memory_after lib (entered lib).0 in (shown (memory_text found), inl (record { found = found; is = record { brought = brought; is = refl }; told = refl }))
brought_or name lib (inr own) = (refused name (unloaded_text own.0), inr (record { why = own.0; refuses = own.1; told = refl }))

pub memory_some : (name : List ℕ) (lib : Library) (fault : Option LibraryRefusal) → (o : Outcome) × ShowsModules name lib fault o
memory_some name lib (Some refusal) = (refused name (library_text refusal), refl)
memory_some name lib None = brought_or name lib (brought_or_refused lib)
