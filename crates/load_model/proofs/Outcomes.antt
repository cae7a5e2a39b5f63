-- The name in a command that is not refused means a module.
use Rattle.std.proofs.Common.{◌≡◌, ℕ, List, Option, Some, None, refl, sym, ◌∙◌, ap, subst}
use Rattle.std.specs.Prelude.{unwrap_or, length}
use Rattle.lx_types.specs.declared.entry.EntryKey.{EntryKey}
use Rattle.load_model.specs.declared.commands.Command.TheVariants as commands
use Rattle.load_model.specs.declared.commands.Refusal.{Refusal}
use Rattle.load_model.specs.declared.commands.Refusal.TheVariants.{Ended, NotHeld, NotAttached}
use Rattle.load_model.specs.declared.deeds.How.{How}
use Rattle.load_model.specs.declared.deeds.How.TheVariants as ways
use Rattle.load_model.specs.Modules.{Library, number_of}
use Rattle.load_model.specs.State.{Eager}
use Rattle.load_model.specs.Refusals.{touch, write, share, peek, debug, when, enter_refusal, free_refusal, residence_if, residence_named, key_refusal, query_refusal, found_refusal, resource_refusal, refusal_of}
use Rattle.load_model.specs.Step.{meant}
use Rattle.load_model.specs.Outcomes.{NamesAreKnown}
use Rattle.load_model.proofs.Bytes.{right_none}
use Rattle.load_model.proofs.Holding.{no_name}
use Rattle.load_model.proofs.Accepted.{nobody}

-- a name that means something means what it is taken to mean
is_meant : (lib : Library) (name : List ℕ) → (number_of lib name ≡ None → ⊥) → number_of lib name ≡ Some (meant lib name)
is_meant lib name known = step (number_of lib name) refl
  where
    step : (o : Option ℕ) → number_of lib name ≡ o → number_of lib name ≡ Some (unwrap_or (number_of lib name) (length lib))
    step None is = absurd (known is)
    step (Some m) is = is ∙ ap (λ n. Some (unwrap_or n (length lib))) (sym is)

some_none : (r : Refusal) → Some r ≡ None → ⊥
some_none r h = cc

entered_name : (lib : Library) (e : Eager) (pid : ℕ) (how : How) (name : List ℕ) → enter_refusal lib (e.processes pid) how (number_of lib name) ≡ None → number_of lib name ≡ None → ⊥
entered_name lib e pid how name fine is = nobody lib (e.processes pid) how (ap (enter_refusal lib (e.processes pid) how) (sym is) ∙ fine)

freed_name : (lib : Library) (e : Eager) (pid : ℕ) (name : List ℕ) → free_refusal (e.processes pid) (number_of lib name) ≡ None → number_of lib name ≡ None → ⊥
freed_name lib e pid name fine is =
    some_none NotHeld (right_none (when (e.processes pid).ended Ended) _ (ap (free_refusal (e.processes pid)) (sym is) ∙ fine))

queried_name : (lib : Library) (e : Eager) (pid : ℕ) (name : List ℕ) (key : EntryKey) → query_refusal lib e pid name key ≡ None → number_of lib name ≡ None → ⊥
unfolding query_refusal residence_named
queried_name lib e pid name key fine is =
    some_none NotAttached (ap (λ n. key_refusal lib key (residence_if lib e pid n)) (sym is) ∙ right_none (when (e.processes pid).ended Ended) _ fine)

found_name : (lib : Library) (e : Eager) (pid : ℕ) (name : List ℕ) (ty id : ℕ) → resource_refusal lib e pid name ty id ≡ None → number_of lib name ≡ None → ⊥
unfolding resource_refusal residence_named
found_name lib e pid name ty id fine is =
    some_none NotAttached (ap (λ n. found_refusal lib ty id (residence_if lib e pid n)) (sym is) ∙ right_none (when (e.processes pid).ended Ended) _ fine)

as_named : (lib : Library) {given name : List ℕ} → Some given ≡ Some name → number_of lib given ≡ Some (meant lib given) → number_of lib name ≡ Some (meant lib name)
as_named lib {given} {name} is known =
    let same : given ≡ name = cc in
    subst (λ n. number_of lib n ≡ Some (meant lib n)) same known

pub names_are_known : NamesAreKnown
unfolding refusal_of
names_are_known lib e pid (commands.Start name) named fine is = as_named lib is (is_meant lib name (entered_name lib e pid ways.Start name fine))
names_are_known lib e pid (commands.Load name) named fine is = as_named lib is (is_meant lib name (entered_name lib e pid ways.Load name fine))
names_are_known lib e pid (commands.Free name) named fine is = as_named lib is (is_meant lib name (freed_name lib e pid name fine))
names_are_known lib e pid (commands.Touch at) named fine is = as_named lib is (is_meant lib at.«module» (no_name lib e pid touch at fine))
names_are_known lib e pid (commands.Peek at) named fine is = as_named lib is (is_meant lib at.«module» (no_name lib e pid peek at fine))
names_are_known lib e pid (commands.Shared at) named fine is = as_named lib is (is_meant lib at.«module» (no_name lib e pid share at fine))
names_are_known lib e pid (commands.Write at bytes) named fine is = as_named lib is (is_meant lib at.«module» (no_name lib e pid write at fine))
names_are_known lib e pid (commands.Debug at bytes) named fine is = as_named lib is (is_meant lib at.«module» (no_name lib e pid debug at fine))
names_are_known lib e pid (commands.Query name key) named fine is = as_named lib is (is_meant lib name (queried_name lib e pid name key fine))
names_are_known lib e pid (commands.GetRes name ty id) named fine is = as_named lib is (is_meant lib name (found_name lib e pid name ty id fine))
names_are_known lib e pid commands.Exit named fine is = absurd cc
