-- A refusal that is handed on.
use Rattle.std.proofs.Common.{◌≡◌, Option, List, Result, Ok, Err, sym, subst, ℕ}
use Rattle.std.specs.Prelude.{IsErrAnd}
use Rattle.lx_bytes.specs.Cursor.{Cursor}
use Rattle.lx_types.specs.Answers.{Tells, Gives, if_said_as}
use Rattle.lx_types.specs.declared.refusal.LxRefusal.{LxRefusal}
use Rattle.lx_types.specs.declared.refusal.LxKind.{LxKind}
use Rattle.lx_types.specs.declared.refusal.LxKind.TheVariants.{EntryTable}
use Rattle.lx_types.specs.declared.fail.Fail.{Fail}
use Rattle.lx_model.specs.EntryTable.{Numbered}
use Rattle.lx_model.specs.Reading.{Read}
use Rattle.lx_entry.specs.Bundles.{Adds, AddsBundle}
use Rattle.lx_entry.specs.Refusals.{refusal}
use Rattle.lx_entry.specs.declared.refusal.TableRefusal.{TableRefusal}

pub gives_failed : {A B : Type 0} (kind : LxKind) (view : A → B) (answer : Result A (Fail TableRefusal)) (read : Result B LxRefusal) (f : Fail TableRefusal) → IsErrAnd answer (λ e. e ≡ f) → Tells (if_said_as (refusal kind) f) read →
    Gives view (if_said_as (refusal kind)) answer read
gives_failed kind view (Ok x) read f is told = absurd is
gives_failed kind view (Err g) read f is told = subst (λ (h : Fail TableRefusal). Tells (if_said_as (refusal kind) h) read) (sym is) told

pub adds_failed : (answer : Result (Unit {0}) (Fail TableRefusal)) (read : Read (List Numbered)) (before after : List Numbered) (c : Cursor) (f : Fail TableRefusal) → IsErrAnd answer (λ e. e ≡ f) → Tells (if_said_as (refusal EntryTable) f) read →
    Adds answer read before after c
adds_failed (Ok x) read before after c f is told = absurd is
adds_failed (Err g) read before after c f is told = subst (λ (h : Fail TableRefusal). Tells (if_said_as (refusal EntryTable) h) read) (sym is) told

pub bundle_failed : (answer : Result (Option ℕ) (Fail TableRefusal)) (read : Read (Option (List Numbered × ℕ))) (before after : List Numbered) (c : Cursor) (f : Fail TableRefusal) → IsErrAnd answer (λ e. e ≡ f) → Tells (if_said_as (refusal EntryTable) f) read →
    AddsBundle answer read before after c
bundle_failed (Ok x) read before after c f is told = absurd is
bundle_failed (Err g) read before after c f is told = subst (λ (h : Fail TableRefusal). Tells (if_said_as (refusal EntryTable) h) read) (sym is) told
