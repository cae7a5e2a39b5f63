-- What a session can be: the bounds of its parts, whatever bytes say it.
use Rattle.std.specs.Prelude.{◌≡◌, ℕ, ◌≤◌, ◌<◌, ◌^◌, List, length, map}
use Rattle.std.specs.List.{AllByRecursion}
use Rattle.lx_types.specs.declared.entry.EntryKey.{EntryKey}
use Rattle.lx_types.specs.declared.entry.EntryKey.TheVariants.{Ordinal, Named}
use Rattle.load_model.specs.declared.commands.Place.{Place}
use Rattle.load_model.specs.declared.commands.Command.{Command}
use Rattle.load_model.specs.declared.commands.Command.TheVariants.{Start, Load, Free, Touch, Peek, Shared, Write, Debug, Query, GetRes, Exit}
use Rattle.load_model.specs.Serials.{Rise}
use Rattle.session_model.specs.declared.sessions.FailingLine.{FailingLine}
use Rattle.session_model.specs.declared.sessions.ModLine.{ModLine}
use Rattle.session_model.specs.declared.sessions.ModLine.TheVariants.{Take, Build}
use Rattle.session_model.specs.declared.sessions.Script.{Script}
use Rattle.session_model.specs.declared.sessions.Session.{Session}
use Rattle.session_model.specs.declared.limits.TheConstants.{MAX_BYTES, MAX_WORD, MAX_COMMANDS}
use Rattle.lx_types.specs.declared.limits.TheConstants.{MAX_PROCESSES}
use Rattle.session_model.specs.Sessions.{Ses}

-- names are words of a line
abbrev pub IsWord : List ℕ → Type 0
IsWord w = length w ≤ MAX_WORD

abbrev pub IsNumber : ℕ → Type 0
IsNumber n = n < 2 ^ 32

-- a place of one byte at least
pub record IsPlace (p : Place) : Type 0 where
  pub name : IsWord p.«module»
  pub object : IsNumber p.object
  pub offset : IsNumber p.offset
  pub some : 1 ≤ p.len
  pub length : IsNumber p.len

-- one of which so many bytes are asked at most
pub record IsReadable (p : Place) : Type 0 where
  pub place : IsPlace p
  pub few : p.len ≤ MAX_BYTES

-- one to which bytes are written, as many as it is long
pub record IsWritten (p : Place) (bytes : List ℕ) : Type 0 where
  pub place : IsReadable p
  pub fit : length bytes ≡ p.len

abbrev pub IsKey : EntryKey → Type 0
IsKey (Ordinal ordinal) = IsNumber ordinal
IsKey (Named name) = IsWord name

abbrev pub IsCommand : Command → Type 0
IsCommand (Start name) = IsWord name
IsCommand (Load name) = IsWord name
IsCommand (Free name) = IsWord name
IsCommand (Touch p) = IsPlace p
IsCommand (Peek p) = IsReadable p
IsCommand (Shared p) = IsReadable p
IsCommand (Write p bytes) = IsWritten p bytes
IsCommand (Debug p bytes) = IsWritten p bytes
IsCommand (Query name key) = IsWord name × IsKey key
IsCommand (GetRes name ty id) = IsWord name × (ty < 2 ^ 16) × (id < 2 ^ 16)
IsCommand Exit = Unit {0}

abbrev pub IsModLine : ModLine → Type 0
IsModLine (Take file) = IsWord file
IsModLine (Build stem def files) = IsWord stem × IsWord def × (1 ≤ length files) × AllByRecursion IsWord files

pub record IsFailingLine (f : FailingLine) : Type 0 where
  pub name : IsWord f.«module»
  pub least : 1 ≤ f.pid
  pub most : f.pid ≤ MAX_PROCESSES

pub record IsScript (s : Script) : Type 0 where
  pub few : length s.commands ≤ MAX_COMMANDS
  pub commands : AllByRecursion IsCommand s.commands

-- The numbers of scripts rise from 1 to 16 at most.
pub record IsSession (s : Session) : Type 0 where
  pub modules : AllByRecursion IsModLine s.modules
  pub failing : AllByRecursion IsFailingLine s.failing
  pub scripts : AllByRecursion IsScript s.scripts
  pub rising : Rise 0 (map (λ script. script.pid) s.scripts) MAX_PROCESSES
  pub few : length s.scripts ≤ MAX_PROCESSES

-- What bytes say is such a session.
abbrev pub SessionsAreBounded : Type 0
SessionsAreBounded = (bytes : List ℕ) (s : Session) → Ses bytes s → IsSession s
