-- The command of an item that is next.
use Rattle.std.proofs.Common.{◌≡◌, ◌==◌, ◌&&◌, not, ℕ, zero, suc, true, false, List, [], ◌∷◌, Option, Some, None, slice_get, refl, sym, ◌∙◌, ap, subst, eq-eqb}
use Rattle.std.specs.List.{AllByRecursion}
use Rattle.load_model.specs.declared.commands.Command.{Command}
use Rattle.load_model.specs.declared.deeds.Entry.{Entry}
use Rattle.load_model.specs.Modules.{Library}
use Rattle.load_model.specs.Asks.{ask_in}
use Rattle.load_model.specs.Step.{FitsPlace}
use Rattle.session_model.specs.declared.sessions.Script.{Script}
use Rattle.session_model.specs.Merging.{Item, entry, is_command_of, is_fault, AsksFor}
use Rattle.load_core.specs.BoardState.{BoardState}
use Rattle.check_model.specs.Told.{commands_at}
use Rattle.check_model.specs.Checks.{Judge, commands_of}
use Rattle.check_core.specs.NextCommands.{IsForNext}
use Rattle.check_core.specs.PlayedItems.{CanPlay}
use Rattle.check_play.specs.AtPlaces.{IsBoardAt}
use Rattle.check_play.specs.Playing.{ScriptsFit}

-- ---- a command of a script fits its place

all_at : {A : Type 0} (P : A → Type 0) (xs : List A) (n : ℕ) (x : A) → AllByRecursion P xs → Some x ≡ slice_get xs n → P x
all_at P [] zero x all e = cc
all_at P [] (suc n) x all e = cc
all_at P (y ∷ ys) zero x all e = let same : x ≡ y = cc in subst P (sym same) all.0
all_at P (y ∷ ys) (suc n) x all e = all_at P ys n x all.1 e

none_at : {A : Type 0} (n : ℕ) (x : A) → Some x ≡ slice_get [] n → ⊥
none_at zero x e = cc
none_at (suc n) x e = cc

all_commands : (o : Option Script) (c : Command) (n : ℕ) → ((s : Script) → o ≡ Some s → AllByRecursion FitsPlace s.commands) → Some c ≡ slice_get (commands_at o) n → FitsPlace c
all_commands None c n fit e = absurd (none_at n c e)
all_commands (Some s) c n fit e = all_at FitsPlace s.commands n c (fit s refl) e

fits_at : (scripts : List Script) (pid n : ℕ) (c : Command) → ScriptsFit scripts → Some c ≡ slice_get (commands_of scripts pid) n → FitsPlace c
fits_at scripts zero n c fit e = absurd (none_at n c e)
fits_at scripts (suc k) n c fit e =
    all_commands (slice_get scripts k) c n (λ s is. all_at (λ (x : Script). AllByRecursion FitsPlace x.commands) scripts k s fit (sym is)) e

pub command_fits : (j : Judge) (before : List Item) (x : Entry) (o : Option Command) (c : Command) → CanPlay j before (entry x) o → ScriptsFit j.scripts → o ≡ Some c → FitsPlace c
command_fits j before x o c can fit is = fits_at j.scripts x.pid can.scripted.0 c fit (sym is ∙ can.scripted.1)

-- ---- an entry that is no fault asks what its command asks

is_own : (x : Entry) → is_fault x.deed ≡ false → is_command_of x.pid (entry x) ≡ true
is_own x e = ap (λ b. (x.pid == x.pid) && not b) e ∙ ap (λ b. b && true) (eq-eqb x.pid x.pid refl)

pub command_asks : (j : Judge) (before : List Item) (x : Entry) (o : Option Command) (c : Command) (b : BoardState) → CanPlay j before (entry x) o → IsBoardAt j before b → is_fault x.deed ≡ false → o ≡ Some c →
    AsksFor b.library c (ask_in x.deed)
command_asks j before x o c b can board fault is =
    subst (λ (lib : Library). AsksFor lib c (ask_in x.deed)) (sym (ap (λ (l : BoardState). l.library) board.is))
    (subst (λ (p : Option Command). IsForNext j.lib p (entry x)) is (can.command_is (is_own x fault)))

pub no_command : (j : Judge) (before : List Item) (x : Entry) (o : Option Command) → CanPlay j before (entry x) o → is_fault x.deed ≡ false → o ≡ None → ⊥
no_command j before x o can fault is = subst (λ (p : Option Command). IsForNext j.lib p (entry x)) is (can.command_is (is_own x fault))
