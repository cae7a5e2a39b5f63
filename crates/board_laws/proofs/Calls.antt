-- Lists of calls on a board, one after the other.
use Rattle.std.proofs.Common.{◌≡◌, ℕ, List, [], ◌∷◌, Bool, true, false, if◌then◌else◌, Ok, Err, refl, sym, ◌∙◌, ap, subst}
use Rattle.load_model.specs.Modules.{fixed_bytes}
use Rattle.load_model.specs.State.{pids, is_among}
use Rattle.load_model.specs.declared.commands.Ask.{Ask}
use Rattle.load_model.specs.declared.commands.Ask.TheVariants as kinds
use Rattle.load_model.proofs.Growing.{nothing_is_legal, one_more_is_legal}
use Rattle.load_core.specs.BoardState.{BoardState, IsLegal, MayAsk, entry_of, with_entry}
use Rattle.load_core.specs.Answered.{had_fault, after_ask}
use Rattle.load_core.proofs.Using.{IsNew, asked_follows}
use Rattle.board_laws.specs.Calls.{Call, asks, looks, IsCall, AreMade}
use Rattle.board_laws.specs.CallLaws.{new_board_state, after_call, IsAnswer, AllAnswered, CallsAreAnswered}

-- ---- it stays legal

asked_anew : (b : BoardState) (ask : Ask) → had_fault b ask ≡ false → IsNew b.history ask
asked_anew b (kinds.Fault serial m p) new = new
asked_anew b (kinds.Enter how m) new = tt
asked_anew b (kinds.Free m) new = tt
asked_anew b kinds.Exit new = tt
asked_anew b (kinds.Write serial m object offset bytes) new = tt
asked_anew b (kinds.Debug serial m object offset bytes) new = tt
asked_anew b (kinds.Shared serial m object offset len) new = tt

either : (b : BoardState) (x : Bool) (d : BoardState) → IsLegal b → (x ≡ false → IsLegal d) → IsLegal (if x then b else d)
either b true d legal more = legal
either b false d legal more = more refl

stays_legal : (b : BoardState) (pid : ℕ) (ask : Ask) → IsLegal b → is_among pids pid ≡ true → MayAsk b pid ask → IsLegal (after_ask b pid ask)
stays_legal b pid ask legal there may =
    either b (had_fault b ask) (with_entry b (entry_of b pid ask)) legal
    (λ new.
    one_more_is_legal b.library b.failing (fixed_bytes b.library) b.history (entry_of b pid ask) legal
    (asked_follows b.library b.failing (fixed_bytes b.library) b.history pid ask there may (asked_anew b ask new)))

-- ---- the library and the failing pairs stay

record Same (b d : BoardState) : Type 0 where
  pub library : d.library ≡ b.library
  pub failing : d.failing ≡ b.failing

same_either : (b : BoardState) (x : Bool) (d : BoardState) → Same b d → Same b (if x then b else d)
same_either b true d same = record { library = refl; failing = refl }
same_either b false d same = same

same_called : (b : BoardState) (call : Call) → Same b (after_call b call)
same_called b (asks pid ask before after (Ok answer)) = same_either b (had_fault b ask) (with_entry b (entry_of b pid ask)) (record { library = refl; failing = refl })
same_called b (asks pid ask before after (Err want)) = record { library = refl; failing = refl }
same_called b (looks pid m answer) = record { library = refl; failing = refl }

-- ---- and so on

record Called (b c : BoardState) (call : Call) : Type 0 where
  pub after : c ≡ after_call b call
  pub answers : IsAnswer b call
  pub legal : IsLegal (after_call b call)

called : (b c : BoardState) (call : Call) → IsLegal b → IsCall b c call → Called b c call
called b c (asks pid ask before after (Ok answer)) legal is = record { after = is.2; answers = (is.3, is.4); legal = stays_legal b pid ask legal is.0 is.1 }
called b c (asks pid ask before after (Err want)) legal is = record { after = is.5.0; answers = is.5.1; legal = legal }
called b c (looks pid m answer) legal is = record { after = is.0; answers = is.1; legal = legal }

all_answered : (b c : BoardState) (calls : List Call) → IsLegal b → AreMade b calls c → AllAnswered b calls c
all_answered b c [] legal is =
    record { answered = legal; after = is; legal = subst IsLegal (sym is) legal; library = ap (λ d. d.library) is; failing = ap (λ d. d.failing) is }
all_answered b c (call ∷ calls) legal is =
    let one : Called b is.0 call = called b is.0 call legal is.1 in
    let more : AreMade (after_call b call) calls c = subst (λ d. AreMade d calls c) one.after is.2 in
    let rest : AllAnswered (after_call b call) calls c = all_answered (after_call b call) c calls one.legal more in
    let same : Same b (after_call b call) = same_called b call in
    record {
      answered = (legal, one.answers, rest.answered);
      after = rest.after;
      legal = rest.legal;
      library = rest.library ∙ same.library;
      failing = rest.failing ∙ same.failing;
    }

pub calls_are_answered : CallsAreAnswered
calls_are_answered lib failing keeper calls c is = all_answered (new_board_state lib failing keeper) c calls (nothing_is_legal lib failing (fixed_bytes lib)) is
