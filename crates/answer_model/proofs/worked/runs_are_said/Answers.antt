use Rattle.std.proofs.Common.{inl, inr, refl, lit≤, [], ◌∷◌, codes, Err}
use Rattle.load_model.specs.Histories.{Legal}
use Rattle.lx_model.specs.Gathering.{LibraryFault}
use Rattle.lx_ports.specs.Calls.{load}
use Rattle.lx_ports.specs.declared.files.LoadFault.TheVariants.{Absent}
use Rattle.session_model.specs.declared.sessions.ModLine.TheVariants.{Take, Build}
use Rattle.session_model.specs.declared.sessions.SessionKind.TheVariants as kinds
use Rattle.session_model.specs.Lines.{lines_in, words_in, number_in, hex_bytes}
use Rattle.session_model.specs.Statements.{reading_of}
use Rattle.session_model.specs.Sessions.{session_of, line_fault, SesFault}
use Rattle.session_model.specs.FailingPairs.{failing_pairs}
use Rattle.session_model.specs.Merging.{merge_of, state_after_items}
use Rattle.session_model.specs.Transcript.{Transcript}
use Rattle.std.specs.Fmt.{digits}
use Rattle.answer_model.specs.RunAnswer.{asked_session}
use Rattle.answer_model.specs.Items.{module_file}
use Rattle.answer_model.specs.WorkedRuns.{S, loaded, two_modules}
use Rattle.answer_model.proofs.worked.runs_are_said.Goals as goal

pub returns : goal.returns
unfolding lines_in words_in number_in hex_bytes reading_of session_of line_fault SesFault Legal LibraryFault failing_pairs merge_of state_after_items Transcript digits
returns c = record {
  empty = inr (record {
    session_is = record { modules = []; failing = []; scripts = [] };
    first = loaded [];
    read = (refl, (lit≤ tt, record { good = refl; says = refl }));
    others = [];
    says = record {
      sources = [];
      given = record { each = []; done = tt; calls_are = refl };
      fine = refl;
      runs = record { legal = tt; merge = record { processes = refl; entries = tt; fronts = tt; commands = tt; faults = tt; touches = tt; replies = tt } };
      told = refl;
    };
    calls_are = refl;
  });
  absent = inl (refl, record { before = []; here = asked_session S; after = []; are = refl; earlier = []; items = []; read = tt; call = load S (Err Absent); refused = (refl, refl); calls_are = refl });
  wrong = inl (
    refl,
    record {
      before = [];
      here = asked_session S;
      after = [];
      are = refl;
      earlier = [];
      items = [];
      read = tt;
      call = loaded (codes "took a.dll");
      refused = (
        refl,
        record {
          short = lit≤ tt;
          text = codes "line 1 Statement";
          fault = record { refusal = record { line = 1; kind = kinds.Statement }; first = refl; told = refl };
          line = refl;
        },
      );
      calls_are = refl;
    },
  );
  missing = inr (record {
    session_is = record { modules = Take (codes "a.dll") ∷ Build (codes "B") (codes "-") (codes "b.obj" ∷ []) ∷ []; failing = []; scripts = [] };
    first = loaded two_modules;
    read = (refl, (lit≤ tt, record { good = refl; says = refl }));
    others = load (codes "a.dll") (Err Absent) ∷ [];
    says = inl (record {
      before = [];
      here = Take (codes "a.dll");
      after = Build (codes "B") (codes "-") (codes "b.obj" ∷ []) ∷ [];
      are = refl;
      earlier = [];
      sources = [];
      done = tt;
      own = load (codes "a.dll") (Err Absent) ∷ [];
      stopped = inl (record {
        before = [];
        here = record { kind = module_file; name = codes "a.dll" };
        after = [];
        are = refl;
        earlier = [];
        items = [];
        read = tt;
        call = load (codes "a.dll") (Err Absent);
        refused = (refl, refl);
        calls_are = refl;
      });
      calls_are = refl;
    });
    calls_are = refl;
  });
  calls = (
    record { modules = Take (codes "a.dll") ∷ Build (codes "B") (codes "-") (codes "b.obj" ∷ []) ∷ []; failing = []; scripts = [] },
    (refl, (lit≤ tt, record { good = refl; says = refl })),
    (refl, tt),
  );
}
