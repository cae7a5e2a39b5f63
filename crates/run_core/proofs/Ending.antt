-- How a session begins and ends.
use Rattle.std.proofs.Common.{◌≡◌, ℕ, zero, suc, ◌+◌, ◌<◌, ◌≤◌, ◌==◌, Bool, true, false, ◌||◌, List, [], ◌∷◌, length, map, zip, get_or, slice_get, Some, Result, Ok, Err, refl, sym, ◌∙◌, ap, subst, arith, min, ◌++◌, eq-eqb}
use Rattle.run_core.proofs.Words.{About, AllByRecursion, AreAll, AreMade, AreOf, Entry, ext_get_or, Failing, failing_in, failing_pairs, fixed_bytes, get_or-map, get_or-range_with_len, GoesOn, HaveRun, Holding, IfOk, is_among}
use Rattle.run_core.proofs.Words.{IsHistoryOf, IsNew, IsOf, IsRanOf, IsReady, IsRunOut, IsRunWhole, IsScript, Known, Legal, length-map, Library, lines_of, list_any, new_holding, NoMemory, numbers_of, pids, proc_of, ProcessView}
use Rattle.run_core.proofs.Words.{ProcState, Progress, ProgressBegins, Reached, run_in, Script, Session, task_with}
use Rattle.std.proofs.lemmas.Option.{get_or_from_slice_get, slice_get_within}
use Rattle.std.proofs.lemmas.Slice.Zip.{get_or-zip, length-zip}
use Rattle.atomic_table.specs.Seated.{TableId}
use Rattle.turn_lock.specs.Passes.{live_of}
use Rattle.session_model.specs.declared.sessions.ScriptLines.{ScriptLines}
use Rattle.session_model.specs.Runs.{IsRunOf, run_text}
use Rattle.session_model.specs.Transcript.{Transcript}
use Rattle.script_laws.specs.Ends.{HasCarriedOut, ScriptsAreRun}
use Rattle.run_core.specs.declared.tasks.Task.{Task}
use Rattle.run_core.specs.declared.session.Ran.{Ran}
use Rattle.std.proofs.lemmas.List.Elements.{All-from_recursion}
use Rattle.std.proofs.lemmas.List.Folds.{list_any_at}

-- ---- what holds of tasks that were run out, and of the history of their loader

-- ---- one task

not_starved : (ts : List Task) (k : ℕ) (d : Task) → list_any (λ (t : Task). t.starved) ts ≡ false → k < length ts → (get_or ts k d).starved ≡ false
not_starved [] k d none low = absurd (let wrong : ⊥ = omega arith in wrong)
not_starved (t ∷ ts) zero d none low = first t.starved (list_any (λ (u : Task). u.starved) ts) none
  where
    first : (a b : Bool) → a || b ≡ false → a ≡ false
    first true b h = h
    first false b h = refl
not_starved (t ∷ ts) (suc k) d none low = not_starved ts k d (second t.starved (list_any (λ (u : Task). u.starved) ts) none) (omega arith)
  where
    second : (a b : Bool) → a || b ≡ false → b ≡ false
    second true b h = cc
    second false b h = h

-- a task that was run out, with the script from which it began
record AtEnd (loader : TableId) (lib : Library) (failing : Failing) (n k : ℕ) (s : Script) (t : Task) : Type 0 where
  of : IsOf loader t.proc
  pid : t.proc.known.pid ≡ k + 1
  live : t.proc.known.live ≡ live_of k n
  number : t.number ≡ s.pid
  reached : Reached lib failing t.proc t.lines s.commands

at_end : (loader : TableId) (lib : Library) (failing : Failing) (n k : ℕ) (p : ProcState) (s : Script) (t : Task) → IsNew loader (record { library = lib; failing = failing }) n k p →
    IsRunOut loader (task_with (p, s)) t → t.starved ≡ false → AtEnd loader lib failing n k s t
at_end loader lib failing n k p s t new out fed =
    let whole : IsRunWhole loader (task_with (p, s)) t = out.whole fed in
    let library : p.view.library ≡ lib = ap (λ (v : ProcessView). v.library) new.2 in
    let fails : failing_in p.known.subject ≡ failing = ap (λ (a : Known Entry About). failing_in a.subject) new.1 in
    record {
      of = whole.of;
      pid = whole.same.number ∙ ap (λ (a : Known Entry About). a.pid) new.1;
      live = whole.same.live ∙ ap (λ (a : Known Entry About). a.live) new.1;
      number = out.number;
      reached =
          subst (λ f. Reached lib f t.proc t.lines s.commands) fails (subst (λ l. Reached l (failing_in p.known.subject) t.proc t.lines s.commands) library whole.reached);
    }

pub began_as : (procs : List ProcState) (scripts : List Script) (k : ℕ) (d : Task) → k < length procs → k < length scripts →
    get_or (map task_with (zip procs scripts)) k d ≡ task_with (get_or procs k d.proc, get_or scripts k (record { pid = d.number; commands = d.commands }))
began_as procs scripts k d low high =
    get_or-map task_with (zip procs scripts) k (d.proc, record { pid = d.number; commands = d.commands }) d (within procs scripts k low high)
    ∙ ap task_with (get_or-zip procs scripts k (d.proc, record { pid = d.number; commands = d.commands }) low high)
  where
    within : (ps : List ProcState) (ss : List Script) (k : ℕ) → k < length ps → k < length ss → k < length (zip ps ss)
    within [] ss k low high = low
    within (p ∷ ps) [] k low high = high
    within (p ∷ ps) (s ∷ ss) zero low high = omega arith
    within (p ∷ ps) (s ∷ ss) (suc k) low high = (let deeper = within ps ss k (omega (arith, low)) (omega (arith, high)) in omega (arith, deeper))

all_at_end : (loader : TableId) (lib : Library) (failing : Failing) (scripts : List Script) (ts : List Task) → HaveRun loader lib failing scripts ts → list_any (λ (t : Task). t.starved) ts ≡ false →
    (k : ℕ) (d : Task) → k < length ts → AtEnd loader lib failing (length scripts) k (get_or scripts k (record { pid = d.number; commands = d.commands })) (get_or ts k d)
all_at_end loader lib failing scripts ts run none k d low =
    let high : k < length scripts = subst (λ n. k < n) run.out.count low in
    let among : k < length run.procs = subst (λ n. k < n) (sym run.made.count) high in
    at_end loader lib failing (length scripts) k (get_or run.procs k d.proc) (get_or scripts k (record { pid = d.number; commands = d.commands })) (get_or ts k d) (run.made.each k d.proc high)
    (subst (λ b. IsRunOut loader b (get_or ts k d)) (began_as run.procs scripts k d among high) (run.out.each k d low)) (not_starved ts k d none low)

-- ---- all processes

proc_at : (ts : List Task) (k : ℕ) (p : ProcState) → k < length (map proc_of ts) →
    get_or (map proc_of ts) k p ≡ (get_or ts k (record { number = 0; proc = p; commands = []; lines = []; starved = false })).proc
proc_at ts k p low = get_or-map proc_of ts k (record { number = 0; proc = p; commands = []; lines = []; starved = false }) p (subst (λ n. k < n) (length-map ts proc_of) low)

module _ (loader : TableId) (lib : Library) (failing : Failing) (scripts : List Script) (ts : List Task) (run : HaveRun loader lib failing scripts ts)
    (none : list_any (λ (t : Task). t.starved) ts ≡ false) where
  end_of : (k : ℕ) (p : ProcState) → k < length (map proc_of ts) →
      AtEnd loader lib failing (length scripts) k (get_or scripts k (record { pid = 0; commands = [] })) (get_or ts k (record { number = 0; proc = p; commands = []; lines = []; starved = false }))
  end_of k p low =
      all_at_end loader lib failing scripts ts run none k (record { number = 0; proc = p; commands = []; lines = []; starved = false }) (subst (λ n. k < n) (length-map ts proc_of) low)

  pub are_of : AreOf loader (map proc_of ts)
  are_of k p low = subst (IsOf loader) (sym (proc_at ts k p low)) (end_of k p low).of

  many : length (map proc_of ts) ≡ length scripts
  many = length-map ts proc_of ∙ run.out.count

  pub are_all : AreAll (map proc_of ts)
  are_all = record {
    some = subst (λ n. 0 < n) (sym many) run.some;
    numbers = λ k p low. ap (λ (s : ProcState). s.known.pid) (proc_at ts k p low) ∙ (end_of k p low).pid;
    live = λ p.
        (let low : 0 < length (map proc_of ts) = subst (λ n. 0 < n) (sym many) run.some in
        ap (λ (s : ProcState). s.known.live) (proc_at ts 0 p low) ∙ ((end_of 0 p low).live ∙ sym many));
  }

  -- ---- the history

  legal_of : (h : List Entry) → IsHistoryOf (map proc_of ts) h → (p : ProcState) → Legal lib failing (fixed_bytes lib) h
  legal_of h hist p =
      let low : 0 < length (map proc_of ts) = subst (λ n. 0 < n) (sym many) run.some in
      let q : ProcState = get_or (map proc_of ts) 0 p in
      let reached = (end_of 0 p low).reached in
      let library : q.view.library ≡ lib = ap (λ (s : ProcState). s.view.library) (proc_at ts 0 p low) ∙ reached.library in
      let fails : failing_in q.known.subject ≡ failing = ap (λ (s : ProcState). failing_in s.known.subject) (proc_at ts 0 p low) ∙ reached.fails in
      subst (λ f. Legal lib f (fixed_bytes lib) h) fails (subst (λ l. Legal l (failing_in q.known.subject) (fixed_bytes l) h) library (hist.legal p))

  numbers_are : numbers_of (map lines_of ts) ≡ map (λ (s : Script). s.pid) scripts
  numbers_are =
      let same_length : length (numbers_of (map lines_of ts)) ≡ length (map (λ (s : Script). s.pid) scripts) =
      length-map (map lines_of ts) (λ (l : ScriptLines). l.pid) ∙ (length-map ts lines_of ∙ (run.out.count ∙ sym (length-map scripts (λ (s : Script). s.pid))))
      in
      ext_get_or 0 (numbers_of (map lines_of ts)) (map (λ (s : Script). s.pid) scripts) same_length
      (λ k low.
      let there : k < length ts = subst (λ n. k < n) (length-map (map lines_of ts) (λ (l : ScriptLines). l.pid) ∙ length-map ts lines_of) low in
      one k there)
    where
      one : (k : ℕ) → k < length ts → get_or (numbers_of (map lines_of ts)) k 0 ≡ get_or (map (λ (s : Script). s.pid) scripts) k 0
      one k there = one_with k there (get_or run.procs 0 (first_of run.procs (subst (λ n. 0 < n) (sym run.made.count) run.some)))
        where
          first_of : (ps : List ProcState) → 0 < length ps → ProcState
          first_of [] low = absurd (let wrong : ⊥ = omega (arith, low) in wrong)
          first_of (p ∷ ps) low = p

          one_with : (k : ℕ) → k < length ts → ProcState → get_or (numbers_of (map lines_of ts)) k 0 ≡ get_or (map (λ (s : Script). s.pid) scripts) k 0
          one_with k there p =
              let d : Task = record { number = 0; proc = p; commands = []; lines = []; starved = false } in
              let s : Script = record { pid = 0; commands = [] } in
              let end = all_at_end loader lib failing scripts ts run none k d there in
              get_or-map (λ (l : ScriptLines). l.pid) (map lines_of ts) k (lines_of d) 0 (subst (λ n. k < n) (sym (length-map ts lines_of)) there)
              ∙ (ap (λ (l : ScriptLines). l.pid) (get_or-map lines_of ts k d (lines_of d) there)
              ∙ (end.number ∙ sym (get_or-map (λ (z : Script). z.pid) scripts k s 0 (subst (λ n. k < n) run.out.count there))))

  carried : (h : List Entry) → IsHistoryOf (map proc_of ts) h → ProcState → (i : ℕ) (lines : ScriptLines) (script : Script) → slice_get (map lines_of ts) i ≡ Some lines →
      slice_get scripts i ≡ Some script → HasCarriedOut lib failing (fixed_bytes lib) (1 + i) h lines.lines script.commands
  carried h hist p i lines script at_lines at_script =
      let d : Task = record { number = 0; proc = p; commands = []; lines = []; starved = false } in
      let s : Script = record { pid = 0; commands = [] } in
      let there : i < length ts = subst (λ n. i < n) (length-map ts lines_of) (slice_get_within (map lines_of ts) i lines at_lines) in
      let low : i < length (map proc_of ts) = subst (λ n. i < n) (sym (length-map ts proc_of)) there in
      let t : Task = get_or ts i d in
      let end = all_at_end loader lib failing scripts ts run none i d there in
      let goes : GoesOn h t.proc = subst (GoesOn h) (proc_at ts i p low) (hist.each i p low) in
      let lines_is : lines_of t ≡ lines = sym (get_or-map lines_of ts i d (lines_of d) there) ∙ get_or_from_slice_get (map lines_of ts) i lines (lines_of d) at_lines in
      let script_is : get_or scripts i s ≡ script = get_or_from_slice_get scripts i script s at_script in
      let pid : t.proc.known.pid ≡ 1 + i = end.pid ∙ turned i in
      subst (λ (l : ScriptLines). HasCarriedOut lib failing (fixed_bytes lib) (1 + i) h l.lines script.commands) lines_is
      (subst (λ (z : Script). HasCarriedOut lib failing (fixed_bytes lib) (1 + i) h t.lines z.commands) script_is
      (record {
        view = t.proc.view.holding;
        number = end.reached.number ∙ pid;
        shown = t.proc.known.seen;
        rest = goes.more;
        begins = goes.seen;
        others = subst (λ n. AllByRecursion (λ (x : Entry). (n == x.pid) ≡ false) goes.more) pid goes.others;
        progress = end.reached.progress;
      }))
    where
      turned : (i : ℕ) → i + 1 ≡ 1 + i
      turned i = omega arith

  pub are_run : ScriptsAreRun → (h : List Entry) → IsHistoryOf (map proc_of ts) h → ProcState → IsRunOf lib failing (fixed_bytes lib) scripts (record { history = h; steady = map lines_of ts })
  are_run law h hist p =
      law lib failing (fixed_bytes lib) h (map lines_of ts) scripts (legal_of h hist p) numbers_are
      (subst (λ n. AllByRecursion (λ (x : Entry). (1 ≤ x.pid) × (x.pid ≤ n)) h) many hist.nobody) (carried h hist p)

  pub finished : ScriptsAreRun → (h : List Entry) (ps : List ProcState) (steady : List ScriptLines) → ps ≡ map proc_of ts → steady ≡ map lines_of ts → IsHistoryOf ps h →
      IsRunOf lib failing (fixed_bytes lib) scripts (record { history = h; steady = steady })
  finished law h ps steady procs_are lines_are hist =
      subst (λ l. IsRunOf lib failing (fixed_bytes lib) scripts (record { history = h; steady = l })) (sym lines_are)
      (are_run law h (subst (λ l. IsHistoryOf l h) procs_are hist) (first_of run.procs (subst (λ n. 0 < n) (sym run.made.count) run.some)))
    where
      first_of : (qs : List ProcState) → 0 < length qs → ProcState
      first_of [] low = absurd (let wrong : ⊥ = omega (arith, low) in wrong)
      first_of (p ∷ qs) low = p

pub fed : (xs ts : List Task) (b : Bool) → xs ≡ ts → b ≡ list_any (λ (t : Task). t.starved) xs → b ≡ false → list_any (λ (t : Task). t.starved) ts ≡ false
fed xs ts b same is none = ap (list_any (λ (t : Task). t.starved)) (sym same) ∙ (sym is ∙ none)

pub printed : (lib : Library) (text : List ℕ) (h k : List Entry) (s r : List ScriptLines) → text ≡ Transcript lib k r → k ≡ h → r ≡ s → text ≡ Transcript lib h s
printed lib text h k s r is history steady = is ∙ (ap (λ l. Transcript lib l r) history ∙ ap (Transcript lib h) steady)

-- ---- a run that was told

pub ran_with : (r : Result Ran NoMemory) (lib other : Library) (failing : Failing) (scripts : List Script) (h : List Entry) (steady : List ScriptLines) → other ≡ lib →
    IfOk r (λ ran. ran.closed ≡ h) → IfOk r (λ ran. ran.steady ≡ steady) → IfOk r (λ ran. ran.text ≡ run_text other (run_in ran)) →
    IsRunOf lib failing (fixed_bytes lib) scripts (record { history = h; steady = steady }) → IfOk r (λ ran. IsRanOf lib failing scripts ran)
ran_with (Ok ran) lib other failing scripts h steady same closed lines text runs = record {
  runs =
      subst (λ x. IsRunOf lib failing (fixed_bytes lib) scripts (record { history = x; steady = ran.steady })) (sym closed)
      (subst (λ l. IsRunOf lib failing (fixed_bytes lib) scripts (record { history = h; steady = l })) (sym lines) runs);
  text = subst (λ l. ran.text ≡ run_text l (run_in ran)) same text;
}
ran_with (Err why) lib other failing scripts h steady same closed lines text runs = tt

-- the same of all scripts and failing pairs that are as is asked
pub ran_if : (r : Result Ran NoMemory) (lib : Library) (h : List Entry) (steady : List ScriptLines) (Asked : Failing → List Script → Type 0) →
    IfOk r (λ ran. ran.closed ≡ h) → IfOk r (λ ran. ran.steady ≡ steady) → IfOk r (λ ran. ran.text ≡ run_text lib (run_in ran)) →
    ((failing : Failing) (scripts : List Script) → Asked failing scripts → IsRunOf lib failing (fixed_bytes lib) scripts (record { history = h; steady = steady })) →
    IfOk r (λ ran. (failing : Failing) (scripts : List Script) → Asked failing scripts → IsRanOf lib failing scripts ran)
ran_if (Ok ran) lib h steady Asked closed lines text runs =
    λ failing scripts asked. ran_with (Ok ran) lib lib failing scripts h steady refl closed lines text (runs failing scripts asked)
ran_if (Err why) lib h steady Asked closed lines text runs = tt

-- ---- the tasks of a session before they run, and the run of no scripts

-- ---- process numbers

among_pids : (k : ℕ) → k < 16 → is_among pids (k + 1) ≡ true
among_pids k low = list_any_at (λ j. j == k + 1) pids k 0 low (ap (λ j. j == k + 1) (get_or-range_with_len 1 16 k 0 low) ∙ eq-eqb (1 + k) (k + 1) (omega arith))

-- ---- a new process

new_reached : ProgressBegins → (loader : TableId) (about : About) (n k : ℕ) (p : ProcState) → IsNew loader about n k p → k < 16 → Reached p.view.library (failing_in p.known.subject) p [] []
new_reached begins loader about n k p new low =
    let pid : p.known.pid ≡ k + 1 = ap (λ (a : Known Entry About). a.pid) new.1 in
    let seen : p.known.seen ≡ [] = ap (λ (a : Known Entry About). a.seen) new.1 in
    let holding : p.view.holding ≡ new_holding about.library (k + 1) = ap (λ (v : ProcessView). v.holding) new.2 in
    let library : p.view.library ≡ about.library = ap (λ (v : ProcessView). v.library) new.2 in
    let failing : Failing = failing_in p.known.subject in
    let first : Progress about.library failing (fixed_bytes about.library) (new_holding about.library (k + 1)) [] [] [] =
    begins about.library failing (fixed_bytes about.library) (k + 1) (among_pids k low)
    in
    let second : Progress about.library failing (fixed_bytes about.library) p.view.holding p.known.seen [] [] =
    subst (λ v. Progress about.library failing (fixed_bytes about.library) v p.known.seen [] []) (sym holding)
    (subst (λ h. Progress about.library failing (fixed_bytes about.library) (new_holding about.library (k + 1)) h [] []) (sym seen) first)
    in
    record {
      library = refl;
      fails = refl;
      number = ap (λ (v : Holding). v.pid) holding ∙ sym pid;
      progress = subst (λ l. Progress l failing (fixed_bytes l) p.view.holding p.known.seen [] []) (sym library) second;
    }

new_ready : ProgressBegins → (loader : TableId) (about : About) (n k : ℕ) (p : ProcState) (s : Script) → IsNew loader about n k p → IsScript s → k < 16 → IsReady loader (task_with (p, s))
new_ready begins loader about n k p s new script low = record {
  of = new.0;
  drawn = ap (λ (a : Known Entry About). a.drawn) new.1;
  reached = new_reached begins loader about n k p new low;
  lines = refl;
  few = script.few;
  commands = script.commands;
}

-- ---- all tasks

module _ (loader : TableId) (lib : Library) (failing : Failing) (procs : List ProcState) (scripts : List Script)
    (made : AreMade loader (record { library = lib; failing = failing }) (length scripts) procs) where
  task_count : length (map task_with (zip procs scripts)) ≡ length scripts
  task_count = length-map (zip procs scripts) task_with ∙ (length-zip procs scripts ∙ (ap (λ n. min n (length scripts)) made.count ∙ same (length scripts)))
    where
      same : (n : ℕ) → min n n ≡ n
      same n = omega arith

  pub tasks_some : (ts : List Task) → ts ≡ map task_with (zip procs scripts) → 0 < length scripts → 0 < length ts
  tasks_some ts is some = subst (λ n. 0 < n) (sym (ap length is ∙ task_count)) some

  pub tasks_ready : ProgressBegins → AllByRecursion IsScript scripts → length scripts ≤ 16 → (ts : List Task) → ts ≡ map task_with (zip procs scripts) → (k : ℕ) (d : Task) → k < length ts →
      IsReady loader (get_or ts k d)
  tasks_ready begins all few ts is k d low =
      let high : k < length scripts = subst (λ n. k < n) (ap length is ∙ task_count) low in
      let among : k < length procs = subst (λ n. k < n) (sym made.count) high in
      let s : Script = record { pid = d.number; commands = d.commands } in
      let small : k < 16 = omega (arith, high, few) in
      subst (λ (t : Task). IsReady loader t) (sym (ap (λ us. get_or us k d) is ∙ began_as procs scripts k d among high))
      (new_ready begins loader (record { library = lib; failing = failing }) (length scripts) k (get_or procs k d.proc) (get_or scripts k s) (made.each k d.proc high)
      (All-from_recursion IsScript scripts all k s high) small)

  pub tasks_run : (ts us : List Task) → ts ≡ map task_with (zip procs scripts) → 0 < length scripts → length us ≡ length ts →
      ((k : ℕ) (d : Task) → k < length ts → IsRunOut loader (get_or ts k d) (get_or us k d)) → HaveRun loader lib failing scripts us
  tasks_run ts us is some count out = record {
    procs = procs;
    made = made;
    some = some;
    out = record {
      count = count ∙ (ap length is ∙ task_count);
      each = λ k d low. subst (λ vs. IsRunOut loader (get_or vs k d) (get_or us k d)) is (out k d (subst (λ n. k < n) count low));
    };
  }

-- ---- no scripts

nobody_else : (pid : ℕ) (h : List Entry) → pid ≡ 1 → AllByRecursion (λ (x : Entry). (pid == x.pid) ≡ false) h → AllByRecursion (λ (x : Entry). (1 ≤ x.pid) × (x.pid ≤ 1)) h → h ≡ []
nobody_else pid [] one others nobody = refl
nobody_else pid (x ∷ h) one others nobody =
    let low : 1 ≤ x.pid = nobody.0.0 in
    let high : x.pid ≤ 1 = nobody.0.1 in
    let own : pid ≡ x.pid = one ∙ only x.pid low high in
    let wrong : true ≡ false = sym (eq-eqb pid x.pid own) ∙ others.0 in
    cc
  where
    only : (n : ℕ) → 1 ≤ n → n ≤ 1 → 1 ≡ n
    only n low high = omega (arith, low, high)

pub nothing_run : ScriptsAreRun → (loader : TableId) (lib : Library) (failing : Failing) (procs : List ProcState) (h : List Entry) (steady : List ScriptLines) →
    AreMade loader (record { library = lib; failing = failing }) 1 procs → IsHistoryOf procs h → steady ≡ [] → IsRunOf lib failing (fixed_bytes lib) [] (record { history = h; steady = steady })
nothing_run law loader lib failing [] h steady made hist is = (let none : 0 ≡ 1 = made.count in absurd (let wrong : ⊥ = omega (arith, none) in wrong))
nothing_run law loader lib failing (p ∷ ps) h steady made hist is =
    let new : IsNew loader (record { library = lib; failing = failing }) 1 0 p = made.each 0 p (omega arith) in
    let goes : GoesOn h p = hist.each 0 p (omega arith) in
    let pid : p.known.pid ≡ 1 = ap (λ (a : Known Entry About). a.pid) new.1 in
    let seen : p.known.seen ≡ [] = ap (λ (a : Known Entry About). a.seen) new.1 in
    let more : h ≡ goes.more = goes.seen ∙ ap (λ l. l ++ goes.more) seen in
    let within : AllByRecursion (λ (x : Entry). (1 ≤ x.pid) × (x.pid ≤ 1)) h = subst (λ n. AllByRecursion (λ (x : Entry). (1 ≤ x.pid) × (x.pid ≤ n)) h) made.count hist.nobody in
    let none : h ≡ [] = more ∙ nobody_else p.known.pid goes.more pid goes.others (subst (λ l. AllByRecursion (λ (x : Entry). (1 ≤ x.pid) × (x.pid ≤ 1)) l) more within) in
    let library : p.view.library ≡ lib = ap (λ (v : ProcessView). v.library) new.2 in
    let fails : failing_in p.known.subject ≡ failing = ap (λ (a : Known Entry About). failing_in a.subject) new.1 in
    let legal : Legal lib failing (fixed_bytes lib) h =
    subst (λ f. Legal lib f (fixed_bytes lib) h) fails (subst (λ l. Legal l (failing_in p.known.subject) (fixed_bytes l) h) library (hist.legal p))
    in
    subst (λ s. IsRunOf lib failing (fixed_bytes lib) [] (record { history = h; steady = s })) (sym is)
    (law lib failing (fixed_bytes lib) h [] [] legal refl (subst (λ l. AllByRecursion (λ (x : Entry). (1 ≤ x.pid) × (x.pid ≤ 0)) l) (sym none) tt) (λ i lines script at_lines at_script. cc))

-- ---- under other names

pub made_as : (loader : TableId) (about : About) (n m : ℕ) (ps : List ProcState) → n ≡ m → AreMade loader about n ps → AreMade loader about m ps
made_as loader about n m ps same made = subst (λ k. AreMade loader about k ps) same made

pub not_empty : (n : ℕ) (b : Bool) → b ≡ (n == 0) → b ≡ false → 0 < n
not_empty zero b is none = (let wrong : true ≡ false = sym is ∙ none in cc)
not_empty (suc n) b is none = omega arith

pub ran_as : (r : Result Ran NoMemory) (lib other : Library) (failing : Failing) (scripts listed : List Script) (loader : TableId) (tasks : List Task) → other ≡ lib → listed ≡ scripts →
    IfOk r (λ ran. (f : Failing) (s : List Script) → HaveRun loader other f s tasks → IsRanOf other f s ran) → HaveRun loader other failing listed tasks →
    IfOk r (λ ran. IsRanOf lib failing scripts ran)
ran_as (Ok ran) lib other failing scripts listed loader tasks same is ends run =
    subst (λ l. IsRanOf l failing scripts ran) same (subst (λ s. IsRanOf other failing s ran) is (ends failing listed run))
ran_as (Err why) lib other failing scripts listed loader tasks same is ends run = tt

-- over the pairs that a session's lines say
pub pairs_said : (r : Result Ran NoMemory) (lib : Library) (failing : Failing) (s : Session) (scripts : List Script) → failing ≡ failing_pairs lib s → IfOk r (λ ran. IsRanOf lib failing scripts ran) →
    IfOk r (λ ran. IsRanOf lib (failing_pairs lib s) scripts ran)
pairs_said r lib failing s scripts is ran = subst (λ f. IfOk r (λ ran. IsRanOf lib f scripts ran)) is ran
