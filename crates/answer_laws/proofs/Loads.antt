-- What loads give over told contents: the same calls, and the same items or the same refusal.
use Rattle.std.proofs.Common.{◌≡◌, ◌⊎◌, ℕ, List, [], ◌∷◌, ◌++◌, inl, inr, refl, ap, sym, subst, ◌∙◌, cond, Bool, true, false, nat_le, length, arith}
use Rattle.std.specs.Prelude.{◌≤◌, Result, Ok, Err, Option, None, Some}
use Rattle.std.specs.List.{AllByRecursion}
use Rattle.std.proofs.lemmas.Bool.Decides.{nat_tests}
use Rattle.lx_bytes.specs.LittleEndian.{AreBytes}
use Rattle.lx_ports.specs.Calls.{Call, load, save}
use Rattle.lx_ports.specs.Files.{Contents}
use Rattle.lx_ports.specs.declared.files.LoadFault.{LoadFault}
use Rattle.lx_ports.specs.declared.files.LoadFault.TheVariants as fault
use Rattle.answer_model.specs.Answer.{loaded, IsSound}
use Rattle.answer_model.specs.FileLine.{file_line}
use Rattle.answer_model.specs.Loading.{AreRead, IsLoadWith, IsRead, IsRefused, IsStopped, ReadsAnswer, RefusesAnswer, file_limit}
use Rattle.answer_model.specs.AskedFiles.{Asked}
use Rattle.answer_model.specs.Items.{Item, form_of}
use Rattle.answer_model.specs.declared.said.Said.{Said}
use Rattle.answer_laws.specs.AnswerLaws.{HasBytes}
use Rattle.answer_laws.proofs.Items.{item_one, fault_one, item_not_fault, item_or_fault, IsEither}

-- ---- lists

pub ap2 : {A B C : Type 0} (f : A → B → C) {a b : A} {c d : B} → a ≡ b → c ≡ d → f a c ≡ f b d
ap2 f {a = a} {b = b} {c = c} {d = d} p q = ap (λ x. f x c) p ∙ ap (λ y. f b y) q

abbrev pub AreSound : Contents → List Call → Type 0
AreSound contents calls = AllByRecursion (IsSound contents) calls

pub sound_front : (contents : Contents) (xs ys : List Call) → AreSound contents (xs ++ ys) → AreSound contents xs
sound_front contents [] ys h = tt
sound_front contents (x ∷ xs) ys h = (h.0, sound_front contents xs ys h.1)

pub sound_back : (contents : Contents) (xs ys : List Call) → AreSound contents (xs ++ ys) → AreSound contents ys
sound_back contents [] ys h = h
sound_back contents (x ∷ xs) ys h = sound_back contents xs ys h.1

pub sound_both : (contents : Contents) (xs ys : List Call) → AreSound contents xs → AreSound contents ys → AreSound contents (xs ++ ys)
sound_both contents [] ys h k = k
sound_both contents (x ∷ xs) ys h k = (h.0, sound_both contents xs ys h.1 k)

-- ---- one load

abbrev pub told : Contents → Asked → Result (List ℕ) LoadFault
told contents a = loaded (contents a.name)

-- A sound load of the file has the answer that its contents give.
pub record IsTold (contents : Contents) (a : Asked) (call : Call) (P : Result (List ℕ) LoadFault → Type 0) : Type 0 where
  pub call_is : call ≡ load a.name (told contents a)
  pub holds : P (told contents a)

pub told_load : (contents : Contents) (a : Asked) (call : Call) (P : Result (List ℕ) LoadFault → Type 0) → IsSound contents call → IsLoadWith a call P → IsTold contents a call P
told_load contents a (load name answer) P sound h =
    let named : name ≡ a.name = h.0 in
    let same : answer ≡ told contents a = sound ∙ ap (λ n. loaded (contents n)) named in
    record { call_is = ap2 load named same; holds = subst P same h.1 }
told_load contents a (save name bytes answer) P sound h = absurd h

reads_one : (a : Asked) (r : Result (List ℕ) LoadFault) (i j : Item) → ReadsAnswer a r i → ReadsAnswer a r j → i ≡ j
reads_one a (Ok bytes) i j h k = item_one (form_of a.kind bytes) bytes i j h.1 k.1
reads_one a (Err f) i j h k = absurd h

refuses_one : (a : Asked) (r : Result (List ℕ) LoadFault) (s t : Said) → RefusesAnswer a r s → RefusesAnswer a r t → s ≡ t
refuses_one a (Ok bytes) s t h k =
    h.line ∙ (ap (λ text. record { status = 1; text = file_line a.name text }) (fault_one (form_of a.kind bytes) bytes h.text k.text h.fault k.fault) ∙ sym k.line)
refuses_one a (Err fault.Absent) s t h k = h ∙ sym k
refuses_one a (Err fault.TooLong) s t h k = h ∙ sym k
refuses_one a (Err fault.Failed) s t h k = h ∙ sym k
refuses_one a (Err fault.NoMemory) s t h k = absurd h

read_not_refused : (a : Asked) (r : Result (List ℕ) LoadFault) (i : Item) (s : Said) → ReadsAnswer a r i → RefusesAnswer a r s → ⊥
read_not_refused a (Ok bytes) i s h k = item_not_fault (form_of a.kind bytes) bytes i k.text h.1 k.fault
read_not_refused a (Err f) i s h k = absurd h

pub record SameRead (c d : Call) (i j : Item) : Type 0 where
  pub call : c ≡ d
  pub item : i ≡ j

pub read_once : (contents : Contents) (a : Asked) (c d : Call) (i j : Item) → IsSound contents c → IsSound contents d → IsRead a c i → IsRead a d j → SameRead c d i j
read_once contents a c d i j sc sd h k =
    let left = told_load contents a c (λ r. ReadsAnswer a r i) sc h in
    let right = told_load contents a d (λ r. ReadsAnswer a r j) sd k in
    record { call = left.call_is ∙ sym right.call_is; item = reads_one a (told contents a) i j left.holds right.holds }

pub record SameRefusal (c d : Call) (s t : Said) : Type 0 where
  pub call : c ≡ d
  pub said : s ≡ t

pub refused_once : (contents : Contents) (a : Asked) (c d : Call) (s t : Said) → IsSound contents c → IsSound contents d → IsRefused a c s → IsRefused a d t → SameRefusal c d s t
refused_once contents a c d s t sc sd h k =
    let left = told_load contents a c (λ r. RefusesAnswer a r s) sc h in
    let right = told_load contents a d (λ r. RefusesAnswer a r t) sd k in
    record { call = left.call_is ∙ sym right.call_is; said = refuses_one a (told contents a) s t left.holds right.holds }

pub read_or_refused : (contents : Contents) (a : Asked) (c d : Call) (i : Item) (s : Said) → IsSound contents c → IsSound contents d → IsRead a c i → IsRefused a d s → ⊥
read_or_refused contents a c d i s sc sd h k =
    let left = told_load contents a c (λ r. ReadsAnswer a r i) sc h in
    let right = told_load contents a d (λ r. RefusesAnswer a r s) sd k in
    read_not_refused a (told contents a) i s left.holds right.holds

-- ---- all loads

pub record SameReads (cs ds : List Call) (is js : List Item) : Type 0 where
  pub calls : cs ≡ ds
  pub items : is ≡ js

pub reads_once : (contents : Contents) (asked : List Asked) (cs ds : List Call) (is js : List Item) → AreSound contents cs → AreSound contents ds → AreRead asked cs is
    → AreRead asked ds js → SameReads cs ds is js
reads_once contents [] [] [] [] [] sc sd h k = record { calls = refl; items = refl }
reads_once contents (a ∷ asked) (c ∷ cs) (d ∷ ds) (i ∷ is) (j ∷ js) sc sd h k =
    let first = read_once contents a c d i j sc.0 sd.0 h.0 k.0 in
    let rest = reads_once contents asked cs ds is js sc.1 sd.1 h.1 k.1 in
    record { calls = ap2 (λ x xs. x ∷ xs) first.call rest.calls; items = ap2 (λ x xs. x ∷ xs) first.item rest.items }
reads_once contents (a ∷ asked) (c ∷ cs) ds (i ∷ is) js sc sd h k = absurd k
reads_once contents [] [] ds [] js sc sd h k = absurd k
reads_once contents asked cs ds is js sc sd h k = absurd h

-- Loads up to the first file that is refused, file by file.
abbrev pub Stops : List Asked → List Call → Said → Type 0
Stops [] calls said = ⊥
Stops (a ∷ asked) [] said = ⊥
Stops (a ∷ asked) (call ∷ calls) said = ((calls ≡ []) × IsRefused a call said) ⊎ ((item : Item) × IsRead a call item × Stops asked calls said)

stops_here : (before : List Asked) (here : Asked) (after : List Asked) (earlier : List Call) (items : List Item) (call : Call) (said : Said) → AreRead before earlier items
    → IsRefused here call said → Stops (before ++ here ∷ after) (earlier ++ call ∷ []) said
stops_here [] here after [] [] call said h k = inl (refl, k)
stops_here (b ∷ before) here after (c ∷ earlier) (i ∷ items) call said h k = inr (i, h.0, stops_here before here after earlier items call said h.1 k)
stops_here before here after earlier items call said h k = absurd h

pub stops : (asked : List Asked) (calls : List Call) (said : Said) → IsStopped asked calls said → Stops asked calls said
stops asked calls said h =
    subst (λ (p : List Asked × List Call). Stops p.0 p.1 said) (sym (ap2 (λ (x : List Asked) (y : List Call). (x, y)) h.are h.calls_are))
    (stops_here h.before h.here h.after h.earlier h.items h.call said h.read h.refused)

pub record SameStop (cs ds : List Call) (s t : Said) : Type 0 where
  pub calls : cs ≡ ds
  pub said : s ≡ t

pub stops_once : (contents : Contents) (asked : List Asked) (cs ds : List Call) (s t : Said) → AreSound contents cs → AreSound contents ds → Stops asked cs s → Stops asked ds t
    → SameStop cs ds s t
stops_once contents [] cs ds s t sc sd h k = absurd h
stops_once contents (a ∷ asked) [] ds s t sc sd h k = absurd h
stops_once contents (a ∷ asked) (c ∷ cs) [] s t sc sd h k = absurd k
stops_once contents (a ∷ asked) (c ∷ cs) (d ∷ ds) s t sc sd (inl h) (inl k) =
    let one = refused_once contents a c d s t sc.0 sd.0 h.1 k.1 in
    record { calls = ap2 (λ x xs. x ∷ xs) one.call (h.0 ∙ sym k.0); said = one.said }
stops_once contents (a ∷ asked) (c ∷ cs) (d ∷ ds) s t sc sd (inl h) (inr k) = absurd (read_or_refused contents a d c k.0 s sd.0 sc.0 k.1 h.1)
stops_once contents (a ∷ asked) (c ∷ cs) (d ∷ ds) s t sc sd (inr h) (inl k) = absurd (read_or_refused contents a c d h.0 t sc.0 sd.0 h.1 k.1)
stops_once contents (a ∷ asked) (c ∷ cs) (d ∷ ds) s t sc sd (inr h) (inr k) =
    let first = read_once contents a c d h.0 k.0 sc.0 sd.0 h.1 k.1 in
    let rest = stops_once contents asked cs ds s t sc.1 sd.1 h.2 k.2 in
    record { calls = ap2 (λ x xs. x ∷ xs) first.call rest.calls; said = rest.said }

pub stops_or_reads : (contents : Contents) (asked : List Asked) (cs ds : List Call) (s : Said) (js : List Item) → AreSound contents cs → AreSound contents ds → Stops asked cs s
    → AreRead asked ds js → ⊥
stops_or_reads contents [] cs ds s js sc sd h k = absurd h
stops_or_reads contents (a ∷ asked) [] ds s js sc sd h k = absurd h
stops_or_reads contents (a ∷ asked) (c ∷ cs) (d ∷ ds) s (j ∷ js) sc sd (inl h) k = read_or_refused contents a d c j s sd.0 sc.0 k.0 h.1
stops_or_reads contents (a ∷ asked) (c ∷ cs) (d ∷ ds) s (j ∷ js) sc sd (inr h) k = stops_or_reads contents asked cs ds s js sc.1 sd.1 h.2 k.1
stops_or_reads contents (a ∷ asked) (c ∷ cs) ds s js sc sd h k = absurd k

-- ---- there are such loads

abbrev pub IsTried : Asked → Result (List ℕ) LoadFault → Type 0
IsTried a r = ((i : Item) × ReadsAnswer a r i) ⊎ ((s : Said) × RefusesAnswer a r s)

tried_bytes : (a : Asked) (bytes : List ℕ) → length bytes ≤ file_limit → IsEither (form_of a.kind bytes) bytes → IsTried a (Ok bytes)
tried_bytes a bytes short (inl h) = inl (h.0, (short, h.1))
tried_bytes a bytes short (inr h) =
    inr (record { status = 1; text = file_line a.name h.0 }, record { short = short; text = h.0; fault = h.1; line = refl })

tried_length : (a : Asked) (bytes : List ℕ) (b : Bool) → nat_le (length bytes) file_limit ≡ b → AreBytes bytes → IsTried a (cond b (Ok bytes) (Err fault.TooLong))
tried_length a bytes true is h = tried_bytes a bytes (grind (arith, nat_tests)) (item_or_fault (form_of a.kind bytes) bytes h)
tried_length a bytes false is h = inr (_, refl)

tried : (a : Asked) (has : Option (List ℕ)) → ((bytes : List ℕ) → has ≡ Some bytes → AreBytes bytes) → IsTried a (loaded has)
tried a None h = inr (_, refl)
tried a (Some bytes) h = tried_length a bytes (nat_le (length bytes) file_limit) refl (h bytes refl)

-- The files are read, or stopped at, by sound calls.
pub data IsLoaded (contents : Contents) (asked : List Asked) : Type 0 where
  reads : (calls : List Call) (items : List Item) → AreSound contents calls → AreRead asked calls items → IsLoaded contents asked
  stopped : (calls : List Call) (said : Said) → AreSound contents calls → IsStopped asked calls said → IsLoaded contents asked

loaded_after : (contents : Contents) (a : Asked) (asked : List Asked) (i : Item) → ReadsAnswer a (told contents a) i → IsLoaded contents asked → IsLoaded contents (a ∷ asked)
loaded_after contents a asked i h (reads calls items sound read) = reads (load a.name (told contents a) ∷ calls) (i ∷ items) (refl, sound) ((refl, h), read)
loaded_after contents a asked i h (stopped calls said sound stop) =
    stopped (load a.name (told contents a) ∷ calls) said (refl, sound) (record {
      before = a ∷ stop.before;
      here = stop.here;
      after = stop.after;
      are = ap (λ xs. a ∷ xs) stop.are;
      earlier = load a.name (told contents a) ∷ stop.earlier;
      items = i ∷ stop.items;
      read = ((refl, h), stop.read);
      call = stop.call;
      refused = stop.refused;
      calls_are = ap (λ xs. load a.name (told contents a) ∷ xs) stop.calls_are;
    })

loaded_by : (contents : Contents) (a : Asked) (asked : List Asked) → IsTried a (told contents a) → IsLoaded contents asked → IsLoaded contents (a ∷ asked)
loaded_by contents a asked (inl h) rest = loaded_after contents a asked h.0 h.1 rest
loaded_by contents a asked (inr h) rest =
    stopped (load a.name (told contents a) ∷ []) h.0 (refl, tt) (record {
      before = [];
      here = a;
      after = asked;
      are = refl;
      earlier = [];
      items = [];
      read = tt;
      call = load a.name (told contents a);
      refused = (refl, h.1);
      calls_are = refl;
    })

pub all_loaded : (contents : Contents) → HasBytes contents → (asked : List Asked) → IsLoaded contents asked
all_loaded contents h [] = reads [] [] tt tt
all_loaded contents h (a ∷ asked) = loaded_by contents a asked (tried a (contents a.name) (λ bytes is. h a.name bytes is)) (all_loaded contents h asked)
