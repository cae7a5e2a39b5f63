-- Loads and readings, one after another.
use Rattle.std.proofs.Common.{◌≡◌, ℕ, List, [], ◌∷◌, ◌++◌, Option, Some, None, Result, Ok, Err, ◌∙◌, ap, sym, subst, refl, append_assoc}
use Rattle.std.specs.Prelude.{IfSome, IsErrAnd}
use Rattle.std.specs.List.{AllByRecursion}
use Rattle.lx_types.specs.declared.fail.Fail.{Fail}
use Rattle.lx_types.specs.declared.fail.Fail.TheVariants as fail
use Rattle.lx_types.proofs.Lists.{all_joined}
use Rattle.lx_ports.specs.Calls.{Call, load, save}
use Rattle.lx_ports.specs.Files.{Contents, FilesState, IsLoadOf}
use Rattle.lx_ports.specs.declared.files.LoadFault.{LoadFault}
use Rattle.answer_model.specs.declared.said.Said.{Said}
use Rattle.refusal_text.specs.declared.refused.Refused.{Refused}
use Rattle.refusal_text.specs.Refusals.{said_of}
use Rattle.answer_model.specs.Ends.{IsTold}
use Rattle.answer_model.specs.Loading.{AreBegun, AreRead, IsLoadWith, IsRead, IsStopped, ReadsAnswer, RefusesAnswer, file_limit}
use Rattle.answer_model.specs.AskedFiles.{Asked}
use Rattle.answer_model.specs.Items.{Item, Kind}
use Rattle.tool_read.specs.Readings.{ReadsLoad, asked, RefusedSo}
use Rattle.tool_read.specs.Steps.{AreLoads, GivesAll, IsOneLoad, ReadsAll, ReadsInTurn}

-- ---- loads

told_joined : (had : Option Contents) (xs ys : List Call) → IfSome had (λ c. AllByRecursion (IsTold c) xs) → IfSome had (λ c. AllByRecursion (IsTold c) ys)
    → IfSome had (λ c. AllByRecursion (IsTold c) (xs ++ ys))
told_joined None xs ys one two = tt
told_joined (Some c) xs ys one two = all_joined (IsTold c) xs ys one two

pub no_loads : (state : FilesState) → AreLoads [] state state
no_loads state = record { files = same state; told = nothing state.contents }
  where
    same : (state : FilesState) → state ≡ record { contents = state.contents; calls = state.calls ++ [] }
    same state = ap (λ (cs : List Call). record state { calls = cs }) (sym (nil state.calls))
      where
        nil : (cs : List Call) → cs ++ [] ≡ cs
        nil [] = refl
        nil (c ∷ cs) = ap (λ (t : List Call). c ∷ t) (nil cs)

    nothing : (had : Option Contents) → IfSome had (λ c. AllByRecursion (IsTold c) [])
    nothing None = tt
    nothing (Some c) = tt

pub one_load : (name : List ℕ) (answer : Result (List ℕ) LoadFault) (before now : FilesState) → IsOneLoad name answer before now → AreLoads (load name answer ∷ []) before now
one_load name answer before now is = record { files = is.files; told = alone before.contents is.told }
  where
    alone : (had : Option Contents) → IfSome had (λ c. IsLoadOf (c name) file_limit answer) → IfSome had (λ c. AllByRecursion (IsTold c) (load name answer ∷ []))
    alone None told = tt
    alone (Some c) told = (told, tt)

pub loads_joined : (xs ys : List Call) (before between now : FilesState) → AreLoads xs before between → AreLoads ys between now → AreLoads (xs ++ ys) before now
loads_joined xs ys before between now one two =
    let P : Option Contents → Type 0 = λ had. IfSome had (λ c. AllByRecursion (IsTold c) ys) in
    let same : between.contents ≡ before.contents = ap (λ (s : FilesState). s.contents) one.files in
    record {
      files = two.files
          ∙ ap (λ (s : FilesState). record { contents = s.contents; calls = s.calls ++ ys }) one.files
          ∙ ap (λ (cs : List Call). record { contents = before.contents; calls = cs }) (append_assoc before.calls xs ys);
      told = told_joined before.contents xs ys one.told (subst P same two.told);
    }

-- ---- files that are read, and then others

pub read_joined : (f g : List Asked) (xs ys : List Call) (is js : List Item) → AreRead f xs is → AreRead g ys js → AreRead (f ++ g) (xs ++ ys) (is ++ js)
read_joined [] g [] ys [] js one two = two
read_joined [] g [] ys (i ∷ is) js one two = absurd one
read_joined [] g (x ∷ xs) ys is js one two = absurd one
read_joined (a ∷ f) g [] ys is js one two = absurd one
read_joined (a ∷ f) g (x ∷ xs) ys [] js one two = absurd one
read_joined (a ∷ f) g (x ∷ xs) ys (i ∷ is) js one two = (one.0, read_joined f g xs ys is js one.1 two)

load_of : (a : Asked) (call : Call) (item : Item) → IsRead a call item → IsLoadWith a call (λ answer. Unit {0})
load_of a (load name answer) item is = (is.0, tt)
load_of a (save name bytes answer) item is = absurd is

begun_after : (a : Asked) (call : Call) (item : Item) (asked : List Asked) (calls : List Call) → IsRead a call item → AreBegun asked calls → AreBegun (a ∷ asked) (call ∷ calls)
begun_after a call item asked [] is begun = load_of a call item is
begun_after a call item asked (next ∷ calls) is begun = ((item, is), begun)

pub begun_joined : (f g : List Asked) (xs ys : List Call) (is : List Item) → AreRead f xs is → AreBegun g ys → AreBegun (f ++ g) (xs ++ ys)
begun_joined [] g [] ys [] one two = two
begun_joined [] g [] ys (i ∷ is) one two = absurd one
begun_joined [] g (x ∷ xs) ys is one two = absurd one
begun_joined (a ∷ f) g [] ys is one two = absurd one
begun_joined (a ∷ f) g (x ∷ xs) ys [] one two = absurd one
begun_joined (a ∷ f) g (x ∷ xs) ys (i ∷ is) one two = begun_after a x i (f ++ g) (xs ++ ys) one.0 (begun_joined f g xs ys is one.1 two)

pub begun_one : (a : Asked) (asked : List Asked) (answer : Result (List ℕ) LoadFault) → AreBegun (a ∷ asked) (load a.name answer ∷ [])
begun_one a asked answer = (refl, tt)

pub stopped_joined : (f g : List Asked) (xs ys : List Call) (is : List Item) (said : Said) → AreRead f xs is → IsStopped g ys said → IsStopped (f ++ g) (xs ++ ys) said
stopped_joined f g xs ys is said one two = record {
  before = f ++ two.before;
  here = two.here;
  after = two.after;
  are = ap (λ (t : List Asked). f ++ t) two.are ∙ sym (append_assoc f two.before (two.here ∷ two.after));
  earlier = xs ++ two.earlier;
  items = is ++ two.items;
  read = read_joined f two.before xs two.earlier is two.items one two.read;
  call = two.call;
  refused = two.refused;
  calls_are = ap (λ (t : List Call). xs ++ t) two.calls_are ∙ sym (append_assoc xs two.earlier (two.call ∷ []));
}

pub stopped_one : (a : Asked) (asked : List Asked) (answer : Result (List ℕ) LoadFault) (said : Said) → RefusesAnswer a answer said → IsStopped (a ∷ asked) (load a.name answer ∷ []) said
stopped_one a asked answer said is = record {
  before = [];
  here = a;
  after = asked;
  are = refl;
  earlier = [];
  items = [];
  read = tt;
  call = load a.name answer;
  refused = (refl, is);
  calls_are = refl;
}

pub read_one : (a : Asked) (answer : Result (List ℕ) LoadFault) (item : Item) → ReadsAnswer a answer item → AreRead (a ∷ []) (load a.name answer ∷ []) (item ∷ [])
read_one a answer item is = ((refl, is), tt)

-- ---- what calls answer that read files

-- One file.
pub reads_one : {T : Type 0} (of : T → Item) (kind : Kind) (name : List ℕ) (answer : Result (List ℕ) LoadFault) (r : Result T (Fail Refused)) → ReadsLoad of kind name answer r
    → ReadsAll (λ v items. items ≡ of v ∷ []) (asked kind name ∷ []) (load name answer ∷ []) r
reads_one of kind name answer (Ok v) is = record { items = of v ∷ []; read = read_one (asked kind name) answer (of v) is; given = refl }
reads_one of kind name answer (Err (fail.Said refused)) is = stopped_one (asked kind name) [] answer (said_of refused) is
reads_one of kind name answer (Err fail.NoMemory) is = begun_one (asked kind name) [] answer

-- The same of a file that is loaded.
pub in_turn : {T : Type 0} (of : T → Item) (kind : Kind) (name : List ℕ) (answer : Result (List ℕ) LoadFault) (before now : FilesState) (r : Result T (Fail Refused)) → IsOneLoad name answer before now → ReadsLoad of kind name answer r
    → ReadsInTurn (λ v items. items ≡ of v ∷ []) (asked kind name ∷ []) before now r
in_turn of kind name answer before now r load_is is = record { calls = load name answer ∷ []; loads = one_load name answer before now load_is; reads = reads_one of kind name answer r is }

-- Others, after files that were read.
pub reads_joined : {T : Type 0} (P Q : T → List Item → Type 0) (f g : List Asked) (xs ys : List Call) (is : List Item) (r : Result T (Fail Refused)) → AreRead f xs is
    → ReadsAll P g ys r → ((v : T) (js : List Item) → AreRead g ys js → P v js → Q v (is ++ js)) → ReadsAll Q (f ++ g) (xs ++ ys) r
reads_joined P Q f g xs ys is (Ok v) one two more = record {
  items = is ++ two.items;
  read = read_joined f g xs ys is two.items one two.read;
  given = more v two.items two.read two.given;
}
reads_joined P Q f g xs ys is (Err (fail.Said refused)) one two more = stopped_joined f g xs ys is (said_of refused) one two
reads_joined P Q f g xs ys is (Err fail.NoMemory) one two more = begun_joined f g xs ys is one two

pub reads_as : {T : Type 0} (P Q : T → List Item → Type 0) (f : List Asked) (xs : List Call) (r : Result T (Fail Refused)) → ReadsAll P f xs r → ((v : T) (js : List Item) → P v js → Q v js) → ReadsAll Q f xs r
reads_as P Q f xs (Ok v) reads more = record { items = reads.items; read = reads.read; given = more v reads.items reads.given }
reads_as P Q f xs (Err (fail.Said refused)) reads more = reads
reads_as P Q f xs (Err fail.NoMemory) reads more = reads

-- ---- a loop over files

-- What was read of the first files.
pub record ReadSoFar {T : Type 0} (P : T → List Item → Type 0) (f : List Asked) (before now : FilesState) (value : T) : Type 0 where
  pub calls : List Call
  pub loads : AreLoads calls before now
  pub all : GivesAll P f calls value

pub none_so_far : {T : Type 0} (P : T → List Item → Type 0) (state : FilesState) (value : T) → P value [] → ReadSoFar P [] state state value
none_so_far P state value is = record { calls = []; loads = no_loads state; all = record { items = []; read = tt; given = is } }

pub one_more : {T : Type 0} (P : T → List Item → Type 0) (f : List Asked) (kind : Kind) (name : List ℕ) (answer : Result (List ℕ) LoadFault) (item : Item) (before between now : FilesState) (old new : T)
    → ReadSoFar P f before between old → IsOneLoad name answer between now → ReadsAnswer (asked kind name) answer item → ((js : List Item) → P old js → P new (js ++ item ∷ []))
    → ReadSoFar P (f ++ asked kind name ∷ []) before now new
one_more P f kind name answer item before between now old new so_far load_is reads more = record {
  calls = so_far.calls ++ load name answer ∷ [];
  loads = loads_joined so_far.calls (load name answer ∷ []) before between now so_far.loads (one_load name answer between now load_is);
  all = record {
    items = so_far.all.items ++ item ∷ [];
    read = read_joined f (asked kind name ∷ []) so_far.calls (load name answer ∷ []) so_far.all.items (item ∷ []) so_far.all.read (read_one (asked kind name) answer item reads);
    given = more so_far.all.items so_far.all.given;
  };
}

-- The next file is refused, or there is no memory for it.
pub stops_here : {T U : Type 0} (P : T → List Item → Type 0) (Q : U → List Item → Type 0) (f after : List Asked) (kind : Kind) (name : List ℕ) (answer : Result (List ℕ) LoadFault) (before between now : FilesState)
    (value : T) (why : Fail Refused) → ReadSoFar P f before between value → IsOneLoad name answer between now → RefusedSo (RefusesAnswer (asked kind name) answer) why
    → ReadsInTurn Q (f ++ asked kind name ∷ after) before now (Err why)
stops_here P Q f after kind name answer before between now value why so_far load_is refuses = record {
  calls = so_far.calls ++ load name answer ∷ [];
  loads = loads_joined so_far.calls (load name answer ∷ []) before between now so_far.loads (one_load name answer between now load_is);
  reads = by_reason why refuses;
}
  where
    by_reason : (why : Fail Refused) → RefusedSo (RefusesAnswer (asked kind name) answer) why → ReadsAll Q (f ++ asked kind name ∷ after) (so_far.calls ++ load name answer ∷ []) (Err why)
    by_reason (fail.Said refused) is =
        stopped_joined f (asked kind name ∷ after) so_far.calls (load name answer ∷ []) so_far.all.items (said_of refused) so_far.all.read (stopped_one (asked kind name) after answer (said_of refused) is)
    by_reason fail.NoMemory is =
        begun_joined f (asked kind name ∷ after) so_far.calls (load name answer ∷ []) so_far.all.items so_far.all.read (begun_one (asked kind name) after answer)

-- There is no memory after some files.
pub ends_here : {T U : Type 0} (P : T → List Item → Type 0) (Q : U → List Item → Type 0) (f after : List Asked) (before now : FilesState) (value : T) → ReadSoFar P f before now value
    → ReadsInTurn Q (f ++ after) before now (Err fail.NoMemory)
ends_here P Q f after before now value so_far = record {
  calls = so_far.calls ++ [];
  loads = loads_joined so_far.calls [] before now now so_far.loads (no_loads now);
  reads = begun_joined f after so_far.calls [] so_far.all.items so_far.all.read tt;
}

pub all_walked : {T : Type 0} (P : T → List Item → Type 0) (f : List Asked) (before now : FilesState) (value : T) → ReadSoFar P f before now value → ReadsInTurn P f before now (Ok value)
all_walked P f before now value so_far = record { calls = so_far.calls; loads = so_far.loads; reads = so_far.all }

pub err_is : {T E : Type 0} {e : E} (r : Result T E) → IsErrAnd r (λ own. own ≡ e) → r ≡ Err e
err_is (Ok v) is = absurd is
err_is (Err own) is = ap (λ x. Err x) is

-- ---- two walks, one after the other

pub begun_wider : (f g : List Asked) (calls : List Call) → AreBegun f calls → AreBegun (f ++ g) calls
begun_wider f g [] begun = tt
begun_wider [] g (x ∷ xs) begun = absurd begun
begun_wider (a ∷ f) g (x ∷ []) begun = begun
begun_wider (a ∷ f) g (x ∷ y ∷ xs) begun = (begun.0, begun_wider f g (y ∷ xs) begun.1)

stopped_wider : (f g : List Asked) (calls : List Call) (said : Said) → IsStopped f calls said → IsStopped (f ++ g) calls said
stopped_wider f g calls said is = record {
  before = is.before;
  here = is.here;
  after = is.after ++ g;
  are = ap (λ (t : List Asked). t ++ g) is.are ∙ append_assoc is.before (is.here ∷ is.after) g;
  earlier = is.earlier;
  items = is.items;
  read = is.read;
  call = is.call;
  refused = is.refused;
  calls_are = is.calls_are;
}

-- The first walk was stopped.
pub stopped_first : {T U : Type 0} (P : T → List Item → Type 0) (Q : U → List Item → Type 0) (f g : List Asked) (before now : FilesState) (why : Fail Refused) → ReadsInTurn P f before now (Err why)
    → ReadsInTurn Q (f ++ g) before now (Err why)
stopped_first P Q f g before now (fail.Said refused) walk = record { calls = walk.calls; loads = walk.loads; reads = stopped_wider f g walk.calls (said_of refused) walk.reads }
stopped_first P Q f g before now fail.NoMemory walk = record { calls = walk.calls; loads = walk.loads; reads = begun_wider f g walk.calls walk.reads }

-- The second was.
pub stopped_second : {S T U : Type 0} (O : S → List Item → Type 0) (P : T → List Item → Type 0) (Q : U → List Item → Type 0) (f g : List Asked) (before between now : FilesState) (first : S) (why : Fail Refused)
    → ReadsInTurn O f before between (Ok first) → ReadsInTurn P g between now (Err why) → ReadsInTurn Q (f ++ g) before now (Err why)
stopped_second O P Q f g before between now first (fail.Said refused) one two = record {
  calls = one.calls ++ two.calls;
  loads = loads_joined one.calls two.calls before between now one.loads two.loads;
  reads = stopped_joined f g one.calls two.calls one.reads.items (said_of refused) one.reads.read two.reads;
}
stopped_second O P Q f g before between now first fail.NoMemory one two = record {
  calls = one.calls ++ two.calls;
  loads = loads_joined one.calls two.calls before between now one.loads two.loads;
  reads = begun_joined f g one.calls two.calls one.reads.items one.reads.read two.reads;
}

pub read_begun : (f : List Asked) (xs : List Call) (is : List Item) → AreRead f xs is → AreBegun f xs
read_begun [] [] [] are = tt
read_begun [] [] (i ∷ is) are = absurd are
read_begun [] (x ∷ xs) is are = absurd are
read_begun (a ∷ f) [] is are = absurd are
read_begun (a ∷ f) (x ∷ xs) [] are = absurd are
read_begun (a ∷ f) (x ∷ xs) (i ∷ is) are = begun_after a x i f xs are.0 (read_begun f xs is are.1)

-- After both there was no memory.
pub both_end : {S T U : Type 0} (O : S → List Item → Type 0) (P : T → List Item → Type 0) (Q : U → List Item → Type 0) (f g : List Asked) (before between now : FilesState) (first : S) (second : T)
    → ReadsInTurn O f before between (Ok first) → ReadsInTurn P g between now (Ok second) → ReadsInTurn Q (f ++ g) before now (Err fail.NoMemory)
both_end O P Q f g before between now first second one two = record {
  calls = one.calls ++ two.calls;
  loads = loads_joined one.calls two.calls before between now one.loads two.loads;
  reads = begun_joined f g one.calls two.calls one.reads.items one.reads.read (read_begun g two.calls two.reads.items two.reads.read);
}

-- Both read all.
pub both_read : {S T U : Type 0} (O : S → List Item → Type 0) (P : T → List Item → Type 0) (Q : U → List Item → Type 0) (f g : List Asked) (before between now : FilesState) (first : S) (second : T) (value : U)
    → ReadsInTurn O f before between (Ok first) → ReadsInTurn P g between now (Ok second)
    → ((calls : List Call) (is js : List Item) → O first is → AreRead g calls js → P second js → Q value (is ++ js)) → ReadsInTurn Q (f ++ g) before now (Ok value)
both_read O P Q f g before between now first second value one two more = record {
  calls = one.calls ++ two.calls;
  loads = loads_joined one.calls two.calls before between now one.loads two.loads;
  reads = record {
    items = one.reads.items ++ two.reads.items;
    read = read_joined f g one.calls two.calls one.reads.items two.reads.items one.reads.read two.reads.read;
    given = more two.calls one.reads.items two.reads.items one.reads.given two.reads.read two.reads.given;
  };
}
