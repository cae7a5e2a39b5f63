-- Module lines, one after another.
use Rattle.std.proofs.Common.{◌≡◌, ℕ, ◌+◌, List, [], ◌∷◌, ◌++◌, length, Result, Ok, Err, ◌∙◌, ap, sym, subst, refl, inl, inr, Option, append_assoc, append-nil, length-append}
use Rattle.std.specs.List.{AllByRecursion}
use Rattle.std.proofs.lemmas.List.{flat_map_more, map-append}
use Rattle.std.proofs.lemmas.List.Concat.{flat_map-append}
use Rattle.lx_types.specs.declared.fail.Fail.{Fail}
use Rattle.lx_types.specs.declared.fail.Fail.TheVariants as fail
use Rattle.lx_types.specs.declared.parts.Parts.{Parts}
use Rattle.link_model.specs.Link.{IsLinkOf}
use Rattle.lx_ports.specs.Calls.{Call, load, save}
use Rattle.lx_ports.specs.Files.{FilesState}
use Rattle.lx_ports.specs.declared.files.LoadFault.{LoadFault}
use Rattle.run_laws.specs.Bridge.{IsSound}
use Rattle.run_model.specs.Sources.{Source, taken, built, library_of, module_from}
use Rattle.session_model.specs.declared.sessions.ModLine.{ModLine}
use Rattle.session_model.specs.declared.sessions.ModLine.TheVariants.{Take, Build}
use Rattle.answer_model.specs.declared.said.Said.{Said}
use Rattle.refusal_text.specs.declared.refused.LinkFiles.{LinkFiles}
use Rattle.refusal_text.specs.declared.refused.Refused.{Refused}
use Rattle.refusal_text.specs.Refusals.{said_of}
use Rattle.answer_model.specs.LinkAnswer.{input_with}
use Rattle.answer_model.specs.Loading.{AreBegun, AreRead, IsLoadWith, IsRefused, IsStopped}
use Rattle.answer_model.specs.AskedFiles.{Asked}
use Rattle.answer_model.specs.Items.{Item, linked, module_file}
use Rattle.answer_model.specs.RunAnswer.{AreDone, IsDoneLine, asked_lines, together}
use Rattle.answer_model.specs.RunLines.{asked_line}
use Rattle.answer_model.specs.AskedFiles.{asked_definition, asked_inputs}
use Rattle.answer_model.specs.Words.{definition_of}
use Rattle.tool_read.specs.Readings.{ReadsLoad, asked}
use Rattle.tool_read.specs.Steps.{AreLoads, IsOneLoad, ReadsInTurn}
use Rattle.tool_read.proofs.Walk.{begun_joined, begun_one, begun_wider, loads_joined, no_loads, one_load, read_begun, read_joined, read_one, stopped_one}
use Rattle.session_files.specs.ModuleLines.{AnswersLines, AreDoneWith, DoesLine, DoesLines, LinksInput}

-- ---- one line

load_refused : (a : Asked) (call : Call) (said : Said) → IsRefused a call said → IsLoadWith a call (λ answer. Unit {0})
load_refused a (load name answer) said is = (is.0, tt)
load_refused a (save name bytes answer) said is = absurd is

begun_to : (a : Asked) (after : List Asked) (call : Call) → IsLoadWith a call (λ answer. Unit {0}) → AreBegun (a ∷ after) (call ∷ [])
begun_to a after call is = is

pub stopped_begun : (f : List Asked) (calls : List Call) (said : Said) → IsStopped f calls said → AreBegun f calls
stopped_begun f calls said is =
    let P : List Asked → Type 0 = λ g. AreBegun g calls in
    let Q : List Call → Type 0 = λ xs. AreBegun (is.before ++ is.here ∷ is.after) xs in
    subst P (sym is.are)
    (subst Q (sym is.calls_are) (begun_joined is.before (is.here ∷ is.after) is.earlier (is.call ∷ []) is.items is.read (begun_to is.here is.after is.call (load_refused is.here is.call said is.refused))))

-- Its files were not all read.
pub unread_line : {T : Type 0} (P : T → List Item → Type 0) (line : ModLine) (before now : FilesState) (why : Fail Refused) → ReadsInTurn P (asked_line line) before now (Err why) → DoesLine line before now (Err why)
unread_line P line before now (fail.Said refused) walk = record {
  calls = walk.calls;
  loads = walk.loads;
  begun = stopped_begun (asked_line line) walk.calls (said_of refused) walk.reads;
  answer = inl walk.reads;
}
unread_line P line before now fail.NoMemory walk = record { calls = walk.calls; loads = walk.loads; begun = walk.reads; answer = tt }

-- There was no memory before its first file.
pub no_line : (line : ModLine) (state : FilesState) → DoesLine line state state (Err fail.NoMemory)
no_line line state = record { calls = []; loads = no_loads state; begun = tt; answer = tt }

-- A file was taken.
pub taken_line : (file : List ℕ) (answer : Result (List ℕ) LoadFault) (before now : FilesState) (r : Result Parts (Fail Refused)) → IsOneLoad file answer before now → ReadsLoad linked module_file file answer r
    → DoesLine (Take file) before now r
taken_line file answer before now (Ok m) one is = record {
  calls = load file answer ∷ [];
  loads = one_load file answer before now one;
  begun = begun_one (asked module_file file) [] answer;
  answer = record {
    source = taken m;
    done = record { items = linked m ∷ []; read = read_one (asked module_file file) answer (linked m) is; gives = refl };
    module_is = refl;
    sound = tt;
  };
}
taken_line file answer before now (Err (fail.Said refused)) one is = record {
  calls = load file answer ∷ [];
  loads = one_load file answer before now one;
  begun = begun_one (asked module_file file) [] answer;
  answer = inl (stopped_one (asked module_file file) [] answer (said_of refused) is);
}
taken_line file answer before now (Err fail.NoMemory) one is = record {
  calls = load file answer ∷ [];
  loads = one_load file answer before now one;
  begun = begun_one (asked module_file file) [] answer;
  answer = tt;
}

-- All files of a module that is built were read, and link or not.
module _ (stem def : List ℕ) (names : List (List ℕ)) (before now : FilesState) (files : LinkFiles) where
  abbrev pub Reads : Type 0
  Reads = ReadsInTurn (λ (f : LinkFiles) items. f.input ≡ input_with stem items) (asked_definition (definition_of def) ++ asked_inputs names) before now (Ok files)

  pub built_line : (r : Result Parts (Fail Refused)) → Reads → LinksInput stem files.input r → DoesLine (Build stem def names) before now r
  built_line (Ok parts) walk links = record {
    calls = walk.calls;
    loads = walk.loads;
    begun = read_begun (asked_line (Build stem def names)) walk.calls walk.reads.items walk.reads.read;
    answer = record {
      source = built links.link;
      done = record { items = walk.reads.items; read = walk.reads.read; gives = (subst (λ i. IsLinkOf i links.link) walk.reads.given links.of_input, links.accepted) };
      module_is = links.module_is;
      sound = links.well;
    };
  }
  built_line (Err (fail.Said refused)) walk links = record {
    calls = walk.calls;
    loads = walk.loads;
    begun = read_begun (asked_line (Build stem def names)) walk.calls walk.reads.items walk.reads.read;
    answer = inr (record {
      items = walk.reads.items;
      read = walk.reads.read;
      fails = record { link = links.link; of_input = subst (λ i. IsLinkOf i links.link) walk.reads.given links.of_input; text = links.text; refused = links.refused; told = links.told };
    });
  }
  built_line (Err fail.NoMemory) walk links = record {
    calls = walk.calls;
    loads = walk.loads;
    begun = read_begun (asked_line (Build stem def names)) walk.calls walk.reads.items walk.reads.read;
    answer = tt;
  }

-- The same of a walk whose names are given by equals.
module _ (stem def own told : List ℕ) (definition : Option (List ℕ)) (names texts : List (List ℕ)) (before now : FilesState) (own_is : own ≡ stem) (definition_is : definition ≡ definition_of def) (texts_are : texts ≡ names) where
  renamed : (r : Result LinkFiles (Fail Refused)) → ReadsInTurn (λ (f : LinkFiles) items. f.input ≡ input_with own items) (asked_definition definition ++ asked_inputs texts) before now r
      → ReadsInTurn (λ (f : LinkFiles) items. f.input ≡ input_with stem items) (asked_line (Build stem def names)) before now r
  renamed r walk =
      let P : List ℕ → Type 0 = λ s. ReadsInTurn (λ (f : LinkFiles) items. f.input ≡ input_with s items) (asked_definition definition ++ asked_inputs texts) before now r in
      let Q : Option (List ℕ) → Type 0 = λ d. ReadsInTurn (λ (f : LinkFiles) items. f.input ≡ input_with stem items) (asked_definition d ++ asked_inputs texts) before now r in
      let R : List (List ℕ) → Type 0 = λ ns. ReadsInTurn (λ (f : LinkFiles) items. f.input ≡ input_with stem items) (asked_definition (definition_of def) ++ asked_inputs ns) before now r in
      subst R texts_are (subst Q definition_is (subst P own_is walk))

  pub built_from : (files : LinkFiles) (r : Result Parts (Fail Refused)) → told ≡ stem → ReadsInTurn (λ (f : LinkFiles) items. f.input ≡ input_with own items) (asked_definition definition ++ asked_inputs texts) before now (Ok files)
      → LinksInput told files.input r → DoesLine (Build stem def names) before now r
  built_from files r told_is walk links =
      let P : List ℕ → Type 0 = λ s. LinksInput s files.input r in
      built_line stem def names before now files r (renamed (Ok files) walk) (subst P told_is links)

  pub unread_from : (why : Fail Refused) → ReadsInTurn (λ (f : LinkFiles) items. f.input ≡ input_with own items) (asked_definition definition ++ asked_inputs texts) before now (Err why) → DoesLine (Build stem def names) before now (Err why)
  unread_from why walk = unread_line (λ (f : LinkFiles) items. f.input ≡ input_with stem items) (Build stem def names) before now why (renamed (Err why) walk)

-- ---- lines in turn

done_more : (lines : List ModLine) (each : List (List Call)) (sources : List Source) (line : ModLine) (own : List Call) (source : Source) → AreDone lines each sources → IsDoneLine line own source
    → AreDone (lines ++ line ∷ []) (each ++ own ∷ []) (sources ++ source ∷ [])
done_more [] [] [] line own source done one = (one, tt)
done_more [] [] (s ∷ sources) line own source done one = absurd done
done_more [] (c ∷ each) sources line own source done one = absurd done
done_more (l ∷ lines) [] sources line own source done one = absurd done
done_more (l ∷ lines) (c ∷ each) [] line own source done one = absurd done
done_more (l ∷ lines) (c ∷ each) (s ∷ sources) line own source done one = (done.0, done_more lines each sources line own source done.1 one)

-- the items of the files of lines that were done
pub record HasItems (f : List Asked) (calls : List Call) : Type 0 where
  pub items : List Item
  pub read : AreRead f calls items

done_read : (lines : List ModLine) (each : List (List Call)) (sources : List Source) → AreDone lines each sources → HasItems (asked_lines lines) (together each)
done_read [] [] [] done = record { items = []; read = tt }
done_read [] [] (s ∷ sources) done = absurd done
done_read [] (c ∷ each) sources done = absurd done
done_read (l ∷ lines) [] sources done = absurd done
done_read (l ∷ lines) (c ∷ each) [] done = absurd done
done_read (l ∷ lines) (c ∷ each) (s ∷ sources) done =
    let rest = done_read lines each sources done.1 in
    record {
      items = done.0.items ++ rest.items;
      read = read_joined (asked_line l) (asked_lines lines) c (together each) done.0.items rest.items done.0.read rest.read;
    }

all_done_read : (lines : List ModLine) (calls : List Call) (modules : List Parts) → AreDoneWith lines calls modules → HasItems (asked_lines lines) calls
all_done_read lines calls modules are =
    let P : List Call → Type 0 = λ xs. HasItems (asked_lines lines) xs in
    subst P (sym are.given.calls_are) (done_read lines are.given.each are.sources are.given.done)

-- What was done of the first lines.
pub record DoneSoFar (lines : List ModLine) (before now : FilesState) (modules : List Parts) : Type 0 where
  pub calls : List Call
  pub loads : AreLoads calls before now
  pub all : AreDoneWith lines calls modules

pub none_done : (state : FilesState) → DoneSoFar [] state state []
none_done state = record { calls = []; loads = no_loads state; all = record { sources = []; given = record { each = []; done = tt; calls_are = refl }; modules_are = refl; sound = tt } }

sound_more : (sources : List Source) (source : Source) → AllByRecursion IsSound sources → IsSound source → AllByRecursion IsSound (sources ++ source ∷ [])
sound_more [] source all one = (one, tt)
sound_more (s ∷ sources) source all one = (all.0, sound_more sources source all.1 one)

pub line_more : (lines : List ModLine) (line : ModLine) (before between now : FilesState) (modules : List Parts) (parts : Parts) → DoneSoFar lines before between modules → DoesLine line between now (Ok parts)
    → DoneSoFar (lines ++ line ∷ []) before now (modules ++ parts ∷ [])
line_more lines line before between now modules parts so_far one = record {
  calls = so_far.calls ++ one.calls;
  loads = loads_joined so_far.calls one.calls before between now so_far.loads one.loads;
  all = record {
    sources = so_far.all.sources ++ one.answer.source ∷ [];
    given = record {
      each = so_far.all.given.each ++ one.calls ∷ [];
      done = done_more lines so_far.all.given.each so_far.all.sources line one.calls one.answer.source so_far.all.given.done one.answer.done;
      calls_are = ap (λ xs. xs ++ one.calls) so_far.all.given.calls_are ∙ flat_map_more (λ own. own) [] so_far.all.given.each one.calls;
    };
    modules_are =
        ap (λ xs. xs ++ parts ∷ []) so_far.all.modules_are ∙ ap (λ p. library_of so_far.all.sources ++ p ∷ []) one.answer.module_is
        ∙ sym (map-append module_from so_far.all.sources (one.answer.source ∷ []));
    sound = sound_more so_far.all.sources one.answer.source so_far.all.sound one.answer.sound;
  };
}

-- the files of more lines
begun_among : (lines after : List ModLine) (calls : List Call) → AreBegun (asked_lines lines ++ asked_lines after) calls → AreBegun (asked_lines (lines ++ after)) calls
begun_among lines after calls begun =
    let P : List Asked → Type 0 = λ f. AreBegun f calls in
    subst P (sym (flat_map-append asked_line lines after)) begun

-- The next line is stopped, or there is no memory for it.
pub line_stops : (lines after : List ModLine) (line : ModLine) (before between now : FilesState) (modules : List Parts) (why : Fail Refused) → DoneSoFar lines before between modules → DoesLine line between now (Err why)
    → DoesLines (lines ++ line ∷ after) before now (Err why)
line_stops lines after line before between now modules why so_far one =
    let files : HasItems (asked_lines lines) so_far.calls = all_done_read lines so_far.calls modules so_far.all in
    record {
      calls = so_far.calls ++ one.calls;
      loads = loads_joined so_far.calls one.calls before between now so_far.loads one.loads;
      begun = begun_among lines (line ∷ after) (so_far.calls ++ one.calls)
          (begun_joined (asked_lines lines) (asked_lines (line ∷ after)) so_far.calls one.calls files.items files.read (begun_wider (asked_line line) (asked_lines after) one.calls one.begun));
      answer = by_reason why one;
    }
  where
    by_reason : (why : Fail Refused) (own : DoesLine line between now (Err why)) → AnswersLines (lines ++ line ∷ after) (so_far.calls ++ own.calls) (Err why)
    by_reason (fail.Said refused) own = record {
      before = lines;
      here = line;
      after = after;
      are = refl;
      earlier = so_far.all.given.each;
      sources = so_far.all.sources;
      done = so_far.all.given.done;
      own = own.calls;
      stopped = own.answer;
      calls_are = ap (λ xs. xs ++ own.calls) so_far.all.given.calls_are;
    }
    by_reason fail.NoMemory own = tt

-- After the first lines there is no memory.
pub lines_end : (lines after : List ModLine) (before now : FilesState) (modules : List Parts) → DoneSoFar lines before now modules → DoesLines (lines ++ after) before now (Err fail.NoMemory)
lines_end lines after before now modules so_far =
    let files : HasItems (asked_lines lines) so_far.calls = all_done_read lines so_far.calls modules so_far.all in
    record {
      calls = so_far.calls;
      loads = so_far.loads;
      begun = begun_among lines after so_far.calls (begun_wider (asked_lines lines) (asked_lines after) so_far.calls (read_begun (asked_lines lines) so_far.calls files.items files.read));
      answer = tt;
    }

pub lines_done : (lines : List ModLine) (before now : FilesState) (modules : List Parts) → DoneSoFar lines before now modules → DoesLines lines before now (Ok modules)
lines_done lines before now modules so_far =
    let files : HasItems (asked_lines lines) so_far.calls = all_done_read lines so_far.calls modules so_far.all in
    record { calls = so_far.calls; loads = so_far.loads; begun = read_begun (asked_lines lines) so_far.calls files.items files.read; answer = so_far.all }

-- ---- lines that are read one by one

-- The first lines were done, and these stand after them.
pub record Reached (lines beyond : List ModLine) (before now : FilesState) (modules : List Parts) : Type 0 where
  pub front : List ModLine
  pub are : lines ≡ front ++ beyond
  pub done : DoneSoFar front before now modules
  pub count : length modules ≡ length front

pub reached_none : (lines beyond : List ModLine) (state : FilesState) (modules : List Parts) → lines ≡ beyond → modules ≡ [] → Reached lines beyond state state modules
reached_none lines beyond state modules are none =
    subst (λ ms. Reached lines beyond state state ms) (sym none) (record { front = []; are = are; done = none_done state; count = refl })

module _ (lines beyond : List ModLine) (line : ModLine) (rest : List ModLine) (before between now : FilesState) (modules : List Parts)
    (so_far : Reached lines beyond before between modules) (next : beyond ≡ line ∷ rest) where
  pub reached_more : (parts : Parts) (more : List Parts) → DoesLine line between now (Ok parts) → more ≡ modules ++ parts ∷ [] → Reached lines rest before now more
  reached_more parts more one is = subst (λ ms. Reached lines rest before now ms) (sym is) (record {
    front = so_far.front ++ line ∷ [];
    are = so_far.are ∙ ap (λ ls. so_far.front ++ ls) next ∙ sym (append_assoc so_far.front (line ∷ []) rest);
    done = line_more so_far.front line before between now modules parts so_far.done one;
    count = length-append modules (parts ∷ []) ∙ ap (λ n. n + 1) so_far.count ∙ sym (length-append so_far.front (line ∷ []));
  })

  pub reached_stop : (why : Fail Refused) → DoesLine line between now (Err why) → DoesLines lines before now (Err why)
  reached_stop why one =
      subst (λ ls. DoesLines ls before now (Err why)) (sym (so_far.are ∙ ap (λ ls. so_far.front ++ ls) next))
      (line_stops so_far.front rest line before between now modules why so_far.done one)

pub reached_end : (lines beyond : List ModLine) (before now : FilesState) (modules : List Parts) → Reached lines beyond before now modules → DoesLines lines before now (Err fail.NoMemory)
reached_end lines beyond before now modules so_far =
    subst (λ ls. DoesLines ls before now (Err fail.NoMemory)) (sym so_far.are) (lines_end so_far.front beyond before now modules so_far.done)

all_are : (lines front beyond : List ModLine) → lines ≡ front ++ beyond → beyond ≡ [] → front ≡ lines
all_are lines front beyond are none = sym (are ∙ ap (λ ls. front ++ ls) none ∙ append-nil front)

pub reached_done : (lines beyond : List ModLine) (before now : FilesState) (modules : List Parts) → Reached lines beyond before now modules → beyond ≡ []
    → DoesLines lines before now (Ok modules)
reached_done lines beyond before now modules so_far none =
    subst (λ ls. DoesLines ls before now (Ok modules)) (all_are lines so_far.front beyond so_far.are none) (lines_done so_far.front before now modules so_far.done)

pub reached_count : (lines beyond : List ModLine) (before now : FilesState) (modules : List Parts) → Reached lines beyond before now modules → beyond ≡ []
    → length modules ≡ length lines
reached_count lines beyond before now modules so_far none = so_far.count ∙ ap length (all_are lines so_far.front beyond so_far.are none)
