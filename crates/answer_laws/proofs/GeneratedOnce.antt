-- What `gen` answers is one but for the spelling of the object files.
use Rattle.std.proofs.Common.{◌≡◌, ℕ, suc, ◌+◌, List, [], ◌∷◌, ◌++◌, inl, inr, refl, ap, sym, subst, ◌∙◌, length, arith}
use Rattle.std.specs.Prelude.{Result, Ok, Err}
use Rattle.std.specs.List.{enumerate_from, flat_map}
use Rattle.lx_ports.specs.Calls.{Call, save}
use Rattle.lx_ports.specs.Files.{Contents}
use Rattle.lx_ports.specs.declared.files.SaveFault.{SaveFault}
use Rattle.link_model.specs.Link.{Link}
use Rattle.load_model.specs.declared.deeds.Fresh.{Fresh}
use Rattle.gen_model.specs.declared.totals.Totals.{Totals}
use Rattle.gen_model.specs.Modules.{gen_input, gen_object}
use Rattle.gen_model.specs.Sums.{AreFirstPlaces, AreLinked, AreTotals, bases_of, library_of, totals_line, totals_of}
use Rattle.gen_laws.proofs.OneLink.{link_once}
use Rattle.answer_model.specs.Answer.{saves_in}
use Rattle.answer_model.specs.GenAnswer.{AreObjectFiles, GenAnswer, GenWords, IsSavedWith, SavesInTurn, SaysGen, files_with, module_files, session_file}
use Rattle.answer_model.specs.Outcome.{Saved}
use Rattle.answer_model.specs.declared.said.Said.{Said}
use Rattle.answer_laws.specs.AnswerLaws.{AreAlike, IsAlike}
use Rattle.answer_laws.proofs.Loads.{AreSound, ap2}

-- ---- the text

links_once : (k : ℕ) (ls ms : List Link) → length ls ≡ length ms → AreLinked k ls → AreLinked k ms → ls ≡ ms
links_once k [] [] long h j = refl
links_once k [] (m ∷ ms) long h j = absurd cc
links_once k (l ∷ ls) [] long h j = absurd cc
links_once k (l ∷ ls) (m ∷ ms) long h j =
    let rest : length ls ≡ length ms = omega (arith, long) in
    ap2 (λ (x : Link) (xs : List Link). x ∷ xs) (link_once (gen_input k) l m h.0 j.0) (links_once (suc k) ls ms rest h.2 j.2)

ok_once : {X E : Type 0} (r : Result X E) (x y : X) → r ≡ Ok x → r ≡ Ok y → x ≡ y
ok_once {X = X} {E = E} r x y h k = let same : ◌≡◌ {A = Result X E} (Ok x) (Ok y) = sym h ∙ k in cc (same)

totals_once : (count : ℕ) (t u : Totals) → AreTotals count t → AreTotals count u → t ≡ u
totals_once count t u h k =
    let links : h.links ≡ k.links = links_once 1 h.links k.links (h.each ∙ sym k.each) h.linked k.linked in
    let placed : AreFirstPlaces (library_of h.links) k.fresh = subst (λ (ls : List Link). AreFirstPlaces (library_of ls) k.fresh) (sym links) k.placed in
    let fresh : h.fresh ≡ k.fresh = ok_once _ h.fresh k.fresh h.placed placed in
    h.told ∙ (ap2 (λ (ls : List Link) (fs : List Fresh). totals_of ls (bases_of fs)) links fresh ∙ sym k.told)

-- ---- the files

alike_to_itself : (saved : Saved) → IsAlike saved saved
alike_to_itself saved = record { name = refl; bytes = inl refl }

alike_from : (count : ℕ) (prefix : List ℕ) (k : ℕ) (xs ys : List (List ℕ)) → length xs ≡ length ys → AreObjectFiles k xs → AreObjectFiles k ys
    → AreAlike (flat_map (module_files prefix) (enumerate_from k xs) ++ session_file count prefix ∷ []) (flat_map (module_files prefix) (enumerate_from k ys) ++ session_file count prefix ∷ [])
alike_from count prefix k [] [] long h j = (alike_to_itself (session_file count prefix), tt)
alike_from count prefix k [] (y ∷ ys) long h j = absurd cc
alike_from count prefix k (x ∷ xs) [] long h j = absurd cc
alike_from count prefix k (x ∷ xs) (y ∷ ys) long h j =
    let next : suc k ≡ k + 1 = omega arith in
    let left : AreObjectFiles (k + 1) xs = subst (λ (n : ℕ). AreObjectFiles n xs) next h.1 in
    let right : AreObjectFiles (k + 1) ys = subst (λ (n : ℕ). AreObjectFiles n ys) next j.1 in (
      record { name = refl; bytes = inr (gen_object k, h.0, j.0) },
      (record { name = refl; bytes = inl refl }, alike_from count prefix (k + 1) xs ys (omega (arith, long)) left right),
    )

files_alike : (words : GenWords) (files others : List Saved) (text other : List ℕ) → GenAnswer words files text → GenAnswer words others other → AreAlike files others
files_alike words files others text other h k =
    let one : AreAlike (files_with words h.objects) (files_with words k.objects) =
    alike_from words.count words.prefix 1 h.objects k.objects (h.each ∙ sym k.each) h.mean k.mean in
    subst (λ (fs : List Saved). AreAlike fs others) (sym h.files_are) (subst (λ (fs : List Saved). AreAlike (files_with words h.objects) fs) (sym k.files_are) one)

text_once : (words : GenWords) (files others : List Saved) (text other : List ℕ) → GenAnswer words files text → GenAnswer words others other → text ≡ other
text_once words files others text other h k = h.told ∙ (ap totals_line (totals_once words.count h.totals k.totals h.are k.are) ∙ sym k.told)

-- ---- the saves, of which none failed

record AllSaved (files : List Saved) (text : List ℕ) (calls : List Call) (said : Said) : Type 0 where
  saves : saves_in calls ≡ files
  says : said ≡ record { status = 0; text = text }

saved_with : (contents : Contents) (file : Saved) (files : List Saved) (text : List ℕ) (answer : Result (Unit {0}) SaveFault) (calls : List Call) (said : Said)
    → AreSound contents (save file.name file.bytes answer ∷ calls) → IsSavedWith (SavesInTurn files text) file answer calls said
    → (AreSound contents calls → SavesInTurn files text calls said → AllSaved files text calls said) → AllSaved (file ∷ files) text (save file.name file.bytes answer ∷ calls) said
saved_with contents file files text (Ok u) calls said sound h after =
    let rest = after sound.1 h in
    record { saves = ap (λ (fs : List Saved). file ∷ fs) rest.saves; says = rest.says }
saved_with contents file files text (Err why) calls said sound h after = absurd (let good = sound.0 in cc (good))

all_saved : (contents : Contents) (files : List Saved) (text : List ℕ) (calls : List Call) (said : Said) → AreSound contents calls → SavesInTurn files text calls said → AllSaved files text calls said
all_saved contents [] text calls said sound h = record { saves = ap (λ (cs : List Call). saves_in cs) h.0; says = h.1 }
all_saved contents (file ∷ files) text [] said sound h = absurd h
all_saved contents (file ∷ files) text (call ∷ calls) said sound h =
    let sound2 : AreSound contents (save file.name file.bytes h.0 ∷ calls) = subst (λ (c : Call). AreSound contents (c ∷ calls)) h.1 sound in
    subst (λ (c : Call). AllSaved (file ∷ files) text (c ∷ calls) said) (sym h.1) (saved_with contents file files text h.0 calls said sound2 h.2 (all_saved contents files text calls said))

-- ---- the whole command

pub gen_files_once : (contents : Contents) (words : GenWords) (cs ds : List Call) (s t : Said) → AreSound contents cs → AreSound contents ds → SaysGen words cs s → SaysGen words ds t
    → AreAlike (saves_in cs) (saves_in ds)
gen_files_once contents words cs ds s t sc sd h k =
    let left = all_saved contents h.files h.text cs s sc h.saves in
    let right = all_saved contents k.files k.text ds t sd k.saves in
    subst (λ (fs : List Saved). AreAlike fs (saves_in ds)) (sym left.saves) (subst (λ (fs : List Saved). AreAlike h.files fs) (sym right.saves) (files_alike words h.files k.files h.text k.text h.answer k.answer))

pub gen_said_once : (contents : Contents) (words : GenWords) (cs ds : List Call) (s t : Said) → AreSound contents cs → AreSound contents ds → SaysGen words cs s → SaysGen words ds t → s ≡ t
gen_said_once contents words cs ds s t sc sd h k =
    let left = all_saved contents h.files h.text cs s sc h.saves in
    let right = all_saved contents k.files k.text ds t sd k.saves in
    left.says ∙ (ap (λ (text : List ℕ). record { status = 0; text = text }) (text_once words h.files k.files h.text k.text h.answer k.answer) ∙ sym right.says)
