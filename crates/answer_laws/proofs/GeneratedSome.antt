-- `gen` has an answer, for each number of modules that its words can name.
use Rattle.std.proofs.Common.{◌≡◌, ℕ, zero, suc, ◌+◌, ◌<◌, ◌≤◌, Bool, true, false, cond, List, [], ◌∷◌, length, Option, None, Some, refl, ap, arith}
use Rattle.std.specs.Prelude.{Ok, bytes_eq, codes, decimal, unwrap_or}
use Rattle.std.specs.List.{find, range_with_len}
use Rattle.std.specs.Option.{option_map}
use Rattle.lx_types.specs.declared.limits.TheConstants.{MAX_MODULES}
use Rattle.lx_ports.specs.Calls.{Call, save}
use Rattle.lx_ports.specs.Files.{Contents}
use Rattle.omf_write.specs.ObjectBytes.{object_bytes}
use Rattle.gen_model.specs.Modules.{gen_object}
use Rattle.gen_model.specs.Sums.{totals_line}
use Rattle.gen_laws.specs.Laws.{FirstHaveTotals, IsOne, ObjectsHaveFiles}
use Rattle.answer_model.specs.GenAnswer.{AreObjectFiles, GenWords, SavesInTurn, SaysGen, files_with}
use Rattle.answer_model.specs.Outcome.{Saved}
use Rattle.answer_model.specs.Words.{Command, base_of, bind_of, command_of, count_of, dump_of, gen, gen_of, image, image_of, implib_of, link_of, map_of, memory_of, show_of}
use Rattle.answer_model.specs.declared.said.Said.{Said}
use Rattle.answer_laws.proofs.Loads.{AreSound}

-- ---- the number of modules

-- A command that names a number of modules names one from 1 to 64.
abbrev pub IsCounted : Option Command → Type 0
IsCounted (Some (gen count prefix)) = IsOne count
IsCounted _ = Unit {0}

record IsWithin (a n x : ℕ) : Type 0 where
  from : a ≤ x
  to : x < a + n

found_by : (b : Bool) (a n x : ℕ) (later : Option ℕ) → cond b (Some a) later ≡ Some x → (later ≡ Some x → IsWithin (a + 1) n x) → IsWithin a (suc n) x
found_by true a n x later e rest = let same : a ≡ x = ap (λ (o : Option ℕ). unwrap_or o x) e in record { from = omega (arith, same); to = omega (arith, same) }
found_by false a n x later e rest =
    let within = rest e in
    let from = within.from in
    let to = within.to in
    record { from = omega (arith, from); to = omega (arith, to) }

found_within : (test : ℕ → Bool) (a n x : ℕ) → find test (range_with_len a n) ≡ Some x → IsWithin a n x
found_within test a zero x e = absurd cc
found_within test a (suc n) x e = found_by (test a) a n x (find test (range_with_len (a + 1) n)) e (found_within test (a + 1) n x)

gen_counted : (word prefix : List ℕ) (o : Option ℕ) → count_of word ≡ o → IsCounted (option_map (λ n. gen n prefix) o)
unfolding count_of
gen_counted word prefix None is = tt
gen_counted word prefix (Some n) is =
    let within = found_within (λ n. bytes_eq word (decimal n)) 1 MAX_MODULES n is in
    let from = within.from in
    let to = within.to in
    (from, omega (arith, to))

image_counted : (object : List ℕ) (o : Option ℕ) → IsCounted (option_map (image object) o)
image_counted object None = tt
image_counted object (Some base) = tt

all_image : (words : List (List ℕ)) → IsCounted (image_of words)
all_image [] = tt
all_image (object ∷ []) = tt
all_image (object ∷ base ∷ []) = image_counted object (base_of base)
all_image (object ∷ base ∷ more ∷ words) = tt

all_link : (words : List (List ℕ)) → IsCounted (link_of words)
all_link [] = tt
all_link (out ∷ []) = tt
all_link (out ∷ definition ∷ []) = tt
all_link (out ∷ definition ∷ input ∷ inputs) = tt

all_implib : (words : List (List ℕ)) → IsCounted (implib_of words)
all_implib [] = tt
all_implib (out ∷ []) = tt
all_implib (out ∷ input ∷ inputs) = tt

all_bind : (words : List (List ℕ)) → IsCounted (bind_of words)
all_bind [] = tt
all_bind (out ∷ []) = tt
all_bind (out ∷ target ∷ []) = tt
all_bind (out ∷ target ∷ resources ∷ []) = tt
all_bind (out ∷ target ∷ resources ∷ more ∷ words) = tt

all_gen : (words : List (List ℕ)) → IsCounted (gen_of words)
all_gen [] = tt
all_gen (count ∷ []) = tt
all_gen (count ∷ prefix ∷ []) = gen_counted count prefix (count_of count) refl
all_gen (count ∷ prefix ∷ more ∷ words) = tt

all_dump : (words : List (List ℕ)) → IsCounted (dump_of words)
all_dump [] = tt
all_dump (file ∷ []) = tt
all_dump (file ∷ more ∷ words) = tt

all_map : (words : List (List ℕ)) → IsCounted (map_of words)
all_map [] = tt
all_map (definition ∷ []) = tt
all_map (definition ∷ input ∷ inputs) = tt

all_memory : (words : List (List ℕ)) → IsCounted (memory_of words)
all_memory [] = tt
all_memory (target ∷ others) = tt

all_show : (words : List (List ℕ)) → IsCounted (show_of words)
all_show [] = tt
all_show (file ∷ []) = tt
all_show (file ∷ more ∷ words) = tt

either : (b : Bool) (c d : Option Command) → IsCounted c → IsCounted d → IsCounted (cond b c d)
either true c d h k = h
either false c d h k = k

pub all_counted : (words : List (List ℕ)) → IsCounted (command_of words)
all_counted [] = tt
all_counted (word ∷ words) =
    either (bytes_eq word (codes "image")) (image_of words) _ (all_image words)
    (either (bytes_eq word (codes "link")) (link_of words) _ (all_link words)
    (either (bytes_eq word (codes "implib")) (implib_of words) _ (all_implib words)
    (either (bytes_eq word (codes "bind")) (bind_of words) _ (all_bind words)
    (either (bytes_eq word (codes "gen")) (gen_of words) _ (all_gen words)
    (either (bytes_eq word (codes "dump")) (dump_of words) _ (all_dump words)
    (either (bytes_eq word (codes "map")) (map_of words) _ (all_map words)
    (either (bytes_eq word (codes "memory")) (memory_of words) _ (all_memory words)
    (either (bytes_eq word (codes "show")) (show_of words) None (all_show words) tt))))))))

-- ---- the object files

-- Of the modules from k on.
abbrev objects_from : ℕ → ℕ → List (List ℕ)
objects_from k zero = []
objects_from k (suc n) = object_bytes (gen_object k) ∷ objects_from (suc k) n

objects_long : (k n : ℕ) → length (objects_from k n) ≡ n
objects_long k zero = refl
objects_long k (suc n) = ap suc (objects_long (suc k) n)

objects_mean : ObjectsHaveFiles → (k n : ℕ) → 1 ≤ k → k + n ≤ 65 → AreObjectFiles k (objects_from k n)
objects_mean have k zero low high = tt
objects_mean have k (suc n) low high = (have k (low, omega (arith, high)), objects_mean have (suc k) n (omega arith) (omega (arith, high)))

-- ---- the saves, of which none fails

abbrev saves_of : List Saved → List Call
saves_of [] = []
saves_of (saved ∷ others) = save saved.name saved.bytes (Ok tt) ∷ saves_of others

saved_in_turn : (files : List Saved) (text : List ℕ) → SavesInTurn files text (saves_of files) (record { status = 0; text = text })
saved_in_turn [] text = (refl, refl)
saved_in_turn (saved ∷ others) text = (Ok tt, refl, saved_in_turn others text)

saves_sound : (contents : Contents) (files : List Saved) → AreSound contents (saves_of files)
saves_sound contents [] = tt
saves_sound contents (saved ∷ others) = (refl, saves_sound contents others)

-- ---- the whole command

pub record IsGenerated (contents : Contents) (words : GenWords) : Type 0 where
  pub calls : List Call
  pub sound : AreSound contents calls
  pub said : Said
  pub says : SaysGen words calls said

pub generated : ObjectsHaveFiles → FirstHaveTotals → (contents : Contents) (count : ℕ) (prefix : List ℕ) → IsOne count → IsGenerated contents (record { count = count; prefix = prefix })
generated have told contents count prefix one =
    let words : GenWords = record { count = count; prefix = prefix } in
    let objects = objects_from 1 count in
    let files = files_with words objects in
    let totals = told count one in
    let text = totals_line totals.0 in
    let few = one.1 in
    record {
      calls = saves_of files;
      sound = saves_sound contents files;
      said = record { status = 0; text = text };
      says = record {
        files = files;
        text = text;
        answer = record {
          objects = objects;
          each = objects_long 1 count;
          mean = objects_mean have 1 count (omega arith) (omega (arith, few));
          files_are = refl;
          totals = totals.0;
          are = totals.1;
          told = refl;
        };
        saves = saved_in_turn files text;
      };
    }
