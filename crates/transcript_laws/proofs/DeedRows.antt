-- The lines of an entry tell what was done.
use Rattle.std.proofs.Common.{◌≡◌, ℕ, ◌==◌, ◌||◌, Bool, true, false, if◌then◌else◌, bytes_eq, List, [], ◌∷◌, ◌++◌, map, flat_map, drop, get_or, refl, sym, ◌∙◌, ap, subst, arith, append_assoc, append-nil}
use Rattle.std.specs.Prelude.{codes, decimal}
use Rattle.std.specs.List.{AllByRecursion}
use Rattle.lx_types.specs.Escaped.{hex_byte, hex_address}
use Rattle.lx_types.proofs.Lists.{all_joined}
use Rattle.load_model.specs.declared.deeds.How.{How}
use Rattle.load_model.specs.declared.deeds.How.TheVariants as ways
use Rattle.load_model.specs.declared.deeds.CallKind.{CallKind}
use Rattle.load_model.specs.declared.deeds.CallKind.TheVariants as kinds
use Rattle.load_model.specs.declared.deeds.Call.{Call}
use Rattle.load_model.specs.declared.deeds.Fresh.{Fresh}
use Rattle.load_model.specs.declared.deeds.Gone.{Gone}
use Rattle.load_model.specs.declared.deeds.Deed.{Deed}
use Rattle.load_model.specs.declared.deeds.Deed.TheVariants as deeds
use Rattle.load_model.specs.Modules.{Library}
use Rattle.session_model.specs.Transcript.{module_text, how_text, kind_text, new_line, call_line, gone_line, deed_words, deed_lines}
use Rattle.dump_model.specs.Words.{IsWord}
use Rattle.dump_model.proofs.NumberLaws.{count-word}
use Rattle.dump_model.proofs.FlagLaws.{address-one, address-word}
use Rattle.check_model.specs.Told.{IsByte, Has32, Has64, IsModuleOf, IsFresh, IsCall, IsGone, IsDeed}
use Rattle.transcript_laws.specs.TellsOne.{HasNames}
use Rattle.transcript_laws.proofs.TextRows.{Row, IsRow, text_of, text-append, text-map}
use Rattle.transcript_laws.proofs.RowKinds.{inner, kind, OfKind, BeginsOther, split_kind, map_kind, map_one}
use Rattle.transcript_laws.proofs.ValueWords.{number_one, numbers_one, module_one, modules_one, module_word, addresses_one, bytes_one, addresses_words, bytes_are_words}

-- ---- the lines below an entry

abbrev pub new_row : Library → Fresh → Row
new_row lib f = inner (codes "new" ∷ decimal f.serial ∷ module_text lib f.«module» ∷ map hex_address f.bases)

abbrev pub call_row : Library → Call → Row
call_row lib c = inner (codes "call" ∷ kind_text c.kind ∷ decimal c.serial ∷ module_text lib c.«module» ∷ hex_address c.address ∷ [])

abbrev pub gone_row : Library → Gone → Row
gone_row lib g = inner (codes "gone" ∷ decimal g.serial ∷ module_text lib g.«module» ∷ [])

abbrev pub fresh_in : Deed → List Fresh
fresh_in (deeds.Enter how m fresh calls) = fresh
fresh_in (deeds.Failed how m by fresh calls gone) = fresh
fresh_in deed = []

abbrev pub calls_in : Deed → List Call
calls_in (deeds.Enter how m fresh calls) = calls
calls_in (deeds.Failed how m by fresh calls gone) = calls
calls_in (deeds.Free m calls gone) = calls
calls_in (deeds.Exit calls gone) = calls
calls_in deed = []

abbrev pub gone_in : Deed → List Gone
gone_in (deeds.Failed how m by fresh calls gone) = gone
gone_in (deeds.Free m calls gone) = gone
gone_in (deeds.Exit calls gone) = gone
gone_in deed = []

abbrev news : Library → Deed → List Row
news lib d = map (new_row lib) (fresh_in d)

abbrev its_calls : Library → Deed → List Row
its_calls lib d = map (call_row lib) (calls_in d)

abbrev leavers : Library → Deed → List Row
leavers lib d = map (gone_row lib) (gone_in d)

abbrev pub deed_rows : Library → Deed → List Row
deed_rows lib d = news lib d ++ (its_calls lib d ++ leavers lib d)

three_texts : (lib : Library) (fresh : List Fresh) (calls : List Call) (gone : List Gone) →
    text_of (map (new_row lib) fresh ++ (map (call_row lib) calls ++ map (gone_row lib) gone)) ≡ flat_map (new_line lib) fresh ++ (flat_map (call_line lib) calls ++ flat_map (gone_line lib) gone)
three_texts lib fresh calls gone =
    let f : text_of (map (new_row lib) fresh) ≡ flat_map (new_line lib) fresh = text-map (new_row lib) (new_line lib) (λ a. refl) fresh in
    let c : text_of (map (call_row lib) calls) ≡ flat_map (call_line lib) calls = text-map (call_row lib) (call_line lib) (λ a. refl) calls in
    let g : text_of (map (gone_row lib) gone) ≡ flat_map (gone_line lib) gone = text-map (gone_row lib) (gone_line lib) (λ a. refl) gone in
    text-append (map (new_row lib) fresh) (map (call_row lib) calls ++ map (gone_row lib) gone)
    ∙ (ap (λ l. l ++ text_of (map (call_row lib) calls ++ map (gone_row lib) gone)) f
    ∙ ap (λ l. flat_map (new_line lib) fresh ++ l)
    (text-append (map (call_row lib) calls) (map (gone_row lib) gone) ∙ (ap (λ l. l ++ text_of (map (gone_row lib) gone)) c ∙ ap (λ l. flat_map (call_line lib) calls ++ l) g)))

pub deed_text : (lib : Library) (d : Deed) → text_of (deed_rows lib d) ≡ deed_lines lib d
deed_text lib (deeds.Enter how m fresh calls) =
    three_texts lib fresh calls [] ∙ ap (λ l. flat_map (new_line lib) fresh ++ l) (append-nil (flat_map (call_line lib) calls))
deed_text lib (deeds.Failed how m by fresh calls gone) =
    three_texts lib fresh calls gone ∙ sym (append_assoc (flat_map (new_line lib) fresh) (flat_map (call_line lib) calls) (flat_map (gone_line lib) gone))
deed_text lib (deeds.Free m calls gone) = three_texts lib [] calls gone
deed_text lib (deeds.Exit calls gone) = three_texts lib [] calls gone
deed_text lib (deeds.Full how m of object size) = refl
deed_text lib (deeds.Fault serial m p) = refl
deed_text lib (deeds.Write serial m object offset bytes) = refl
deed_text lib (deeds.Debug serial m object offset bytes) = refl
deed_text lib (deeds.Shared serial m object offset bytes) = refl

-- ---- each tells what it is of

fresh_one : (lib : Library) → HasNames lib → (a b : Fresh) → IsFresh lib a → IsFresh lib b → new_row lib a ≡ new_row lib b → a ≡ b
fresh_one lib names a b ha hb is =
    let s : decimal a.serial ≡ decimal b.serial = cc (is) in
    let m : module_text lib a.«module» ≡ module_text lib b.«module» = cc (is) in
    let x : map hex_address a.bases ≡ map hex_address b.bases = cc (is) in
    let serial = number_one a.serial b.serial ha.0.0 hb.0.0 s in
    let number = module_one lib names a.«module» b.«module» ha.0.1 hb.0.1 m in
    let bases = addresses_one a.bases b.bases ha.1 hb.1 x in
    λ i. record { serial = serial i; «module» = number i; bases = bases i }

kind_in : List ℕ → CallKind
kind_in w = if bytes_eq w (codes "init") then kinds.Init else if bytes_eq w (codes "term") then kinds.Term else kinds.Main

kind_is : (k : CallKind) → kind_in (kind_text k) ≡ k
unfolding kind_in
kind_is kinds.Init = refl
kind_is kinds.Term = refl
kind_is kinds.Main = refl

call_one : (lib : Library) → HasNames lib → (a b : Call) → IsCall lib a → IsCall lib b → call_row lib a ≡ call_row lib b → a ≡ b
call_one lib names a b ha hb is =
    let k : kind_text a.kind ≡ kind_text b.kind = cc (is) in
    let s : decimal a.serial ≡ decimal b.serial = cc (is) in
    let m : module_text lib a.«module» ≡ module_text lib b.«module» = cc (is) in
    let x : hex_address a.address ≡ hex_address b.address = ap (λ (ws : Row). get_or ws 6 []) is in
    let kinds = sym (kind_is a.kind) ∙ ap kind_in k ∙ kind_is b.kind in
    let serial = number_one a.serial b.serial ha.0.0 hb.0.0 s in
    let number = module_one lib names a.«module» b.«module» ha.0.1 hb.0.1 m in
    let address = address-one a.address b.address ha.1 hb.1 x in
    λ i. record { kind = kinds i; serial = serial i; «module» = number i; address = address i }

gone_one : (lib : Library) → HasNames lib → (a b : Gone) → IsGone lib a → IsGone lib b → gone_row lib a ≡ gone_row lib b → a ≡ b
gone_one lib names a b ha hb is =
    let s : decimal a.serial ≡ decimal b.serial = cc (is) in
    let m : module_text lib a.«module» ≡ module_text lib b.«module» = cc (is) in
    let serial = number_one a.serial b.serial ha.0 hb.0 s in
    let number = module_one lib names a.«module» b.«module» ha.1 hb.1 m in
    λ i. record { serial = serial i; «module» = number i }

-- ---- the first line of an entry, after its process

-- what is done, as a number; the modules, the numbers and the bytes that are named
abbrev tag : Deed → ℕ
tag (deeds.Enter ways.Start m fresh calls) = 0
tag (deeds.Enter ways.Load m fresh calls) = 1
tag (deeds.Full ways.Start m of object size) = 2
tag (deeds.Full ways.Load m of object size) = 3
tag (deeds.Failed ways.Start m by fresh calls gone) = 4
tag (deeds.Failed ways.Load m by fresh calls gone) = 5
tag (deeds.Free m calls gone) = 6
tag (deeds.Exit calls gone) = 7
tag (deeds.Fault serial m p) = 8
tag (deeds.Write serial m object offset bytes) = 9
tag (deeds.Debug serial m object offset bytes) = 10
tag (deeds.Shared serial m object offset bytes) = 11

abbrev modules_in : Deed → List ℕ
modules_in (deeds.Enter how m fresh calls) = m ∷ []
modules_in (deeds.Full how m of object size) = m ∷ of ∷ []
modules_in (deeds.Failed how m by fresh calls gone) = m ∷ by ∷ []
modules_in (deeds.Free m calls gone) = m ∷ []
modules_in (deeds.Exit calls gone) = []
modules_in (deeds.Fault serial m p) = m ∷ []
modules_in (deeds.Write serial m object offset bytes) = m ∷ []
modules_in (deeds.Debug serial m object offset bytes) = m ∷ []
modules_in (deeds.Shared serial m object offset bytes) = m ∷ []

abbrev numbers_in : Deed → List ℕ
numbers_in (deeds.Enter how m fresh calls) = []
numbers_in (deeds.Full how m of object size) = object ∷ size ∷ []
numbers_in (deeds.Failed how m by fresh calls gone) = []
numbers_in (deeds.Free m calls gone) = []
numbers_in (deeds.Exit calls gone) = []
numbers_in (deeds.Fault serial m p) = serial ∷ p.object ∷ p.page ∷ []
numbers_in (deeds.Write serial m object offset bytes) = serial ∷ object ∷ offset ∷ []
numbers_in (deeds.Debug serial m object offset bytes) = serial ∷ object ∷ offset ∷ []
numbers_in (deeds.Shared serial m object offset bytes) = serial ∷ object ∷ offset ∷ []

abbrev bytes_in : Deed → List ℕ
bytes_in (deeds.Enter how m fresh calls) = []
bytes_in (deeds.Full how m of object size) = []
bytes_in (deeds.Failed how m by fresh calls gone) = []
bytes_in (deeds.Free m calls gone) = []
bytes_in (deeds.Exit calls gone) = []
bytes_in (deeds.Fault serial m p) = []
bytes_in (deeds.Write serial m object offset bytes) = bytes
bytes_in (deeds.Debug serial m object offset bytes) = bytes
bytes_in (deeds.Shared serial m object offset bytes) = bytes

abbrev at : List ℕ → ℕ → ℕ
at ns k = get_or ns k 0

-- the deed of all that
abbrev rebuilt : ℕ → List ℕ → List ℕ → List ℕ → List Fresh → List Call → List Gone → Deed
rebuilt t ms ns bytes fresh calls gone =
    if t == 0 then deeds.Enter ways.Start (at ms 0) fresh calls
    else if t == 1 then deeds.Enter ways.Load (at ms 0) fresh calls
    else if t == 2 then deeds.Full ways.Start (at ms 0) (at ms 1) (at ns 0) (at ns 1)
    else if t == 3 then deeds.Full ways.Load (at ms 0) (at ms 1) (at ns 0) (at ns 1)
    else if t == 4 then deeds.Failed ways.Start (at ms 0) (at ms 1) fresh calls gone
    else if t == 5 then deeds.Failed ways.Load (at ms 0) (at ms 1) fresh calls gone
    else if t == 6 then deeds.Free (at ms 0) calls gone
    else if t == 7 then deeds.Exit calls gone
    else if t == 8 then deeds.Fault (at ns 0) (at ms 0) (record { object = at ns 1; page = at ns 2 })
    else if t == 9 then deeds.Write (at ns 0) (at ms 0) (at ns 1) (at ns 2) bytes
    else if t == 10 then deeds.Debug (at ns 0) (at ms 0) (at ns 1) (at ns 2) bytes
    else deeds.Shared (at ns 0) (at ms 0) (at ns 1) (at ns 2) bytes

is_rebuilt : (d : Deed) → rebuilt (tag d) (modules_in d) (numbers_in d) (bytes_in d) (fresh_in d) (calls_in d) (gone_in d) ≡ d
is_rebuilt (deeds.Enter ways.Start m fresh calls) = refl
is_rebuilt (deeds.Enter ways.Load m fresh calls) = refl
is_rebuilt (deeds.Full ways.Start m of object size) = refl
is_rebuilt (deeds.Full ways.Load m of object size) = refl
is_rebuilt (deeds.Failed ways.Start m by fresh calls gone) = refl
is_rebuilt (deeds.Failed ways.Load m by fresh calls gone) = refl
is_rebuilt (deeds.Free m calls gone) = refl
is_rebuilt (deeds.Exit calls gone) = refl
is_rebuilt (deeds.Fault serial m p) = refl
is_rebuilt (deeds.Write serial m object offset bytes) = refl
is_rebuilt (deeds.Debug serial m object offset bytes) = refl
is_rebuilt (deeds.Shared serial m object offset bytes) = refl

-- the same, from the words
abbrev is_word : List ℕ → List ℕ → Bool
is_word a b = bytes_eq a b

abbrev tag_told : Row → ℕ
tag_told [] = 12
tag_told (w ∷ []) = 7
tag_told (w ∷ m ∷ []) = if is_word w (codes "start") then 0 else if is_word w (codes "load") then 1 else 6
tag_told (w ∷ m ∷ x ∷ ws) =
    if is_word w (codes "start") then (if is_word x (codes "full") then 2 else 4)
    else if is_word w (codes "load") then (if is_word x (codes "full") then 3 else 5)
    else if is_word w (codes "fault") then 8
    else if is_word w (codes "write") then 9
    else if is_word w (codes "debug") then 10
    else 11

abbrev word_at : Row → ℕ → List ℕ
word_at ws k = get_or ws k []

abbrev modules_told : ℕ → Row → Row
modules_told t ws =
    if (t == 0) || (t == 1) || (t == 6) then word_at ws 1 ∷ []
    else if (t == 2) || (t == 3) || (t == 4) || (t == 5) then word_at ws 1 ∷ word_at ws 3 ∷ []
    else if t == 7 then []
    else word_at ws 2 ∷ []

abbrev numbers_told : ℕ → Row → Row
numbers_told t ws =
    if (t == 2) || (t == 3) then word_at ws 4 ∷ word_at ws 5 ∷ []
    else if (t == 8) || (t == 9) || (t == 10) || (t == 11) then word_at ws 1 ∷ word_at ws 3 ∷ word_at ws 4 ∷ []
    else []

abbrev bytes_told : ℕ → Row → Row
bytes_told t ws = if (t == 9) || (t == 10) || (t == 11) then drop 6 ws else []

record IsTold (lib : Library) (d : Deed) : Type 0 where
  tags : tag_told (deed_words lib d) ≡ tag d
  modules : modules_told (tag d) (deed_words lib d) ≡ map (module_text lib) (modules_in d)
  numbers : numbers_told (tag d) (deed_words lib d) ≡ map decimal (numbers_in d)
  bytes : bytes_told (tag d) (deed_words lib d) ≡ map hex_byte (bytes_in d)

is_told : (lib : Library) (d : Deed) → IsTold lib d
is_told lib (deeds.Enter ways.Start m fresh calls) = record { tags = refl; modules = refl; numbers = refl; bytes = refl }
is_told lib (deeds.Enter ways.Load m fresh calls) = record { tags = refl; modules = refl; numbers = refl; bytes = refl }
is_told lib (deeds.Full ways.Start m of object size) = record { tags = refl; modules = refl; numbers = refl; bytes = refl }
is_told lib (deeds.Full ways.Load m of object size) = record { tags = refl; modules = refl; numbers = refl; bytes = refl }
is_told lib (deeds.Failed ways.Start m by fresh calls gone) = record { tags = refl; modules = refl; numbers = refl; bytes = refl }
is_told lib (deeds.Failed ways.Load m by fresh calls gone) = record { tags = refl; modules = refl; numbers = refl; bytes = refl }
is_told lib (deeds.Free m calls gone) = record { tags = refl; modules = refl; numbers = refl; bytes = refl }
is_told lib (deeds.Exit calls gone) = record { tags = refl; modules = refl; numbers = refl; bytes = refl }
is_told lib (deeds.Fault serial m p) = record { tags = refl; modules = refl; numbers = refl; bytes = refl }
is_told lib (deeds.Write serial m object offset bytes) = record { tags = refl; modules = refl; numbers = refl; bytes = refl }
is_told lib (deeds.Debug serial m object offset bytes) = record { tags = refl; modules = refl; numbers = refl; bytes = refl }
is_told lib (deeds.Shared serial m object offset bytes) = record { tags = refl; modules = refl; numbers = refl; bytes = refl }

-- ---- what is in range

wide : (n : ℕ) → Has32 n → Has64 n
wide n h = omega (arith, h)

record InRange (lib : Library) (d : Deed) : Type 0 where
  modules : AllByRecursion (IsModuleOf lib) (modules_in d)
  numbers : AllByRecursion Has64 (numbers_in d)
  bytes : AllByRecursion IsByte (bytes_in d)
  fresh : AllByRecursion (IsFresh lib) (fresh_in d)
  calls : AllByRecursion (IsCall lib) (calls_in d)
  gone : AllByRecursion (IsGone lib) (gone_in d)

in_range : (lib : Library) (d : Deed) → IsDeed lib d → InRange lib d
in_range lib (deeds.Enter how m fresh calls) h = record { modules = (h.0, tt); numbers = tt; bytes = tt; fresh = h.1; calls = h.2; gone = tt }
in_range lib (deeds.Full how m of object size) h = record { modules = (h.0, (h.1, tt)); numbers = (wide object h.2, (wide size h.3, tt)); bytes = tt; fresh = tt; calls = tt; gone = tt }
in_range lib (deeds.Failed how m by fresh calls gone) h = record { modules = (h.0, (h.1, tt)); numbers = tt; bytes = tt; fresh = h.2; calls = h.3; gone = h.4 }
in_range lib (deeds.Free m calls gone) h = record { modules = (h.0, tt); numbers = tt; bytes = tt; fresh = tt; calls = h.1; gone = h.2 }
in_range lib (deeds.Exit calls gone) h = record { modules = tt; numbers = tt; bytes = tt; fresh = tt; calls = h.0; gone = h.1 }
in_range lib (deeds.Fault serial m p) h = record { modules = (h.0.1, tt); numbers = (h.0.0, (wide p.object h.1, (wide p.page h.2, tt))); bytes = tt; fresh = tt; calls = tt; gone = tt }
in_range lib (deeds.Write serial m object offset bytes) h = record { modules = (h.0.1, tt); numbers = (h.0.0, (wide object h.1, (wide offset h.2, tt))); bytes = h.3; fresh = tt; calls = tt; gone = tt }
in_range lib (deeds.Debug serial m object offset bytes) h = record { modules = (h.0.1, tt); numbers = (h.0.0, (wide object h.1, (wide offset h.2, tt))); bytes = h.3; fresh = tt; calls = tt; gone = tt }
in_range lib (deeds.Shared serial m object offset bytes) h = record { modules = (h.0.1, tt); numbers = (h.0.0, (wide object h.1, (wide offset h.2, tt))); bytes = h.3; fresh = tt; calls = tt; gone = tt }

-- ---- the words have no breaks

how_word : (how : How) → IsWord (how_text how)
how_word ways.Start = refl
how_word ways.Load = refl

call_kind_word : (k : CallKind) → IsWord (kind_text k)
call_kind_word kinds.Init = refl
call_kind_word kinds.Term = refl
call_kind_word kinds.Main = refl

pub deed_are_words : (lib : Library) (d : Deed) → IsDeed lib d → AllByRecursion IsWord (deed_words lib d)
deed_are_words lib (deeds.Enter how m fresh calls) h = (how_word how, (module_word lib m, tt))
deed_are_words lib (deeds.Full how m of object size) h =
    (how_word how, (module_word lib m, (refl, (module_word lib of, (count-word object (wide object h.2), (count-word size (wide size h.3), tt))))))
deed_are_words lib (deeds.Failed how m by fresh calls gone) h = (how_word how, (module_word lib m, (refl, (module_word lib by, tt))))
deed_are_words lib (deeds.Free m calls gone) h = (refl, (module_word lib m, tt))
deed_are_words lib (deeds.Exit calls gone) h = (refl, tt)
deed_are_words lib (deeds.Fault serial m p) h =
    (refl, (count-word serial h.0.0, (module_word lib m, (count-word p.object (wide p.object h.1), (count-word p.page (wide p.page h.2), tt)))))
deed_are_words lib (deeds.Write serial m object offset bytes) h =
    (refl, (count-word serial h.0.0, (module_word lib m, (count-word object (wide object h.1), (count-word offset (wide offset h.2), (refl, bytes_are_words bytes))))))
deed_are_words lib (deeds.Debug serial m object offset bytes) h =
    (refl, (count-word serial h.0.0, (module_word lib m, (count-word object (wide object h.1), (count-word offset (wide offset h.2), (refl, bytes_are_words bytes))))))
deed_are_words lib (deeds.Shared serial m object offset bytes) h =
    (refl, (count-word serial h.0.0, (module_word lib m, (count-word object (wide object h.1), (count-word offset (wide offset h.2), (refl, bytes_are_words bytes))))))

fresh_rows : (lib : Library) (xs : List Fresh) → AllByRecursion (IsFresh lib) xs → AllByRecursion IsRow (map (new_row lib) xs)
fresh_rows lib [] h = tt
fresh_rows lib (x ∷ xs) h =
    ((omega arith, (refl, (refl, (refl, (count-word x.serial h.0.0.0, (module_word lib x.«module», addresses_words x.bases)))))), fresh_rows lib xs h.1)

call_rows : (lib : Library) (xs : List Call) → AllByRecursion (IsCall lib) xs → AllByRecursion IsRow (map (call_row lib) xs)
call_rows lib [] h = tt
call_rows lib (x ∷ xs) h =
    ((omega arith, (refl, (refl, (refl, (call_kind_word x.kind, (count-word x.serial h.0.0.0, (module_word lib x.«module», (address-word x.address, tt)))))))), call_rows lib xs h.1)

gone_rows : (lib : Library) (xs : List Gone) → AllByRecursion (IsGone lib) xs → AllByRecursion IsRow (map (gone_row lib) xs)
gone_rows lib [] h = tt
gone_rows lib (x ∷ xs) h = ((omega arith, (refl, (refl, (refl, (count-word x.serial h.0.0, (module_word lib x.«module», tt)))))), gone_rows lib xs h.1)

pub deed_are_rows : (lib : Library) (d : Deed) → IsDeed lib d → AllByRecursion IsRow (deed_rows lib d)
deed_are_rows lib d h =
    let r = in_range lib d h in
    all_joined IsRow (news lib d) (its_calls lib d ++ leavers lib d) (fresh_rows lib (fresh_in d) r.fresh)
    (all_joined IsRow (its_calls lib d) (leavers lib d) (call_rows lib (calls_in d) r.calls) (gone_rows lib (gone_in d) r.gone))

-- ---- all of it

-- in front of a line that is no part of the entry
abbrev pub BeginsLater : List Row → Type 0
BeginsLater rows = (BeginsOther 0 rows) × (BeginsOther 1 rows) × (BeginsOther 2 rows)

after_calls : (lib : Library) (k : ℕ) (xs : List Call) (rows : List Row) → (1 ≡ k → ⊥) → BeginsOther k rows → BeginsOther k (map (call_row lib) xs ++ rows)
after_calls lib k [] rows apart h = h
after_calls lib k (x ∷ xs) rows apart h = apart

after_gone : (lib : Library) (k : ℕ) (xs : List Gone) (rows : List Row) → (2 ≡ k → ⊥) → BeginsOther k rows → BeginsOther k (map (gone_row lib) xs ++ rows)
after_gone lib k [] rows apart h = h
after_gone lib k (x ∷ xs) rows apart h = apart

pub deed_one : (lib : Library) → HasNames lib → (d e : Deed) (r q : List Row) → IsDeed lib d → IsDeed lib e → BeginsLater r → BeginsLater q → deed_words lib d ≡ deed_words lib e →
    deed_rows lib d ++ r ≡ deed_rows lib e ++ q → (d ≡ e) × (r ≡ q)
deed_one lib names d e r q hd he lr lq words is =
    let x = in_range lib d hd in
    let y = in_range lib e he in
    let parts : (d : Deed) (r : List Row) → deed_rows lib d ++ r ≡ news lib d ++ (its_calls lib d ++ (leavers lib d ++ r)) =
    λ d r. append_assoc (news lib d) (its_calls lib d ++ leavers lib d) r ∙ ap (λ l. news lib d ++ l) (append_assoc (its_calls lib d) (leavers lib d) r) in
    let first = split_kind 0 (news lib d) (news lib e) (its_calls lib d ++ (leavers lib d ++ r)) (its_calls lib e ++ (leavers lib e ++ q))
    (map_kind 0 (new_row lib) (λ a. refl) (fresh_in d)) (map_kind 0 (new_row lib) (λ a. refl) (fresh_in e))
    (after_calls lib 0 (calls_in d) (leavers lib d ++ r) (λ z. omega (arith, z)) (after_gone lib 0 (gone_in d) r (λ z. omega (arith, z)) lr.0))
    (after_calls lib 0 (calls_in e) (leavers lib e ++ q) (λ z. omega (arith, z)) (after_gone lib 0 (gone_in e) q (λ z. omega (arith, z)) lq.0))
    (sym (parts d r) ∙ is ∙ parts e q) in
    let second = split_kind 1 (its_calls lib d) (its_calls lib e) (leavers lib d ++ r) (leavers lib e ++ q)
    (map_kind 1 (call_row lib) (λ a. refl) (calls_in d)) (map_kind 1 (call_row lib) (λ a. refl) (calls_in e))
    (after_gone lib 1 (gone_in d) r (λ z. omega (arith, z)) lr.1) (after_gone lib 1 (gone_in e) q (λ z. omega (arith, z)) lq.1) first.1 in
    let third = split_kind 2 (leavers lib d) (leavers lib e) r q (map_kind 2 (gone_row lib) (λ a. refl) (gone_in d)) (map_kind 2 (gone_row lib) (λ a. refl) (gone_in e)) lr.2 lq.2 second.1 in
    let fresh : fresh_in d ≡ fresh_in e = map_one (new_row lib) (IsFresh lib) (fresh_one lib names) (fresh_in d) (fresh_in e) x.fresh y.fresh first.0 in
    let calls : calls_in d ≡ calls_in e = map_one (call_row lib) (IsCall lib) (call_one lib names) (calls_in d) (calls_in e) x.calls y.calls second.0 in
    let gone : gone_in d ≡ gone_in e = map_one (gone_row lib) (IsGone lib) (gone_one lib names) (gone_in d) (gone_in e) x.gone y.gone third.0 in
    let told : IsTold lib d = is_told lib d in
    let other : IsTold lib e = is_told lib e in
    let tags : tag d ≡ tag e = sym told.tags ∙ ap tag_told words ∙ other.tags in
    let modules : modules_in d ≡ modules_in e =
    modules_one lib names (modules_in d) (modules_in e) x.modules y.modules (sym told.modules ∙ (λ i. modules_told (tags i) (words i)) ∙ other.modules) in
    let numbers : numbers_in d ≡ numbers_in e =
    numbers_one (numbers_in d) (numbers_in e) x.numbers y.numbers (sym told.numbers ∙ (λ i. numbers_told (tags i) (words i)) ∙ other.numbers) in
    let bytes : bytes_in d ≡ bytes_in e =
    bytes_one (bytes_in d) (bytes_in e) x.bytes y.bytes (sym told.bytes ∙ (λ i. bytes_told (tags i) (words i)) ∙ other.bytes) in
    (sym (is_rebuilt d) ∙ (λ i. rebuilt (tags i) (modules i) (numbers i) (bytes i) (fresh i) (calls i) (gone i)) ∙ is_rebuilt e, third.1)
