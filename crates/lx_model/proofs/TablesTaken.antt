-- Name tables and groups of iterated data that are read are spelled so.
use Rattle.std.proofs.Common.{◌≡◌, ℕ, zero, suc, ◌+◌, ◌*◌, ◌<◌, ◌≤◌, ◌^◌, Bool, true, false, cond, eqb, ltb, List, [], ◌∷◌, ◌++◌, length, Option, Some, None, Result, Ok, Err, refl, sym, subst, ap, ◌∙◌, append_assoc, arith, length-append}
use Rattle.std.specs.List.{flat_map, repeat, AllByRecursion as Each}
use Rattle.std.proofs.lemmas.Bool.{ltb-false, eqb-true}
use Rattle.std.proofs.lemmas.Bool.Decides.{nat_tests}
use Rattle.std.proofs.Math.Nat.{suc-mul}
use Rattle.lx_bytes.specs.Cursor.{Cursor}
use Rattle.lx_bytes.specs.LittleEndian.{AreBytes, little_bytes}
use Rattle.lx_types.specs.declared.refusal.LxRefusal.{LxRefusal}
use Rattle.lx_types.specs.declared.refusal.LxKind.TheVariants.{TooLong}
use Rattle.lx_types.specs.declared.object.TheConstants.{PAGE_SIZE}
use Rattle.lx_model.specs.Reading.{fault, cursor, text, number, Read, ◌>>=◌, ends, Many, many}
use Rattle.lx_model.specs.NameTables.{Named, name_entry, names_in, name_spelling, names_spelling, NameFits}
use Rattle.lx_model.specs.Iterated.{Group, group_spelling, groups_spelling, group_data, groups_data, GroupFits, group_fields, fault_at, group_at, expansion}
use Rattle.lx_model.proofs.Many.{whole_ends, Cases, many_holds}
use Rattle.lx_model.proofs.Shortening.{name_shortens, group_shortens}
use Rattle.lx_model.proofs.Steps.{bind_ok, guard_ok, done}
use Rattle.lx_model.proofs.Takes.{Takes, Takes-then, number_takes, text_takes}
use Rattle.lx_model.proofs.RecordsTaken.{byte_taken}

-- ---- names

-- what a step took: the end, or a name
abbrev pub EntryTaken : Cursor → Option (Named × Unit {0}) → Cursor → Type 0
EntryTaken c None d = Takes c (0 ∷ []) d
EntryTaken c (Some x) d = NameFits x.0 × Takes c (name_spelling x.0) d

pub positive : (n : ℕ) → eqb n 0 ≡ false → 0 < n
positive n h = grind (arith, nat_tests)

abbrev named_read : List ℕ → ℕ → Cursor → Read (Option (Named × Unit {0}))
named_read name ordinal c = Ok (Some ((name, ordinal), tt), c)

by_length : (c l d : Cursor) (len : ℕ) (o : Option (Named × Unit {0})) (none : Bool) → eqb len 0 ≡ none → len < 256 ^ 1 → Takes c (len ∷ []) l →
    cond none (ends l) (text len l >>= λ name. number 2 name.1 >>= λ ordinal. named_read name.0 ordinal.0 ordinal.1) ≡ Ok (o, d) → EntryTaken c o d
by_length c l d len o true is lt first e =
    let pair : (None, l) ≡ (o, d) = cc in
    let zero_len = eqb-true len 0 is in
    subst (λ (p : Option (Named × Unit {0}) × Cursor). EntryTaken c p.0 p.1) pair (subst (λ (x : ℕ). Takes c (x ∷ []) l) zero_len first)
by_length c l d len o false is lt first e =
    let step = bind_ok (text len l) (λ name. number 2 name.1 >>= λ ordinal. named_read name.0 ordinal.0 ordinal.1) (o, d) e in
    let name = step.0 in
    let a = text_takes len l name.1 name.0 first.rest step.1 in
    let last = bind_ok (number 2 name.1) (λ ordinal. named_read name.0 ordinal.0 ordinal.1) (o, d) step.2 in
    let ordinal = last.0 in
    let b = number_takes 2 name.1 ordinal.1 ordinal.0 a.taken.rest last.1 in
    let pair : (Some ((name.0, ordinal.0), tt), ordinal.1) ≡ (o, d) = cc in
    let some = positive len is in
    let bytes = Takes-then c l ordinal.1 (len ∷ []) (name.0 ++ little_bytes 2 ordinal.0) first (Takes-then l name.1 ordinal.1 name.0 (little_bytes 2 ordinal.0) a.taken b.taken) in
    let spelled = subst (λ (x : ℕ). Takes c (x ∷ (name.0 ++ little_bytes 2 ordinal.0)) ordinal.1) (sym a.len) bytes in
    let fits : NameFits (name.0, ordinal.0) = record { some = rw a.len some; short = rw a.len lt; ordinal = b.below } in
    subst (λ (p : Option (Named × Unit {0}) × Cursor). EntryTaken c p.0 p.1) pair (fits, spelled)

pub entry_taken : (known : Unit {0}) (c d : Cursor) (o : Option (Named × Unit {0})) → AreBytes c.left → name_entry known c ≡ Ok (o, d) → EntryTaken c o d
unfolding name_entry
entry_taken known c d o h e =
    let step = bind_ok (number 1 c) (λ len. cond (eqb len.0 0) (ends len.1) (text len.0 len.1 >>= λ name. number 2 name.1 >>= λ ordinal. named_read name.0 ordinal.0 ordinal.1)) (o, d) e in
    let len = step.0 in
    let a = number_takes 1 c len.1 len.0 h step.1 in
    by_length c len.1 d len.0 o (eqb len.0 0) refl a.below (byte_taken c len.1 len.0 a.below a.taken) step.2

pub record NamesTaken (c : Cursor) (ns : List Named) (d : Cursor) : Type 0 where
  pub fits : Each NameFits ns
  pub taken : Takes c (names_spelling ns) d

abbrev AreTaken : Unit {0} → Cursor → Many Named → Type 0
AreTaken known c m = AreBytes c.left → (d : Cursor) → m.end ≡ Ok d → NamesTaken c m.items d

regroup : (a b c : List ℕ) → a ++ (b ++ c) ≡ (a ++ b) ++ c
regroup a b c = sym (append_assoc a b c)

names_taken : Cases name_entry AreTaken
names_taken = record {
  none = λ known c d e h end is.
      let same : d ≡ end = cc in
      let here : NamesTaken c [] d = record { fits = tt; taken = entry_taken known c d None h e } in
      subst (λ (x : Cursor). NamesTaken c [] x) same here;
  wrong = λ known c e is h end ok. absurd cc;
  more = λ known c d x m e again h end is.
      let first = entry_taken known c d (Some x) h e in
      let rest = again first.1.rest end is in
      let all = Takes-then c d end (name_spelling x.0) (names_spelling m.items) first.1 rest.taken in
      record { fits = (first.0, rest.fits); taken = subst (λ (t : List ℕ). Takes c t end) (regroup (name_spelling x.0) (flat_map name_spelling m.items) (0 ∷ [])) all };
}

pub record TableTaken (bytes : List ℕ) (ns : List Named) : Type 0 where
  pub end : Cursor
  pub all : NamesTaken (cursor 0 bytes) ns end

pub table_taken : (bytes : List ℕ) (ns : List Named) → AreBytes bytes → names_in bytes ≡ Ok ns → TableTaken bytes ns
table_taken bytes ns h e =
    let m = many name_entry tt (cursor 0 bytes) in
    let ok = whole_ends m ns e in
    record { end = ok.0; all = subst (λ (x : List Named). NamesTaken (cursor 0 bytes) x ok.0) ok.2 (many_holds name_entry AreTaken name_shortens names_taken tt (cursor 0 bytes) h ok.0 ok.1) }

-- ---- groups

pub record GroupTaken (c : Cursor) (g : Group) (d : Cursor) : Type 0 where
  pub fits : GroupFits g
  pub taken : Takes c (group_spelling g) d

abbrev group_read : ℕ → List ℕ → Cursor → Read Group
group_read times bytes c = Ok (record { times = times; bytes = bytes }, c)

fields_taken : (c d : Cursor) (g : Group) → AreBytes c.left → group_fields c ≡ Ok (g, d) → GroupTaken c g d
unfolding group_fields
fields_taken c d g h e =
    let first = bind_ok (number 2 c) (λ times. number 2 times.1 >>= λ len. text len.0 len.1 >>= λ bytes. group_read times.0 bytes.0 bytes.1) (g, d) e in
    let times = first.0 in
    let a = number_takes 2 c times.1 times.0 h first.1 in
    let second = bind_ok (number 2 times.1) (λ len. text len.0 len.1 >>= λ bytes. group_read times.0 bytes.0 bytes.1) (g, d) first.2 in
    let len = second.0 in
    let b = number_takes 2 times.1 len.1 len.0 a.taken.rest second.1 in
    let third = bind_ok (text len.0 len.1) (λ bytes. group_read times.0 bytes.0 bytes.1) (g, d) second.2 in
    let bytes = third.0 in
    let t = text_takes len.0 len.1 bytes.1 bytes.0 b.taken.rest third.1 in
    let pair : (record { times = times.0; bytes = bytes.0 }, bytes.1) ≡ (g, d) = (let last = third.2 in cc) in
    let size = t.len in
    let length-taken : Takes times.1 (little_bytes 2 (length bytes.0)) len.1 = subst (λ (n : ℕ). Takes times.1 (little_bytes 2 n) len.1) (sym size) b.taken in
    let here : GroupTaken c (record { times = times.0; bytes = bytes.0 }) bytes.1 = record {
      fits = record { times = a.below; bytes = rw size b.below };
      taken = Takes-then c len.1 bytes.1 (little_bytes 2 times.0 ++ little_bytes 2 (length bytes.0)) bytes.0
          (Takes-then c times.1 len.1 (little_bytes 2 times.0) (little_bytes 2 (length bytes.0)) a.taken length-taken) t.taken;
    } in
    subst (λ (p : Group × Cursor). GroupTaken c p.0 p.1) pair here

fault_at_ok : {A : Type 0} (at : ℕ) (r : Result A LxRefusal) (x : A) → fault_at at r ≡ Ok x → r ≡ Ok x
fault_at_ok at (Ok y) x e = e
fault_at_ok at (Err f) x e = absurd cc

-- no bytes are left, or a group with what is given up to its end
abbrev pub StepTaken : ℕ → Cursor → Option (Group × ℕ) → Cursor → Type 0
StepTaken before c None d = (c ≡ d) × (length c.left ≡ 0)
StepTaken before c (Some x) d = GroupTaken c x.0 d × (x.1 ≡ before + x.0.times * length x.0.bytes) × (x.1 ≤ PAGE_SIZE)

by_left : (before : ℕ) (c d : Cursor) (o : Option (Group × ℕ)) (none : Bool) → AreBytes c.left → eqb (length c.left) 0 ≡ none →
    cond none (ends c) (fault_at c.at (group_fields c) >>= λ group. cond (ltb PAGE_SIZE (before + group.0.times * length group.0.bytes))
    (Err (fault TooLong c.at)) (done (Some (group.0, before + group.0.times * length group.0.bytes), group.1))) ≡ Ok (o, d) →
    StepTaken before c o d
by_left before c d o true h is e =
    let pair : (None, c) ≡ (o, d) = cc in
    subst (λ (p : Option (Group × ℕ) × Cursor). StepTaken before c p.0 p.1) pair (refl, eqb-true (length c.left) 0 is)
by_left before c d o false h is e =
    let first = bind_ok (fault_at c.at (group_fields c)) (λ group. cond (ltb PAGE_SIZE (before + group.0.times * length group.0.bytes))
    (Err (fault TooLong c.at)) (done (Some (group.0, before + group.0.times * length group.0.bytes), group.1))) (o, d) e in
    let group = first.0 in
    let given = before + group.0.times * length group.0.bytes in
    let guard = guard_ok (ltb PAGE_SIZE given) (fault TooLong c.at) (done (Some (group.0, given), group.1)) (o, d) first.2 in
    let taken = fields_taken c group.1 group.0 h (fault_at_ok c.at (group_fields c) group first.1) in
    let pair : (Some (group.0, given), group.1) ≡ (o, d) = (let last = guard.1 in cc) in
    subst (λ (p : Option (Group × ℕ) × Cursor). StepTaken before c p.0 p.1) pair (taken, refl, ltb-false PAGE_SIZE given guard.0)

pub group_taken : (before : ℕ) (c d : Cursor) (o : Option (Group × ℕ)) → AreBytes c.left → group_at before c ≡ Ok (o, d) → StepTaken before c o d
unfolding group_at
group_taken before c d o h e = by_left before c d o (eqb (length c.left) 0) h refl e

pub length-repeat : (n : ℕ) (xs : List ℕ) → length (repeat n xs) ≡ n * length xs
length-repeat zero xs = omega arith
length-repeat (suc n) xs = let rest = length-repeat n xs in let product = suc-mul n (length xs) in omega (arith, rest, product, length-append xs (repeat n xs))

-- what groups gave, with what is given before them
pub record GroupsTaken (before : ℕ) (c : Cursor) (gs : List Group) : Type 0 where
  pub fits : Each GroupFits gs
  pub parts : c.left ≡ groups_spelling gs
  pub few : before ≤ PAGE_SIZE → before + length (groups_data gs) ≤ PAGE_SIZE

abbrev GroupsAre : ℕ → Cursor → Many Group → Type 0
GroupsAre before c m = AreBytes c.left → (d : Cursor) → m.end ≡ Ok d → GroupsTaken before c m.items

pub empty : (xs : List ℕ) → length xs ≡ 0 → xs ≡ []
empty [] e = refl
empty (x ∷ xs) e = absurd (omega arith)

groups_taken : Cases group_at GroupsAre
groups_taken = record {
  none = λ before c d e h end is.
      let t = group_taken before c d None h e in
      record { fits = tt; parts = empty c.left t.1; few = λ (le : before ≤ PAGE_SIZE). omega arith };
  wrong = λ before c e is h end ok. absurd cc;
  more = λ before c d x m e again h end is.
      let t = group_taken before c d (Some x) h e in
      let rest = again t.0.taken.rest end is in
      let size = length-repeat x.0.times x.0.bytes in
      let sum = length-append (group_data x.0) (groups_data m.items) in
      record {
        fits = (t.0.fits, rest.fits);
        parts = t.0.taken.parts ∙ ap (λ (y : List ℕ). group_spelling x.0 ++ y) rest.parts;
        few = λ (le : before ≤ PAGE_SIZE). let given = t.1 in let small = t.2 in let others = rest.few small in omega (arith, given, others, size, sum);
      };
}

pub record DataTaken (bytes given : List ℕ) : Type 0 where
  pub groups : List Group
  pub all : GroupsTaken 0 (cursor 0 bytes) groups
  pub means : groups_data groups ≡ given

pub data_taken : (bytes given : List ℕ) → AreBytes bytes → expansion bytes ≡ Ok given → DataTaken bytes given
data_taken bytes given h e =
    let m = many group_at 0 (cursor 0 bytes) in
    let first = bind_ok (m.end >>= λ _. Ok m.items) (λ groups. done (groups_data groups)) given e in
    let ok = whole_ends m first.0 first.1 in
    let same : groups_data first.0 ≡ given = (let last = first.2 in cc) in
    record { groups = first.0; all = subst (λ (x : List Group). GroupsTaken 0 (cursor 0 bytes) x) ok.2 (many_holds group_at GroupsAre group_shortens groups_taken 0 (cursor 0 bytes) h ok.0 ok.1); means = same }
