-- Where names, import modules and groups of iterated data are wrong.
use Rattle.std.proofs.Common.{◌≡◌, ℕ, zero, suc, ◌+◌, ◌-◌, ◌*◌, ◌<◌, ◌≤◌, ◌⊎◌, Bool, true, false, cond, eqb, ltb, Option, Some, List, [], ◌∷◌, ◌++◌, length, take, drop, Ok, Err, refl, sym, subst, ap, ◌∙◌, arith, inl, inr}
use Rattle.std.proofs.lemmas.Bool.{ltb-true, lt-ltb, cases_lt, eqb-true}
use Rattle.std.proofs.lemmas.List.{length-drop, length-take}
use Rattle.lx_bytes.specs.Cursor.{Cursor, advance}
use Rattle.lx_bytes.specs.LittleEndian.{AreBytes, little}
use Rattle.lx_types.specs.declared.refusal.LxRefusal.{LxRefusal}
use Rattle.lx_types.specs.declared.refusal.LxKind.TheVariants as kinds
use Rattle.lx_types.specs.declared.object.TheConstants.{PAGE_SIZE}
use Rattle.lx_model.specs.Reading.{fault, cursor, number_at, text, number, Read, ◌>>=◌, ends}
use Rattle.lx_model.specs.NameTables.{Named, name_entry, name_spelling, NameFits, import_name, import_entry, import_spelling}
use Rattle.lx_model.specs.Iterated.{Group, group_spelling, group_fields, fault_at, group_at}
use Rattle.lx_model.specs.Faults.{IsCutAmong, FieldThen, PassesEnd, WrongName, WrongImport, WrongGroup}
use Rattle.lx_model.specs.FaultLaws.{ImportGoes, GroupGoes, given_with}
use Rattle.lx_model.proofs.FaultsAfter.{Table}
use Rattle.lx_model.proofs.FaultyFields.{guard_err, number_err, text_err, number_cut, number_there, text_cut, text_there, regroup}
use Rattle.lx_model.proofs.ImportsRead.{name_reads, name_taken}
use Rattle.lx_model.proofs.NamesRead.{entry_reads, not_zero}
use Rattle.lx_model.proofs.PagesRead.{group_read}
use Rattle.lx_model.proofs.Shortening.{name_shortens, import_shortens, group_shortens}
use Rattle.lx_model.proofs.Steps.{done, chosen, other}
use Rattle.lx_model.proofs.TablesTaken.{entry_taken, group_taken, positive}

-- ---- names

abbrev after_name : List ℕ × Cursor → Read (Option (Named × Unit {0}))
after_name name = number 2 name.1 >>= λ ordinal. done (Some ((name.0, ordinal.0), tt), ordinal.1)

name_after : (len : ℕ) (d : Cursor) (e : LxRefusal) (none : Bool) → eqb len 0 ≡ none → cond none (ends d) (text len d >>= after_name) ≡ Err e → (0 < len) × IsCutAmong (len ∷ 2 ∷ []) d e
name_after len d e true is fails = absurd cc
name_after len d e false is fails = (
  positive len is,
  elim (text_err len d after_name e fails) [
    | inl cut ↦ inl cut
    | inr there ↦ inr (
      there.0,
      elim (number_err 2 (advance len d) (λ ordinal. done (Some ((take len d.left, ordinal.0), tt), ordinal.1)) e there.1) [
        | inl cut ↦ inl cut
        | inr more ↦ absurd (let no = more.1 in cc)
      ],
    )
  ],
)

name_fails : (known : Unit {0}) (c : Cursor) (e : LxRefusal) → AreBytes c.left → name_entry known c ≡ Err e → WrongName known c e
unfolding name_entry
name_fails known c e h fails = elim (number_err 1 c (λ len. cond (eqb len.0 0) (ends len.1) (text len.0 len.1 >>= after_name)) e fails) [
  | inl cut ↦ inl cut
  | inr there ↦ inr (there.0, name_after (little (take 1 c.left)) (advance 1 c) e (eqb (little (take 1 c.left)) 0) refl there.1)
]

name_cut : (len : ℕ) (d : Cursor) (e : LxRefusal) → IsCutAmong (len ∷ 2 ∷ []) d e → (text len d >>= after_name) ≡ Err e
name_cut len d e wrong = elim wrong [
  | inl cut ↦ text_cut len d after_name e cut
  | inr there ↦ text_there len d after_name (Err e) there.0 (elim there.1 [
    | inl cut ↦ number_cut 2 (advance len d) (λ ordinal. done (Some ((take len d.left, ordinal.0), tt), ordinal.1)) e cut
    | inr more ↦ absurd more.1
  ])
]

name_failed : (known : Unit {0}) (c : Cursor) (e : LxRefusal) → WrongName known c e → name_entry known c ≡ Err e
unfolding name_entry
name_failed known c e wrong =
    let f : ℕ × Cursor → Read (Option (Named × Unit {0})) = λ len. cond (eqb len.0 0) (ends len.1) (text len.0 len.1 >>= after_name) in
    elim wrong [
      | inl cut ↦ number_cut 1 c f e cut
      | inr there ↦ number_there 1 c f (Err e) there.0 (let len = little (take 1 c.left) in
          other (eqb len 0) (ends (advance 1 c)) (text len (advance 1 c) >>= after_name) (not_zero len there.1.0) ∙ name_cut len (advance 1 c) e there.1.1)
    ]

pub name_table : Table name_entry name_spelling (λ _ n. NameFits n) (λ s _. s) WrongName
name_table = record {
  shorter = name_shortens;
  taken = λ s c d o h e. let t = entry_taken s c d (Some o) h e in record { written = o.0; good = t.0; taken = t.1 };
  reads = λ s n fits at rest. (n, entry_reads n fits at rest);
  fails = name_fails;
  failed = name_failed;
}

-- ---- import modules

abbrev by_len : ℕ → ℕ × Cursor → Read (List ℕ)
by_len at len = cond (eqb len.0 0) (Err (fault kinds.ImportTable at)) (text len.0 len.1)

abbrev numbered : ℕ → List ℕ × Cursor → Read (Option (List ℕ × ℕ))
numbered n name = Ok (Some (name.0, n), name.1)

abbrev WrongAlone : Cursor → LxRefusal → Type 0
WrongAlone c e = FieldThen 1 c e (λ len d. ((len ≡ 0) × (e ≡ fault kinds.ImportTable c.at)) ⊎ ((0 < len) × IsCutAmong (len ∷ []) d e))

import_after : (at n len : ℕ) (d : Cursor) (e : LxRefusal) (none : Bool) → eqb len 0 ≡ none → (cond none (Err (fault kinds.ImportTable at)) (text len d) >>= numbered n) ≡ Err e →
    ((len ≡ 0) × (e ≡ fault kinds.ImportTable at)) ⊎ ((0 < len) × IsCutAmong (len ∷ []) d e)
import_after at n len d e true is fails = inl (eqb-true len 0 is, (let same : fault kinds.ImportTable at ≡ e = cc in sym same))
import_after at n len d e false is fails = inr (
  positive len is,
  elim (text_err len d (numbered n) e fails) [
    | inl cut ↦ inl cut
    | inr there ↦ absurd (let no = there.1 in cc)
  ],
)

regrouped : (c : Cursor) (n : ℕ) → (import_name c >>= numbered n) ≡ (number 1 c >>= λ len. by_len c.at len >>= numbered n)
unfolding import_name
regrouped c n = regroup (number 1 c) (by_len c.at) (numbered n)

import_fails : (due : ℕ) (c : Cursor) (e : LxRefusal) → AreBytes c.left → import_entry due c ≡ Err e → WrongImport due c e
unfolding import_entry
import_fails zero c e h fails = absurd cc
import_fails (suc n) c e h fails = (
  omega arith,
  elim (number_err 1 c (λ len. by_len c.at len >>= numbered n) e (sym (regrouped c n) ∙ fails)) [
    | inl cut ↦ inl cut
    | inr there ↦ inr (there.0, import_after c.at n (little (take 1 c.left)) (advance 1 c) e (eqb (little (take 1 c.left)) 0) refl there.1)
  ],
)

import_wrong : (at n len : ℕ) (d : Cursor) (e : LxRefusal) → ((len ≡ 0) × (e ≡ fault kinds.ImportTable at)) ⊎ ((0 < len) × IsCutAmong (len ∷ []) d e) → (by_len at (len, d) >>= numbered n) ≡ Err e
import_wrong at n len d e (inl empty) = let zero_len = empty.0 in let same = empty.1 in rw (zero_len, same) refl
import_wrong at n len d e (inr some) =
    ap (λ (r : Read (List ℕ)). r >>= numbered n) (other (eqb len 0) (Err (fault kinds.ImportTable at)) (text len d) (not_zero len some.0))
    ∙ elim some.1 [
      | inl cut ↦ text_cut len d (numbered n) e cut
      | inr there ↦ absurd there.1
    ]

import_failed : (due : ℕ) (c : Cursor) (e : LxRefusal) → WrongImport due c e → import_entry due c ≡ Err e
unfolding import_entry
import_failed zero c e wrong = absurd (omega (arith, wrong.0))
import_failed (suc n) c e wrong = regrouped c n ∙ elim wrong.1 [
  | inl cut ↦ number_cut 1 c (λ len. by_len c.at len >>= numbered n) e cut
  | inr there ↦ number_there 1 c (λ len. by_len c.at len >>= numbered n) (Err e) there.0 (import_wrong c.at n (little (take 1 c.left)) (advance 1 c) e there.1)
]

import_reads : (due : ℕ) (name : List ℕ) → ImportGoes due name → (at : ℕ) (rest : List ℕ) →
    import_entry due (cursor at (import_spelling name ++ rest)) ≡ Ok (Some (name, due - 1), cursor (at + length (import_spelling name)) rest)
import_reads zero name goes at rest = absurd (omega (arith, goes.0))
import_reads (suc n) name goes at rest =
    let fewer : n ≡ suc n - 1 = omega arith in
    subst (λ (k : ℕ). import_entry (suc n) (cursor at (import_spelling name ++ rest)) ≡ Ok (Some (name, k), cursor (at + length (import_spelling name)) rest)) fewer (name_reads n name goes.1 at rest)

pub import_table : Table import_entry import_spelling ImportGoes (λ due _. due - 1) WrongImport
import_table = record {
  shorter = import_shortens;
  taken = λ due c d o h e. let t = name_taken due c d o h e in let count = t.count in record { written = o.0; good = (omega (arith, count), t.alone.fits); taken = t.alone.taken };
  reads = λ due name goes at rest. (name, import_reads due name goes at rest);
  fails = import_fails;
  failed = import_failed;
}

-- ---- groups

abbrev after_group : ℕ → ℕ → Group × Cursor → Read (Option (Group × ℕ))
after_group given at group =
    cond (ltb PAGE_SIZE (given + group.0.times * length group.0.bytes)) (Err (fault kinds.TooLong at)) (done (Some (group.0, given + group.0.times * length group.0.bytes), group.1))

abbrev grouped : ℕ → List ℕ × Cursor → Read Group
grouped times bytes = Ok (record { times = times; bytes = bytes.0 }, bytes.1)

abbrev after_none : LxRefusal → Read (Option (Group × ℕ))
after_none e = Err e

-- the fields of a group that is there
abbrev FieldsOf : Cursor → Group × Cursor → Type 0
FieldsOf c group = (4 + number_at 2 c.left 2 ≤ length c.left) × (group.0.times ≡ number_at 2 c.left 0) × (length group.0.bytes ≡ number_at 2 c.left 2)

fields_cut : (c : Cursor) → PassesEnd c.left → (at : ℕ) × (group_fields c ≡ Err (fault kinds.Short at))
unfolding group_fields
fields_cut c passes =
    let size = length-drop 2 c.left in
    let rest = length-drop 2 (drop 2 c.left) in
    let times = little (take 2 c.left) in
    let len = little (take 2 (drop 2 c.left)) in
    let end = advance 2 (advance 2 c) in
    let f : ℕ × Cursor → Read Group = λ t. number 2 t.1 >>= λ l. text l.0 l.1 >>= grouped t.0 in
    let g : ℕ × Cursor → Read Group = λ l. text l.0 l.1 >>= grouped times in
    elim (cases_lt (length c.left) 2) [
      | inl lt ↦ (c.at, number_cut 2 c f (fault kinds.Short c.at) (lt, refl))
      | inr le ↦ elim (cases_lt (length (drop 2 c.left)) 2) [
        | inl lt ↦ (c.at + 2, number_there 2 c f (Err (fault kinds.Short (c.at + 2))) le (number_cut 2 (advance 2 c) g (fault kinds.Short (c.at + 2)) (lt, refl)))
        | inr le' ↦ (
          end.at,
          number_there 2 c f (Err (fault kinds.Short end.at)) le (number_there 2 (advance 2 c) g (Err (fault kinds.Short end.at)) le'
              (text_cut len end (grouped times) (fault kinds.Short end.at) (omega (arith, passes, size, rest), refl))),
        )
      ]
    ]

fields_there : (c : Cursor) → 4 + number_at 2 c.left 2 ≤ length c.left → (group : Group) × (d : Cursor) × (group_fields c ≡ Ok (group, d)) × FieldsOf c (group, d)
unfolding group_fields
fields_there c le =
    let size = length-drop 2 c.left in
    let rest = length-drop 2 (drop 2 c.left) in
    let times = little (take 2 c.left) in
    let len = little (take 2 (drop 2 c.left)) in
    let end = advance 2 (advance 2 c) in
    let group : Group = record { times = times; bytes = take len end.left } in
    let third : (text len end >>= grouped times) ≡ Ok (group, advance len end) = text_there len end (grouped times) (Ok (group, advance len end)) (omega (arith, le, size, rest)) refl in
    let second = number_there 2 (advance 2 c) (λ l. text l.0 l.1 >>= grouped times) (Ok (group, advance len end)) (omega (arith, le, size)) third in
    let first = number_there 2 c (λ t. number 2 t.1 >>= λ l. text l.0 l.1 >>= grouped t.0) (Ok (group, advance len end)) (omega (arith, le)) second in
    (group, advance len end, first, (le, refl, omega (arith, length-take len end.left, le, size, rest)))

-- what a group that is there gives, with what is given before
abbrev given_by : ℕ → Cursor → ℕ
given_by given c = given + number_at 2 c.left 0 * number_at 2 c.left 2

whole_group : (given : ℕ) (c : Cursor) (group : Group × Cursor) → FieldsOf c group → given + group.0.times * length group.0.bytes ≡ given_by given c
whole_group given c group f = let times = f.1 in let size = f.2 in rw (times, size) refl

too_long : (given : ℕ) (c : Cursor) (group : Group × Cursor) (e : LxRefusal) → FieldsOf c group → after_group given c.at group ≡ Err e → (PAGE_SIZE < given_by given c) × (e ≡ fault kinds.TooLong c.at)
too_long given c group e f fails =
    let sum = given + group.0.times * length group.0.bytes in
    let same = whole_group given c group f in
    elim (guard_err (ltb PAGE_SIZE sum) (fault kinds.TooLong c.at) e (done (Some (group.0, sum), group.1)) fails) [
      | inl long ↦ (let lt : PAGE_SIZE < sum = ltb-true _ _ long.0 in omega (arith, lt, same), long.1)
      | inr fits ↦ absurd (let ok = fits.1 in cc)
    ]

group_after : (given : ℕ) (c : Cursor) (e : LxRefusal) (none : Bool) → eqb (length c.left) 0 ≡ none → cond none (ends c) (fault_at c.at (group_fields c) >>= after_group given c.at) ≡ Err e → WrongGroup given c e
group_after given c e true is fails = absurd cc
group_after given c e false is fails = (
  positive (length c.left) is,
  elim (cases_lt (length c.left) (4 + number_at 2 c.left 2)) [
    | inl passes ↦
        let cut = fields_cut c passes in
        let read : (fault_at c.at (group_fields c) >>= after_group given c.at) ≡ Err (fault kinds.Short c.at) = ap (λ (r : Read Group). fault_at c.at r >>= after_group given c.at) cut.1 in
        let both : Err (fault kinds.Short c.at) ≡ after_none e = sym read ∙ fails in
        inl (passes, (let same : fault kinds.Short c.at ≡ e = cc in sym same))
    | inr le ↦
        let there = fields_there c le in
        let read : (fault_at c.at (group_fields c) >>= after_group given c.at) ≡ after_group given c.at (there.0, there.1) = ap (λ (r : Read Group). fault_at c.at r >>= after_group given c.at) there.2 in
        let long = too_long given c (there.0, there.1) e there.3 (sym read ∙ fails) in
        inr (le, long.0, long.1)
  ],
)

group_fails : (given : ℕ) (c : Cursor) (e : LxRefusal) → AreBytes c.left → group_at given c ≡ Err e → WrongGroup given c e
unfolding group_at
group_fails given c e h fails = group_after given c e (eqb (length c.left) 0) refl fails

group_wrong : (given : ℕ) (c : Cursor) (e : LxRefusal) → WrongGroup given c e → (fault_at c.at (group_fields c) >>= after_group given c.at) ≡ Err e
group_wrong given c e wrong = elim wrong.1 [
  | inl short ↦ let cut = fields_cut c short.0 in ap (λ (r : Read Group). fault_at c.at r >>= after_group given c.at) cut.1 ∙ ap after_none (sym short.1)
  | inr long ↦
      let there = fields_there c long.0 in
      let group : Group × Cursor = (there.0, there.1) in
      let sum = given + there.0.times * length there.0.bytes in
      let same = whole_group given c group there.3 in
      let over : PAGE_SIZE < sum = omega (arith, same, long.1) in
      ap (λ (r : Read Group). fault_at c.at r >>= after_group given c.at) there.2
      ∙ chosen (ltb PAGE_SIZE sum) (Err (fault kinds.TooLong c.at)) (done (Some (there.0, sum), there.1)) (lt-ltb _ _ over)
      ∙ ap after_none (sym long.2)
]

group_failed : (given : ℕ) (c : Cursor) (e : LxRefusal) → WrongGroup given c e → group_at given c ≡ Err e
unfolding group_at
group_failed given c e wrong = other (eqb (length c.left) 0) (ends c) (fault_at c.at (group_fields c) >>= after_group given c.at) (not_zero (length c.left) wrong.0) ∙ group_wrong given c e wrong

pub group_table : Table group_at group_spelling GroupGoes given_with WrongGroup
group_table = record {
  shorter = group_shortens;
  taken = λ given c d o h e. let t = group_taken given c d (Some o) h e in let sum = t.1 in let small = t.2 in record { written = o.0; good = (t.0.fits, omega (arith, sum, small)); taken = t.0.taken };
  reads = λ given g goes at rest. (g, group_read given at g rest goes.0 goes.1);
  fails = group_fails;
  failed = group_failed;
}
