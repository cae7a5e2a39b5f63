-- Bytes that can stand after an unfinished module, and what they make of it: the parts of an object file, put
-- together from the front.
use Rattle.std.proofs.Common.{◌≡◌, ℕ, false, List, [], ◌∷◌, ◌++◌, Option, refl, sym, ap, subst, ◌∙◌, append_assoc}
use Rattle.std.proofs.lemmas.List.{append-nil}
use Rattle.std.specs.List.{AllByRecursion, flat_map}
use Rattle.obj_types.specs.declared.parts.ObjParts.{ObjParts}
use Rattle.omf_fields.specs.Forms.{Form, each}
use Rattle.omf_model.specs.Record.{Record, header, modend, FixData, is_end}
use Rattle.omf_model.specs.Add.{add}
use Rattle.omf_model.specs.Parts.{parts_of}
use Rattle.omf_model.specs.Finished.{finished}
use Rattle.omf_model.specs.Good.{GoodAfter, EachGood}
use Rattle.omf_model.specs.Begun.{IsOpen}
use Rattle.omf_model.specs.Spelling.{Spells, SpellsAll}
use Rattle.omf_model.specs.Object.{IsModule}
use Rattle.omf_model.proofs.PartsLaws.{parts_of-snoc}

abbrev pub GoodFrom : ObjParts → List Record → Type 0
GoodFrom p [] = Unit {0}
GoodFrom p (r ∷ rs) = GoodAfter p r × GoodFrom (add p r) rs

abbrev pub with_records : ObjParts → List Record → ObjParts
with_records p [] = p
with_records p (r ∷ rs) = with_records (add p r) rs

pub record Goes (p : ObjParts) (bytes : List ℕ) (q : ObjParts) : Type 0 where
  pub records : List Record
  pub good : GoodFrom p records
  pub still : IsOpen records
  pub spelled : SpellsAll records bytes
  pub meant : q ≡ with_records p records

-- ---- one after another

pub stays : (p : ObjParts) → Goes p [] p
stays p = record { records = []; good = tt; still = tt; spelled = refl; meant = refl }

pub one : (p q : ObjParts) (r : Record) (bytes : List ℕ) → GoodAfter p r → is_end r ≡ false → Spells bytes r → add p r ≡ q → Goes p bytes q
one p q r bytes good open_ spelled added = record {
  records = r ∷ [];
  good = (good, tt);
  still = (open_, tt);
  spelled = record { front = bytes; back = []; joined = sym (append-nil bytes); first_so = spelled; second_so = refl };
  meant = sym added;
}

good_both : (p : ObjParts) (xs ys : List Record) → GoodFrom p xs → GoodFrom (with_records p xs) ys → GoodFrom p (xs ++ ys)
good_both p [] ys a b = b
good_both p (x ∷ xs) ys a b = (a.0, good_both (add p x) xs ys a.1 b)

with_both : (p : ObjParts) (xs ys : List Record) → with_records p (xs ++ ys) ≡ with_records (with_records p xs) ys
with_both p [] ys = refl
with_both p (x ∷ xs) ys = with_both (add p x) xs ys

open_both : (xs ys : List Record) → IsOpen xs → IsOpen ys → IsOpen (xs ++ ys)
open_both [] ys a b = b
open_both (x ∷ xs) ys a b = (a.0, open_both xs ys a.1 b)

pub each_both : {A : Type 0} (form : A → Form) (xs ys : List A) (a b : List ℕ) → each form xs a → each form ys b → each form (xs ++ ys) (a ++ b)
each_both form [] ys a b first second = subst (λ (c : List ℕ). each form ys (c ++ b)) (sym first) second
each_both form (x ∷ xs) ys a b first second = record {
  front = first.front;
  back = first.back ++ b;
  joined = ap (λ (c : List ℕ). c ++ b) first.joined ∙ append_assoc first.front first.back b;
  first_so = first.first_so;
  second_so = each_both form xs ys first.back b first.second_so second;
}

pub goes_on : (p q r : ObjParts) (a b : List ℕ) → Goes p a q → Goes q b r → Goes p (a ++ b) r
goes_on p q r a b first second = record {
  records = first.records ++ second.records;
  good = good_both p first.records second.records first.good (subst (λ (s : ObjParts). GoodFrom s second.records) first.meant second.good);
  still = open_both first.records second.records first.still second.still;
  spelled = each_both (λ r bytes. Spells bytes r) first.records second.records a b first.spelled second.spelled;
  meant = second.meant ∙ ap (λ (s : ObjParts). with_records s second.records) first.meant ∙ sym (with_both p first.records second.records);
}

-- ---- items of one kind

-- Where each item's bytes put it after those before, the bytes of a list put its items there.
pub items : {A : Type 0} (state : List A → ObjParts) (bytes : A → List ℕ) (P : A → Type 0) → ((before : List A) (x : A) → P x → Goes (state before) (bytes x) (state (before ++ x ∷ [])))
    → (before xs : List A) → AllByRecursion P xs → Goes (state before) (flat_map bytes xs) (state (before ++ xs))
items {A = A} state bytes P step before [] all = subst (λ (ys : List A). Goes (state before) [] (state ys)) (sym (append-nil before)) (stays (state before))
items {A = A} state bytes P step before (x ∷ xs) all =
    let rest = items state bytes P step (before ++ x ∷ []) xs all.1 in
    goes_on (state before) (state (before ++ x ∷ [])) (state (before ++ x ∷ xs)) (bytes x) (flat_map bytes xs) (step before x all.0)
    (subst (λ (ys : List A). Goes (state (before ++ x ∷ [])) (flat_map bytes xs) (state ys)) (append_assoc before (x ∷ []) xs) rest)

-- ---- a whole module

each_good : (before rs : List Record) → GoodFrom (parts_of before) rs → EachGood before rs
each_good before [] good = tt
each_good before (r ∷ rs) good =
    (good.0, each_good (before ++ r ∷ []) rs (subst (λ (s : ObjParts). GoodFrom s rs) (sym (parts_of-snoc before r)) good.1))

parts_with_records : (before rs : List Record) → parts_of (before ++ rs) ≡ with_records (parts_of before) rs
parts_with_records before [] = ap (λ (rs : List Record). parts_of rs) (append-nil before)
parts_with_records before (r ∷ rs) =
    ap (λ (qs : List Record). parts_of qs) (sym (append_assoc before (r ∷ []) rs))
    ∙ parts_with_records (before ++ r ∷ []) rs
    ∙ ap (λ (s : ObjParts). with_records s rs) (parts_of-snoc before r)

pub module_ends : (name : List ℕ) (first middle last : List ℕ) (q : ObjParts) (kind : ℕ) (start : Option FixData) → Spells first (header name) → Goes (parts_of (header name ∷ [])) middle q
    → GoodAfter q (modend kind start) → Spells last (modend kind start) → IsModule (first ++ (middle ++ last)) (finished (add q (modend kind start)))
module_ends name first middle last q kind start head goes good end =
    let begun : ObjParts = parts_of (header name ∷ []) in
    let ended = one_end in
    let others : List Record = goes.records ++ modend kind start ∷ [] in
    let after : GoodFrom begun others = good_both begun goes.records (modend kind start ∷ []) goes.good (subst (λ (s : ObjParts). GoodAfter s (modend kind start)) goes.meant good, tt) in
    record {
      records = header name ∷ others;
      are = record {
        begun = record { name = name; others = others; headed = refl; good = each_good (header name ∷ []) others after };
        front = header name ∷ goes.records;
        kind = kind;
        start = start;
        ended = refl;
        once = (refl, goes.still);
      };
      spelled = record {
        front = first;
        back = middle ++ last;
        joined = refl;
        first_so = head;
        second_so = each_both (λ r bytes. Spells bytes r) goes.records (modend kind start ∷ []) middle last goes.spelled ended;
      };
      meant =
          ap (λ (s : ObjParts). finished (add s (modend kind start))) goes.meant
          ∙ ap finished (sym (with_both begun goes.records (modend kind start ∷ [])) ∙ sym (parts_with_records (header name ∷ []) others));
    }
  where
    one_end : each (λ r bytes. Spells bytes r) (modend kind start ∷ []) last
    one_end = record { front = last; back = []; joined = sym (append-nil last); first_so = end; second_so = refl }
