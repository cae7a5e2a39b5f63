-- Libraries: what is read is meant, and what is meant is read. "Microsoft LIB Library Format".
use Rattle.std.proofs.Common.{◌≡◌, ℕ, zero, suc, ◌+◌, ◌-◌, ◌*◌, ◌<◌, ◌≤◌, Bool, true, false, eqb, leb, List, [], ◌∷◌, ◌++◌, length, take, drop, get_or, Ok, refl, sym, ap, subst, ◌∙◌, arith, inl, inr, append_assoc, length-append}
use Rattle.std.specs.Prelude.{◌||◌}
use Rattle.std.specs.List.{list_any, AllByRecursion}
use Rattle.std.proofs.lemmas.Bool.{cases_lt, eqb-true, leb-true, eq-eqb}
use Rattle.std.proofs.Math.Seq.{take-suc, take-length}
use Rattle.std.proofs.lemmas.List.{drop_at, take-append-drop, length-take, drop_all}
use Rattle.lx_bytes.specs.Cursor.{Cursor}
use Rattle.lx_bytes.specs.LittleEndian.{AreBytes, little_bytes}
use Rattle.lx_bytes.proofs.Numbers.{length-little_bytes}
use Rattle.omf_frame.specs.Frame.{record_bytes, BeginsWhole}
use Rattle.obj_types.specs.declared.object.ObjModule.{ObjModule}
use Rattle.omf_fields.specs.Within.{within}
use Rattle.lx_types.specs.Answers.{◌>>=◌}
use Rattle.omf_model.specs.Record.{Record, header}
use Rattle.omf_model.specs.Spelling.{SpellsAll}
use Rattle.omf_model.specs.RawRecord.{whole_at, raw_at}
use Rattle.omf_model.specs.ReadModule.{header_at, module_at, is_page_size, up_to_page, ends_library, modules_within, library_of}
use Rattle.omf_model.specs.Object.{IsModule}
use Rattle.omf_model.specs.Library.{IsPaged, ArePaged, IsHeader, Lib}
use Rattle.omf_fields.proofs.SpanLaws.{Spans, bytes_after, done, ok_is, bind_ok, step, checked_step}
use Rattle.omf_fields.proofs.FieldLaws.{chosen}
use Rattle.omf_model.proofs.RawLaws.{whole_sound, whole_complete}
use Rattle.omf_model.proofs.DataLaws.{bool_cases}
use Rattle.omf_model.proofs.PageLaws.{up_from, IsMultiple, up_below, up_multiple, up_one, multiple_sum, up_after}
use Rattle.omf_model.proofs.RecordLaws.{by_two, spelled_long}
use Rattle.omf_model.proofs.ModuleLaws.{ModuleForm, module_sound, module_complete}

-- ---- modules at pages

ends_with : (bytes : List ℕ) → ends_library bytes ≡ true → get_or bytes 0 0 ≡ 0xF1
ends_with [] e = absurd cc
ends_with (b ∷ rest) e = eqb-true b 0xF1 e

does_end : (bytes : List ℕ) → get_or bytes 0 0 ≡ 0xF1 → ends_library bytes ≡ true
does_end [] e = absurd (let no : 0 ≡ 0xF1 = e in omega (arith, no))
does_end (b ∷ rest) e = eq-eqb b 0xF1 e

nothing_more : (most size at : ℕ) (ms : List ObjModule) → modules_within most size (record { at = at; left = [] }) ≡ Ok ms → ⊥
unfolding modules_within module_at header_at raw_at whole_at within
nothing_more zero size at ms e = absurd cc
nothing_more (suc most) size at ms e = absurd cc

-- the filling is there
fill_fits : (most size : ℕ) (d : Cursor) (ms : List ObjModule) → modules_within most size (up_to_page size d) ≡ Ok ms → up_from size d.at ≤ length d.left
fill_fits most size d ms e =
    elim (cases_lt (length d.left) (up_from size d.at)) [
      | inl lt ↦
          let none : drop (up_from size d.at) d.left ≡ [] = drop_all (up_from size d.at) d.left (omega (arith, lt)) in
          absurd (nothing_more most size (d.at + up_from size d.at) ms (subst (λ (xs : List ℕ). modules_within most size (record { at = d.at + up_from size d.at; left = xs }) ≡ done ms) none e))
      | inr le ↦ le
    ]

-- a module with its filling, where its first place is a multiple
paged : (size : ℕ) (c d : Cursor) (m : ObjModule) → 1 ≤ size → IsMultiple size c.at → Spans (ModuleForm m) c d → up_from size d.at ≤ length d.left
    → (front : List ℕ) × (c.left ≡ front ++ drop (up_from size d.at) d.left) × IsPaged size front m × IsMultiple size (d.at + up_from size d.at)
paged size c d m some at_page t long =
    let k : ℕ = up_from size d.at in
    let n : ℕ = length t.front in
    let fill : List ℕ = take k d.left in
    let len : length fill ≡ k = omega (arith, long, length-take k d.left) in
    let same : k ≡ up_from size n = ap (λ (x : ℕ). up_from size x) t.moved ∙ up_after size c.at n at_page in
    let up : IsMultiple size (n + up_from size n) = up_multiple size n some in
    let whole : length (t.front ++ fill) ≡ up.times * size = length-append t.front fill ∙ (let e : n + length fill ≡ n + up_from size n = omega (arith, len, same) in e) ∙ up.is in (
      t.front ++ fill,
      t.joined ∙ ap (λ (xs : List ℕ). t.front ++ xs) (sym (take-append-drop k d.left)) ∙ sym (append_assoc t.front fill (drop k d.left)),
      record { body = t.front; fill = fill; joined = refl; is_module = t.so; fewer = (let e : length fill < size = omega (arith, len, up_below size d.at some) in e); pages = up.times; whole = whole },
      subst (λ (x : ℕ). IsMultiple size x) (let e : c.at + (n + up_from size n) ≡ d.at + k = omega (arith, t.moved, same) in e) (multiple_sum size c.at (n + up_from size n) at_page up),
    )

pub AreBytes-back : (front back : List ℕ) (i : ℕ) (bytes : List ℕ) → bytes ≡ front ++ back → AreBytes bytes → AreBytes back
AreBytes-back front back i bytes joined h =
    bytes_after (λ bs. Unit {0}) (record { at = 0; left = bytes }) (record { at = length front; left = back }) (record { front = front; joined = joined; moved = omega arith; so = tt }) h

pub modules_sound : (most size : ℕ) (c : Cursor) (ms : List ObjModule) → 1 ≤ size → IsMultiple size c.at → AreBytes c.left → modules_within most size c ≡ Ok ms → ArePaged size ms c.left
unfolding modules_within within
modules_sound zero size c ms some at_page bytes e = absurd cc
modules_sound (suc most) size c ms some at_page bytes e =
    elim (chosen (ends_library c.left) (Ok []) (module_at c >>= λ m. modules_within most size (up_to_page size m.1) >>= λ others. Ok (m.0 ∷ others)) (Ok ms) e) [
      | inl h ↦ subst (λ (qs : List ObjModule). ArePaged size qs c.left) (ok_is [] ms h.1) (ends_with c.left h.0)
      | inr h ↦
          step _ _ _ module_sound c _ ms bytes h.1 λ m d t f b e1.
          let a = bind_ok (modules_within most size (up_to_page size d)) _ ms e1 in
          let p = paged size c d m some at_page t (fill_fits most size d a.0 a.1) in
          let rest = modules_sound most size (up_to_page size d) a.0 some p.3
          (AreBytes-back (take (up_from size d.at) d.left) (drop (up_from size d.at) d.left) 0 d.left (sym (take-append-drop (up_from size d.at) d.left)) b) a.1 in
          subst (λ (qs : List ObjModule). ArePaged size qs c.left) (ok_is (m ∷ a.0) ms a.2)
          (record { front = p.0; back = drop (up_from size d.at) d.left; joined = p.1; first_so = p.2; second_so = rest })
    ]

-- ---- the header

page_bounds : (sizes : List ℕ) (n : ℕ) → AllByRecursion (λ s. (16 ≤ s) × (s ≤ 32768)) sizes → list_any (λ size. eqb size n) sizes ≡ true → (16 ≤ n) × (n ≤ 32768)
page_bounds [] n all e = absurd cc
page_bounds (s ∷ sizes) n all e =
    elim (bool_cases (eqb s n)) [
      | inl h ↦ let same = eqb-true s n h in (omega (arith, same, all.0.0), omega (arith, same, all.0.1))
      | inr h ↦ page_bounds sizes n all.1 (let rest : (false || list_any (λ size. eqb size n) sizes) ≡ true = subst (λ (b : Bool). (b || list_any (λ size. eqb size n) sizes) ≡ true) h e in rest)
    ]

abbrev page_sizes : List ℕ
page_sizes = 16 ∷ 32 ∷ 64 ∷ 128 ∷ 256 ∷ 512 ∷ 1024 ∷ 2048 ∷ 4096 ∷ 8192 ∷ 16384 ∷ 32768 ∷ []

abbrev Bounded : ℕ → Type 0
Bounded s = (16 ≤ s) × (s ≤ 32768)

each_bound : AllByRecursion Bounded page_sizes
each_bound =
    let b : (s : ℕ) → leb 16 s ≡ true → leb s 32768 ≡ true → Bounded s = λ s low high. (leb-true 16 s low, leb-true s 32768 high) in
    (b 16 refl refl, (b 32 refl refl, (b 64 refl refl, (b 128 refl refl, (b 256 refl refl, (b 512 refl refl, (b 1024 refl refl, (b 2048 refl refl, (b 4096 refl refl, (b 8192 refl refl, (b 16384 refl refl, (b 32768 refl refl, tt))))))))))))

pub size_bounds : (n : ℕ) → is_page_size n ≡ true → (16 ≤ n) × (n ≤ 32768)
size_bounds n e = page_bounds page_sizes n each_bound e

pub library_sound : (bytes : List ℕ) (ms : List ObjModule) → AreBytes bytes → library_of bytes ≡ Ok ms → Lib bytes ms
unfolding library_of
library_sound bytes ms are e =
    let start : Cursor = record { at = 0; left = bytes } in
    let a = bind_ok (whole_at start) _ ms e in
    let f = a.0 in
    let w = whole_sound start f are a.1 in
    let k1 = checked_step (eqb f.ty 0xF0) _ _ ms a.2 in
    let k2 = checked_step (is_page_size f.after.at) _ _ ms k1.1 in
    let size : ℕ = f.after.at in
    let bounds = size_bounds size k2.0 in
    let rest = modules_sound (length bytes) size f.after ms (omega (arith, bounds.0))
    (record { times = 1; is = omega arith }) (AreBytes-back (record_bytes f.ty f.contents f.checksum) f.after.left 0 bytes w.whole.joined are) k2.1 in
    let word : length f.contents + 1 ≡ size - 3 = omega (arith, w.after) in
    let header_is : record_bytes f.ty f.contents f.checksum ≡ 0xF0 ∷ little_bytes 2 (size - 3) ++ (f.contents ++ f.checksum ∷ []) =
    append_assoc (f.ty ∷ little_bytes 2 (length f.contents + 1)) f.contents (f.checksum ∷ []) ∙ (λ i. eqb-true f.ty 0xF0 k1.0 i ∷ little_bytes 2 (word i) ++ (f.contents ++ f.checksum ∷ [])) in
    record {
      size = size;
      paged = record {
        front = record_bytes f.ty f.contents f.checksum;
        back = f.after.left;
        joined = w.whole.joined;
        first_so = record { contents = f.contents ++ f.checksum ∷ []; joined = header_is; whole = omega (arith, w.after, length-append f.contents (f.checksum ∷ [])); page = k2.0 };
        second_so = rest;
      };
    }

-- ---- what is meant is read

pub header_first : (m : ObjModule) (body rest : List ℕ) → IsModule body m → ends_library (body ++ rest) ≡ false
header_first m body rest w =
    let all : SpellsAll (header w.are.begun.name ∷ w.are.begun.others) body = subst (λ (rs : List Record). SpellsAll rs body) w.are.begun.headed w.spelled in
    let s = all.first_so in
    let bytes_is : body ++ rest ≡ record_bytes s.ty s.contents s.framed.checksum ++ [] ++ all.back ++ rest = ap (λ (xs : List ℕ). xs ++ rest) (all.joined ∙ ap (λ (xs : List ℕ). xs ++ all.back) s.framed.whole.joined) in
    subst (λ (xs : List ℕ). ends_library xs ≡ false) (sym bytes_is)
    (by_two 0x80 0x82 false false s.ty s.wide s.is_type (λ ty wide. eqb ty 0xF1 ≡ false) refl refl)

pub module_long : (m : ObjModule) (body : List ℕ) → IsModule body m → 1 ≤ length body
module_long m body w =
    let all : SpellsAll (header w.are.begun.name ∷ w.are.begun.others) body = subst (λ (rs : List Record). SpellsAll rs body) w.are.begun.headed w.spelled in
    let long : length body ≡ length all.front + length all.back = ap (λ (xs : List ℕ). length xs) all.joined ∙ length-append all.front all.back in
    omega (arith, long, spelled_long (header w.are.begun.name) all.front all.first_so)

some_byte : (bytes : List ℕ) → get_or bytes 0 0 ≡ 0xF1 → 1 ≤ length bytes
some_byte [] e = absurd (let no : 0 ≡ 0xF1 = e in omega (arith, no))
some_byte (b ∷ rest) e = omega arith

paged_long : (size : ℕ) (ms : List ObjModule) (bytes : List ℕ) → ArePaged size ms bytes → length ms < length bytes
paged_long size [] bytes so = omega (arith, some_byte bytes so)
paged_long size (m ∷ ms) bytes so =
    let p = so.first_so in
    let long : length bytes ≡ length so.front + length so.back = ap (λ (xs : List ℕ). length xs) so.joined ∙ length-append so.front so.back in
    let part : length so.front ≡ length p.body + length p.fill = ap (λ (xs : List ℕ). length xs) p.joined ∙ length-append p.body p.fill in
    omega (arith, long, part, module_long m p.body p.is_module, paged_long size ms so.back so.second_so)

pub modules_complete : (ms : List ObjModule) (most size : ℕ) (c : Cursor) → 1 ≤ size → IsMultiple size c.at → ArePaged size ms c.left → length ms < most → modules_within most size c ≡ Ok ms
unfolding modules_within within
modules_complete ms zero size c some at_page so few = absurd (omega (arith, few))
modules_complete [] (suc most) size c some at_page so few = rw (does_end c.left so) refl
modules_complete (m ∷ ms) (suc most) size c some at_page so few =
    let p = so.first_so in
    let n : ℕ = length p.body in
    let d : Cursor = record { at = c.at + n; left = p.fill ++ so.back } in
    let all : c.left ≡ p.body ++ (p.fill ++ so.back) = so.joined ∙ ap (λ (xs : List ℕ). xs ++ so.back) p.joined ∙ append_assoc p.body p.fill so.back in
    let t : Spans (ModuleForm m) c d = record { front = p.body; joined = all; moved = refl; so = p.is_module } in
    let part : length so.front ≡ n + length p.fill = ap (λ (xs : List ℕ). length xs) p.joined ∙ length-append p.body p.fill in
    let filled : IsMultiple size (n + length p.fill) = record { times = p.pages; is = sym part ∙ p.whole } in
    let k : length p.fill ≡ up_from size n = up_one size n (length p.fill) (up_from size n) filled (up_multiple size n some) p.fewer (up_below size n some) in
    let same : up_from size (c.at + n) ≡ length p.fill = up_after size c.at n at_page ∙ sym k in
    let next : IsMultiple size (c.at + n + up_from size (c.at + n)) =
    subst (λ (x : ℕ). IsMultiple size x) (let e : c.at + (n + length p.fill) ≡ c.at + n + up_from size (c.at + n) = omega (arith, same) in e)
    (multiple_sum size c.at (n + length p.fill) at_page filled) in
    let beyond : drop (up_from size (c.at + n)) (p.fill ++ so.back) ≡ so.back = drop_at p.fill so.back (up_from size (c.at + n)) (sym same) in
    let others : modules_within most size (up_to_page size d) ≡ Ok ms =
    modules_complete ms most size (up_to_page size d) some next (subst (λ (xs : List ℕ). ArePaged size ms xs) (sym beyond) so.second_so) (omega (arith, few)) in
    let opens : ends_library c.left ≡ false = subst (λ (xs : List ℕ). ends_library xs ≡ false) (sym all) (header_first m p.body (p.fill ++ so.back) p.is_module) in
    rw (opens, module_complete c m d t tt, others) refl

pub header_begins : (bytes : List ℕ) (size : ℕ) (front back : List ℕ) → bytes ≡ front ++ back → (h : IsHeader size front) → BeginsWhole bytes 0xF0 (take (size - 4) h.contents) (get_or h.contents (size - 4) 0) back
header_begins bytes size front back joined h =
    let bounds = size_bounds size h.page in
    let long : length front ≡ length (0xF0 ∷ little_bytes 2 (size - 3)) + length h.contents = ap (λ (xs : List ℕ). length xs) h.joined ∙ length-append (0xF0 ∷ little_bytes 2 (size - 3)) h.contents in
    let count : length h.contents ≡ suc (size - 4) = omega (arith, long, h.whole, length-little_bytes 2 (size - 3), bounds.0) in
    let parts : take (size - 4) h.contents ++ get_or h.contents (size - 4) 0 ∷ [] ≡ h.contents =
    sym (take-suc h.contents (size - 4) 0 (omega (arith, count))) ∙ ap (λ (n : ℕ). take n h.contents) (sym count) ∙ take-length h.contents in
    let body : length (take (size - 4) h.contents) ≡ size - 4 = omega (arith, count, length-take (size - 4) h.contents) in
    let word : size - 3 ≡ length (take (size - 4) h.contents) + 1 = omega (arith, body, bounds.0) in
    record {
      joined = joined ∙ ap (λ (xs : List ℕ). xs ++ back) (h.joined ∙ (λ i. 0xF0 ∷ little_bytes 2 (word i) ++ sym parts i)
          ∙ sym (append_assoc (0xF0 ∷ little_bytes 2 (length (take (size - 4) h.contents) + 1)) (take (size - 4) h.contents) (get_or h.contents (size - 4) 0 ∷ [])));
      counted = omega (arith, body, bounds.1);
    }

pub header_place : (size : ℕ) (front : List ℕ) (h : IsHeader size front) → 0 + 4 + length (take (size - 4) h.contents) ≡ size
header_place size front h =
    let bounds = size_bounds size h.page in
    let long : length front ≡ length (0xF0 ∷ little_bytes 2 (size - 3)) + length h.contents = ap (λ (xs : List ℕ). length xs) h.joined ∙ length-append (0xF0 ∷ little_bytes 2 (size - 3)) h.contents in
    omega (arith, long, h.whole, length-little_bytes 2 (size - 3), bounds.0, length-take (size - 4) h.contents)

pub whole_header : (bytes body : List ℕ) (checksum : ℕ) (rest : List ℕ) → BeginsWhole bytes 0xF0 body checksum rest → is_page_size (4 + length body) ≡ true → IsHeader (4 + length body) (record_bytes 0xF0 body checksum)
whole_header bytes body checksum rest w page =
    let word : length body + 1 ≡ 4 + length body - 3 = omega arith in
    record {
      contents = body ++ checksum ∷ [];
      joined = append_assoc (0xF0 ∷ little_bytes 2 (length body + 1)) body (checksum ∷ []) ∙ (λ i. 0xF0 ∷ little_bytes 2 (word i) ++ (body ++ checksum ∷ []));
      whole = omega (arith, length-append body (checksum ∷ []));
      page = page;
    }

pub library_complete : (bytes : List ℕ) (ms : List ObjModule) → Lib bytes ms → library_of bytes ≡ Ok ms
unfolding library_of
library_complete bytes ms l =
    let h = l.paged.first_so in
    let bounds = size_bounds l.size h.page in
    let whole = header_begins bytes l.size l.paged.front l.paged.back l.paged.joined h in
    let long : length l.paged.front ≡ length (0xF0 ∷ little_bytes 2 (l.size - 3)) + length h.contents = ap (λ (xs : List ℕ). length xs) h.joined ∙ length-append (0xF0 ∷ little_bytes 2 (l.size - 3)) h.contents in
    let body : length (take (l.size - 4) h.contents) ≡ l.size - 4 = omega (arith, long, h.whole, length-little_bytes 2 (l.size - 3), bounds.0, length-take (l.size - 4) h.contents) in
    let place : 0 + 4 + length (take (l.size - 4) h.contents) ≡ l.size = omega (arith, body, bounds.0) in
    let all : length bytes ≡ length l.paged.front + length l.paged.back = ap (λ (xs : List ℕ). length xs) l.paged.joined ∙ length-append l.paged.front l.paged.back in
    let modules : modules_within (length bytes) l.size (record { at = l.size; left = l.paged.back }) ≡ Ok ms =
    modules_complete ms (length bytes) l.size (record { at = l.size; left = l.paged.back }) (omega (arith, bounds.0))
    (record { times = 1; is = omega arith }) l.paged.second_so (omega (arith, all, paged_long l.size ms l.paged.back l.paged.second_so)) in
    rw (whole_complete (record { at = 0; left = bytes }) 0xF0 (take (l.size - 4) h.contents) (get_or h.contents (l.size - 4) 0) l.paged.back whole, place, h.page, modules) refl

pub library_one : (bytes : List ℕ) (ms ns : List ObjModule) → Lib bytes ms → Lib bytes ns → ms ≡ ns
library_one bytes ms ns h k = ok_is ms ns (sym (library_complete bytes ms h) ∙ library_complete bytes ns k)
