-- Each export of a link is among those that its tables tell, with what its entry says.
use Rattle.std.specs.Prelude.{◌≡◌, List, Option, Some, None, IsSome, refl}
use Rattle.std.specs.Option.{option_map, option_and_then}
use Rattle.std.proofs.Common.{ap, sym, ◌∙◌, true≢false}
use Rattle.lx_types.specs.declared.entry.EntryHead.{EntryHead}
use Rattle.lx_types.specs.declared.entry.EntryHead.TheVariants as heads
use Rattle.lx_types.specs.declared.fix.FixTarget.{FixTarget}
use Rattle.lx_types.specs.declared.fix.FixTarget.TheVariants as leads
use Rattle.obj_types.specs.declared.symbol.Imp.{Imp}
use Rattle.link_model.specs.Link.{Link}
use Rattle.link_model.specs.Exports.{ExportTarget, At, Forward, Export, Out}
use Rattle.link_model.specs.ImportTables.{used_pairs, link_pairs, forwarded, procs_in, import_target, with_offset}
use Rattle.link_model.proofs.Members.{In, in_right}
use Rattle.link_model.proofs.RecordsStay.{pair_there}
use Rattle.lx_model.specs.ExportTables.{Exported}
use Rattle.image_model.specs.Exported.{forwarder_to, head_of, exported, exported_of}
use Rattle.image_model.proofs.FewImports.{in-filter_map}
use Rattle.image_model.proofs.RecordsFit.{AmongPairs, import-among}
use Rattle.image_model.proofs.TargetsThere.{mapped, from_filter_map}

-- ---- heads

pub record Headed (l : Link) (t : ExportTarget) : Type 0 where
  pub head : EntryHead
  pub is : head_of l t ≡ Some head

headed_by : (l : Link) (pair : Imp) (t : FixTarget) → import_target (link_pairs l) pair ≡ Some t → AmongPairs (link_pairs l) t → Headed l (Forward pair)
headed_by l pair (leads.Internal o offset) e among = absurd among
headed_by l pair (leads.Own n) e among = absurd among
headed_by l pair (leads.Ordinal import n) e among =
    record { head = _; is = ap (option_and_then (λ target. forwarder_to (with_offset (procs_in (link_pairs l)) target))) e }
headed_by l pair (leads.Named import k) e among =
    record { head = _; is = ap (option_and_then (λ target. forwarder_to (with_offset (procs_in (link_pairs l)) target))) e }

record TargetOf (pairs : List Imp) (pair : Imp) : Type 0 where
  target : FixTarget
  is : import_target pairs pair ≡ Some target

target_of : (pairs : List Imp) (pair : Imp) (o : Option FixTarget) → import_target pairs pair ≡ o → IsSome o → TargetOf pairs pair
target_of pairs pair None is h = absurd (true≢false (sym h))
target_of pairs pair (Some t) is h = record { target = t; is = is }

pair_listed : (l : Link) (x : Export) (pair : Imp) → In x (Out l) → x.target ≡ Forward pair → In pair (link_pairs l)
unfolding link_pairs
pair_listed l x pair i e = in_right (used_pairs l) (in-filter_map (λ (y : Export). forwarded y.target) i (ap forwarded e))

headed : (l : Link) (x : Export) (t : ExportTarget) → In x (Out l) → x.target ≡ t → Headed l t
headed l x (At object offset) i e = record { head = heads.At object offset; is = refl }
headed l x (Forward pair) i e =
    let inside = pair_listed l x pair i e in
    let t = target_of (link_pairs l) pair (import_target (link_pairs l) pair) refl (pair_there (link_pairs l) pair inside) in
    headed_by l pair t.target t.is (import-among (link_pairs l) pair t.target t.is)

-- ---- exports as their tables tell them

abbrev pub exported-with : Export → EntryHead → Exported
exported-with x head = record { name = x.name; ordinal = x.ordinal; resident = x.resident; words = x.words; head = head; wide = x.wide }

pub record Listed (l : Link) (x : Export) : Type 0 where
  pub head : EntryHead
  pub is : head_of l x.target ≡ Some head
  pub inside : In (exported-with x head) (exported_of l)

pub listed : (l : Link) (x : Export) → In x (Out l) → Listed l x
unfolding exported_of
listed l x i =
    let h = headed l x x.target i refl in
    record { head = h.head; is = h.is; inside = in-filter_map (exported l) i (ap (option_map (exported-with x)) h.is) }

-- Each that the tables tell is an export.
pub record IsOut (l : Link) (y : Exported) : Type 0 where
  pub export : Export
  pub inside : In export (Out l)
  pub ordinal : export.ordinal ≡ y.ordinal
  pub name : export.name ≡ y.name
  pub head : head_of l export.target ≡ Some y.head

pub is-out : (l : Link) (y : Exported) → In y (exported_of l) → IsOut l y
unfolding exported_of
is-out l y i =
    let r = from_filter_map (exported l) (Out l) i in
    let h = mapped (exported-with r.item) (head_of l r.item.target) y r.gives in
    record {
      export = r.item;
      inside = r.inside;
      ordinal = ap (λ (e : Exported). e.ordinal) h.gives;
      name = ap (λ (e : Exported). e.name) h.gives;
      head = h.is ∙ ap (λ (e : Exported). some_head e) h.gives;
    }
  where
    some_head : Exported → Option EntryHead
    some_head e = Some e.head
