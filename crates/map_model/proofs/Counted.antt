-- The lines of a map are as many as what it tells.
use Rattle.std.specs.Prelude.{◌≡◌, ℕ, ◌+◌, List, [], ◌∷◌, ◌++◌, Option, Some, None, map, length, codes, decimal, refl}
use Rattle.std.specs.List.{filter_map, flat_map, enumerate_from}
use Rattle.std.specs.Option.{option_map}
use Rattle.std.proofs.Common.{ap, sym, ◌∙◌, arith, subst}
use Rattle.std.proofs.lemmas.List.{length-map, length-append}
use Rattle.std.proofs.lemmas.List.FromFn.{length-enumerate_from}
use Rattle.std.proofs.lemmas.List.Sorted.{length_permutation}
use Rattle.lx_types.specs.Names.{uppercase}
use Rattle.lx_types.specs.declared.entry.EntryKey.{EntryKey}
use Rattle.lx_types.specs.declared.entry.EntryKey.TheVariants.{Ordinal, Named}
use Rattle.obj_types.specs.declared.symbol.Common.{Common}
use Rattle.obj_types.specs.declared.symbol.Imp.{Imp}
use Rattle.lx_types.specs.Escaped.{hex_address}
use Rattle.dump_model.specs.Lines.{name_word}
use Rattle.link_model.specs.declared.symbols.LaidObject.{LaidObject}
use Rattle.link_model.specs.Link.{Link}
use Rattle.link_model.specs.Layout.{objects, spot, common_spot}
use Rattle.link_model.specs.Symbols.{commons, imports}
use Rattle.link_model.specs.NothingDropped.{WholeLink, SegmentsStand, CommunalsStand}
use Rattle.map_model.specs.Listed.{address_at, Contribution, contributions, publics, Listed, placed_publics, constants}
use Rattle.map_model.specs.Lines.{map_line, object_line, segment_line, common_line, public_line, constant_line, entry_word, import_line}
use Rattle.map_model.specs.Maps.{line_of_contribution, line_of_common, map_text, IsMap}
use Rattle.map_model.specs.MapLaws.{TellsAll}
use Rattle.map_model.proofs.LineCounts.{ends, IsFree, ends-append, decimal_free, address_free, name_free, one_line, each_one, each_found, free-append}
use Rattle.map_model.proofs.Standing.{all_found, contribution_found, common_found, public_stands, publics_split}

-- ---- each line is one

map_once : (name : List ℕ) (count : ℕ) → ends (map_line name count) ≡ 1
unfolding map_line
map_once name count =
    one_line (codes "map" ∷ name_word name ∷ codes "objects" ∷ decimal count ∷ []) (refl, (name_free name, (refl, (decimal_free count, tt))))

object_once : (q : ℕ × LaidObject) → ends (object_line q) ≡ 1
unfolding object_line
object_once q =
    one_line (codes "object" ∷ decimal q.0 ∷ hex_address q.1.base ∷ codes "size" ∷ decimal q.1.size ∷ codes "flags" ∷ hex_address q.1.flags ∷ [])
    (refl, (decimal_free q.0, (address_free q.1.base, (refl, (decimal_free q.1.size, (refl, (address_free q.1.flags, tt)))))))

segment_once : (c : Contribution) (at : ℕ) → ends (segment_line c at) ≡ 1
unfolding segment_line
segment_once c at =
    one_line (codes "segment" ∷ decimal c.index ∷ hex_address at ∷ decimal c.seg.len ∷ name_word c.seg.name ∷ name_word c.seg.class ∷ decimal c.by ∷ [])
    (refl, (decimal_free c.index, (address_free at, (decimal_free c.seg.len, (name_free c.seg.name, (name_free c.seg.class, (decimal_free c.by, tt)))))))

common_once : (c : List ℕ × Common) (at : ℕ) → ends (common_line c at) ≡ 1
unfolding common_line
common_once c at =
    one_line (codes "common" ∷ hex_address at ∷ decimal c.1.len ∷ name_word c.0 ∷ []) (refl, (address_free at, (decimal_free c.1.len, (name_free c.0, tt))))

public_once : (p : Listed) → ends (public_line p) ≡ 1
unfolding public_line
public_once p = one_line (codes "public" ∷ hex_address p.number ∷ name_word p.name ∷ []) (refl, (address_free p.number, (name_free p.name, tt)))

constant_once : (p : Listed) → ends (constant_line p) ≡ 1
unfolding constant_line
constant_once p = one_line (codes "constant" ∷ hex_address p.number ∷ name_word p.name ∷ []) (refl, (address_free p.number, (name_free p.name, tt)))

entry_free : (entry : EntryKey) → IsFree (entry_word entry)
entry_free (Ordinal n) = free-append (codes "@") (decimal n) refl (decimal_free n)
entry_free (Named name) = name_free name

import_once : (i : Imp) → ends (import_line i) ≡ 1
unfolding import_line
import_once i =
    one_line (codes "import" ∷ name_word i.name ∷ name_word i.module ∷ entry_word i.entry ∷ []) (refl, (name_free i.name, (name_free i.module, (entry_free i.entry, tt))))

-- ---- lines that may be missing

once_mapped : {X : Type 0} (line : X → List ℕ) → ((x : X) → ends (line x) ≡ 1) → (o : Option X) (text : List ℕ) → option_map line o ≡ Some text → ends text ≡ 1
once_mapped line one None text e = absurd (grind (arith, e))
once_mapped line one (Some x) text e = subst (λ (o : Option (List ℕ)). ends_of o ≡ 1) e (one x)
  where
    ends_of : Option (List ℕ) → ℕ
    ends_of None = 1
    ends_of (Some text) = ends text

found_length : {X Y : Type 0} (f : X → Option Y) (xs : List X) → map Some (filter_map f xs) ≡ map f xs → length (filter_map f xs) ≡ length xs
found_length {X} {Y} f xs e =
    sym (length-map (filter_map f xs) (λ (y : Y). Some y)) ∙ ap length e ∙ length-map xs f

-- ---- the whole text

counted : (name : List ℕ) (l : Link) (places values : List Listed) → ends (map_text name l places values)
    ≡ 1 + (length (objects l) + (length (filter_map (line_of_contribution l) (contributions l))
    + (length (filter_map (line_of_common l) (enumerate_from 0 (commons l))) + (length places + (length values + length (imports l))))))
unfolding map_text
counted name l places values =
    let a = map_line (uppercase name) (length (objects l)) in
    let b = flat_map object_line (enumerate_from 1 (objects l)) in
    let c = flat_map (λ (line : List ℕ). line) (filter_map (line_of_contribution l) (contributions l)) in
    let d = flat_map (λ (line : List ℕ). line) (filter_map (line_of_common l) (enumerate_from 0 (commons l))) in
    let e = flat_map public_line places in
    let f = flat_map constant_line values in
    let g = flat_map import_line (imports l) in
    let ha = map_once (uppercase name) (length (objects l)) in
    let hb = each_one object_line object_once (enumerate_from 1 (objects l)) ∙ length-enumerate_from 1 (objects l) in
    let hc = each_found (line_of_contribution l) (λ x text is. once_mapped (λ place. segment_line x (address_at l place)) (λ place. segment_once x (address_at l place)) (spot l x.by x.index) text is) (contributions l) in
    let hd = each_found (line_of_common l) (λ x text is. once_mapped (λ place. common_line x.1 (address_at l place))
    (λ place. common_once x.1 (address_at l place)) (common_spot l x.0) text is) (enumerate_from 0 (commons l)) in
    let he = each_one public_line public_once places in
    let hf = each_one constant_line constant_once values in
    let hg = each_one import_line import_once (imports l) in
    let s1 = ends-append a (b ++ (c ++ (d ++ (e ++ (f ++ g))))) in
    let s2 = ends-append b (c ++ (d ++ (e ++ (f ++ g)))) in
    let s3 = ends-append c (d ++ (e ++ (f ++ g))) in
    let s4 = ends-append d (e ++ (f ++ g)) in
    let s5 = ends-append e (f ++ g) in
    let s6 = ends-append f g in
    omega (arith, ha, hb, hc, hd, he, hf, hg, s1, s2, s3, s4, s5, s6)

abbrev name_of : Listed → List ℕ
name_of p = p.name

pub tells_all : SegmentsStand → CommunalsStand → (name : List ℕ) (l : Link) (text : List ℕ) → WholeLink l → IsMap name l text → TellsAll l text
tells_all stand commons_stand name l text whole m =
    let cs = all_found (line_of_contribution l) (contributions l) (contribution_found l stand) in
    let ds = all_found (line_of_common l) (enumerate_from 0 (commons l)) (common_found l commons_stand) in
    let split = publics_split l (publics l) (public_stands l whole stand) in
    let hc = found_length (line_of_contribution l) (contributions l) cs in
    let hd = found_length (line_of_common l) (enumerate_from 0 (commons l)) ds ∙ length-enumerate_from 0 (commons l) in
    let hp = length_permutation (placed_publics l) m.places m.by_address.same in
    let hv = length_permutation (constants l) m.values m.by_name.same in
    let both = length_permutation (map (λ q. q.1.name) (publics l)) (map name_of (placed_publics l) ++ map name_of (constants l)) split in
    let h0 = length-map (publics l) (λ q. q.1.name) in
    let h1 = length-append (map name_of (placed_publics l)) (map name_of (constants l)) in
    let h2 = length-map (placed_publics l) name_of in
    let h3 = length-map (constants l) name_of in
    let all = ap ends m.is ∙ counted name l m.places m.values in
    record {
      segments = cs;
      communals = ds;
      names = split;
      lines = omega (arith, hc, hd, hp, hv, both, h0, h1, h2, h3, all);
    }
