use Rattle.std.proofs.Common.{◌≡◌, ◌∙◌, ap, sym, map, Option, List, ℕ}
use Rattle.std.specs.List.{enumerate_from}
use Rattle.obj_types.specs.declared.object.ObjModule.{ObjModule}
use Rattle.obj_types.specs.declared.object.StartAt.{StartAt}
use Rattle.link_model.specs.Words.{first_of}
use Rattle.link_model.specs.Link.{Link}
use Rattle.link_model.specs.Start.{start_of, first_start}
use Rattle.link_place.proofs.Starts.{told-none, told-place, told-outside}
use Rattle.link_place.proofs.start.start_of.Goals as goal

-- The first start address of these modules is the link's.
among : (l : Link) (ms : List ObjModule) (first : Option (ℕ × StartAt)) → first ≡ first_of (map start_of (enumerate_from 1 ms)) → l.modules ≡ ms → first ≡ first_start l
among l ms first is of = is ∙ ap (λ (xs : List ObjModule). first_of (map start_of (enumerate_from 1 xs))) (sym of)

pub returns-in-None : goal.returns-in-None
returns-in-None c = λ l of objects are means.
    told-none l c.in_ok-first_start.field-0 (among l (map (λ m. m.now) c.args.modules.now) c.in_ok-first_start.field-0 c.in_ok-first_start.ensures of) c.in-None.is

pub returns-in-Some-place_of : goal.returns-in-Some-place_of
returns-in-Some-place_of c = λ l of objects are means.
    told-place l c.in_ok-first_start.field-0 (c.in-Some.«module», c.in-Some.start) c.in-Some-place_of.place (among l (map (λ m. m.now) c.args.modules.now) c.in_ok-first_start.field-0 c.in_ok-first_start.ensures of) c.in-Some.is
    (sym c.in-Some-place_of.is ∙ c.place_of.ensures l objects are means)

pub returns-in-None-place_of : goal.returns-in-None-place_of
returns-in-None-place_of c = λ l of objects are means.
    told-outside l c.in_ok-first_start.field-0 (c.in-Some.«module», c.in-Some.start) (among l (map (λ m. m.now) c.args.modules.now) c.in_ok-first_start.field-0 c.in_ok-first_start.ensures of) c.in-Some.is
    (sym c.in-None-place_of.is ∙ c.place_of.ensures l objects are means)
