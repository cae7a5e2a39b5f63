use Rattle.process_pages.proofs.Words.{get_or, is_mapped_at, position, position-Some, residence_in, Some, sym, ◌∙◌, ◌≡◌}
use Rattle.process_pages.proofs.Covering.{page_at, put_nowhere, put_there}
use Rattle.process_pages.proofs.writing.put_at.Goals as goal

pub put-requires-clause-object : goal.put-requires-clause-object
put-requires-clause-object c =
    let serial = (residence_in c.args.reached.now).serial in
    let pages = c.args.pages.now in
    let found : position (is_mapped_at serial c.args.p) pages ≡ Some c.in-Some.place = sym c.requires.found ∙ sym c.get.ensures ∙ c.in-Some.is in
    let there = position-Some (is_mapped_at serial c.args.p) pages c.in-Some.place c.index-pages-place.result found in
    c.requires.object ∙ sym (page_at serial c.args.p (get_or pages c.in-Some.place c.index-pages-place.result) there.1).1

pub returns-in-Some-clause-put : goal.returns-in-Some-clause-put
returns-in-Some-clause-put c =
    let serial = (residence_in c.args.reached.now).serial in
    let pages = c.args.pages.now in
    let found : position (is_mapped_at serial c.args.p) pages ≡ Some c.in-Some.place = sym c.requires.found ∙ sym c.get.ensures ∙ c.in-Some.is in
    put_there serial c.args.p c.args.write.now pages c.in-Some.place c.index-pages-place.result c.put.new.self c.requires.once found c.put.ensures.put

pub returns-in_default-clause-put : goal.returns-in_default-clause-put
returns-in_default-clause-put c =
    let serial = (residence_in c.args.reached.now).serial in
    put_nowhere serial c.args.p c.args.write.now c.args.pages.now (sym c.requires.found ∙ sym c.get.ensures ∙ c.in_default.is)
