use Rattle.std.proofs.Common.{◌∙◌, sym, subst}
use Rattle.lx_fixrec.specs.Left.{left_in}
use Rattle.lx_fixrec.specs.Laws.{IsReadAs}
use Rattle.lx_fixrec.proofs.Pages.{ordered_writable, page_is}
use Rattle.lx_fixrec.proofs.PageRead.{page_read}
use Rattle.lx_fixrec.proofs.page.encode_page.Goals as goal

pub records_of-requires : goal.records_of-requires
records_of-requires c = ordered_writable c.args.fixes.now c.deref.result.now (c.deref.ensures.value ∙ c.in_ok-sources.ensures) c.requires.each

pub returns : goal.returns
returns c =
    let bytes = page_is c.args.fixes.now c.deref.result.now c.from_vec.result (c.deref.ensures.value ∙ c.in_ok-sources.ensures) (c.from_vec.ensures ∙ c.in_ok-records_of.ensures) in
    record {
      written = bytes;
      read = λ at. subst (λ bs. IsReadAs c.args.fixes.now (left_in at bs)) (sym bytes) (page_read c.args.fixes.now at c.requires);
    }
