use Rattle.process_pages.proofs.Words.{ap, List, Mapped, over_page, subst, sym, ℕ, ◌∙◌, ◌≡◌}
use Rattle.process_pages.specs.HeldPages.{held_bytes}
use Rattle.process_pages.specs.declared.mapped_page.HeldBytes.{HeldBytes}
use Rattle.process_pages.proofs.mapped_page.MappedPage.put.Goals as goal

pub returns-clause-put : goal.returns-clause-put
returns-clause-put c =
    let w = c.args.write.now in
    let q = c.self.inside.page in
    let before = held_bytes c.self.inside.bytes in
    let same : c.deref_mut.result.now ≡ before = c.deref_mut.ensures.value ∙ ap (λ (h : HeldBytes). held_bytes h) (sym c.in-Own.is) ∙ c.make_own.ensures.same in
    let put : c.put_in.new.bytes ≡ over_page w q before = c.put_in.ensures ∙ ap (over_page w q) same in
    let P : Mapped → Type 0 = λ m. record { of = record { serial = c.self.inside.serial; page = q }; bytes = c.put_in.new.bytes } ≡ record { of = m.of; bytes = over_page w m.of.page m.bytes } in
    subst P c.self.view_is (ap (λ (bs : List ℕ). record { of = record { serial = c.self.inside.serial; page = q }; bytes = bs }) put)
