use Rattle.std.proofs.Common.{◌≡◌, ℕ, ◌||◌, Bool, true, false, List, sym, ap, ◌∙◌, arith}
use Rattle.std.specs.List.{list_all}
use Rattle.lx_types.specs.Object.{class_of}
use Rattle.lx_types.specs.declared.parts.Parts.{Parts}
use Rattle.load_model.specs.Modules.{object_at}
use Rattle.load_model.specs.Asks.{is_own}
use Rattle.load_model.specs.Memory.{page, pages_over}
use Rattle.load_model.specs.Histories.{has_fault}
use Rattle.merge_laws.specs.OwnStates.{is_fixed}
use Rattle.check_play.proofs.Ranges.{all_first, all_own, none_left}
use Rattle.check_play.proofs.standing.Standing.are_fixed.Goals as goal

pub returns-then-is_own : goal.returns-then-is_own
returns-then-is_own c =
    let own : is_own (class_of (object_at c.args.self.now.board.library c.args.residence.«module» c.args.at.now.object)) ≡ true =
    sym (c.is_own.ensures ∙ ap (λ (l : List Parts). is_own (class_of (object_at l c.args.residence.«module» c.args.at.now.object))) c.library.ensures) ∙ c.if-is_own.true in
    sym (all_own (is_own (class_of (object_at c.args.self.now.board.library c.args.residence.«module» c.args.at.now.object)))
    (λ n. has_fault c.args.self.now.board.history c.args.residence.serial (page c.args.at.now.object n))
    (pages_over c.args.at.now.offset c.args.at.now.len) own)

pub returns-then-not-has : goal.returns-then-not-has
returns-then-not-has c =
    let p : ℕ → Bool = λ n. is_fixed c.args.self.now.board.library c.args.self.now.board.history c.args.residence.serial c.args.residence.«module» (page c.args.at.now.object n) in
    let own : is_own (class_of (object_at c.args.self.now.board.library c.args.residence.«module» c.args.at.now.object)) ≡ false =
    sym (c.is_own.ensures ∙ ap (λ (l : List Parts). is_own (class_of (object_at l c.args.residence.«module» c.args.at.now.object))) c.library.ensures) ∙ c.if-is_own.false in
    let had : has_fault c.args.self.now.board.history c.args.residence.serial (page c.args.at.now.object c.loop-page.page) ≡ false =
    sym (c.has.ensures c.args.self.now.board.history c.requires.standing.faulted) ∙ c.if-not-has.true in
    let is : p c.loop-page.page ≡ false = ap (λ b. b || has_fault c.args.self.now.board.history c.args.residence.serial (page c.args.at.now.object c.loop-page.page)) own ∙ had in
    sym (all_first p c.loop-page.page c.span_of-span.result.end false c.loop-page-test.true is) ∙ c.loop-page.invariant ∙ ap (list_all p) c.span_of-span.ensures.pages

pub loop-page-preserved : goal.loop-page-preserved
loop-page-preserved c =
    let p : ℕ → Bool = λ n. is_fixed c.args.self.now.board.library c.args.self.now.board.history c.args.residence.serial c.args.residence.«module» (page c.args.at.now.object n) in
    let own : is_own (class_of (object_at c.args.self.now.board.library c.args.residence.«module» c.args.at.now.object)) ≡ false =
    sym (c.is_own.ensures ∙ ap (λ (l : List Parts). is_own (class_of (object_at l c.args.residence.«module» c.args.at.now.object))) c.library.ensures) ∙ c.if-is_own.false in
    let had : has_fault c.args.self.now.board.history c.args.residence.serial (page c.args.at.now.object c.loop-page.page) ≡ true =
    sym (c.has.ensures c.args.self.now.board.history c.requires.standing.faulted) ∙ c.if-not-has.false in
    let is : p c.loop-page.page ≡ true = ap (λ b. b || has_fault c.args.self.now.board.history c.args.residence.serial (page c.args.at.now.object c.loop-page.page)) own ∙ had in
    sym (all_first p c.loop-page.page c.span_of-span.result.end true c.loop-page-test.true is) ∙ c.loop-page.invariant

pub returns : goal.returns
returns c =
    let p : ℕ → Bool = λ n. is_fixed c.args.self.now.board.library c.args.self.now.board.history c.args.residence.serial c.args.residence.«module» (page c.args.at.now.object n) in
    sym (ap (list_all p) (none_left c.loop-page.page c.span_of-span.result.end (omega arith))) ∙ c.loop-page.invariant ∙ ap (list_all p) c.span_of-span.ensures.pages
