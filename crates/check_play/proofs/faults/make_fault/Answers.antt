use Rattle.std.proofs.Common.{ℕ, get_or, Result, Ok, Err, OnOk, sym, ap, ◌∙◌, true≢false}
use Rattle.page_frames.specs.Residences.{ResidenceFor}
use Rattle.load_model.specs.Histories.{has_fault}
use Rattle.check_play.proofs.FaultResidences as stays
use Rattle.check_play.proofs.TakenFaults.{nowhere, was_first, fault_made}
use Rattle.check_play.proofs.faults.make_fault.Goals as goal

on_ok : {A E : Type 0} (r : Result A E) (P Q : Type 0) → (P → Q) → OnOk r P → OnOk r Q
on_ok (Ok x) P Q more is = more is
on_ok (Err e) P Q more is = tt

pub residence_of-requires-clause-going : goal.residence_of-requires-clause-going
residence_of-requires-clause-going g c =
    stays.going c.args.standing.now.board c.args.view.now c.args.fault.0.residence.serial c.args.fault.0.residence.«module» c.args.fault.0.page c.history.ensures.legal c.requires.stands c.requires.may

pub residence_of-requires-clause-object : goal.residence_of-requires-clause-object
residence_of-requires-clause-object g c =
    stays.has_object c.args.standing.now.board c.args.view.now c.args.fault.0.residence.serial c.args.fault.0.residence.«module» c.args.fault.0.page c.history.ensures.legal c.requires.stands c.requires.may c.args.fault.1.now
    (stays.named_module c.args.standing.now.board c.args.view.now c.args.fault.0.residence.serial c.args.fault.0.residence.«module» c.args.fault.0.page c.history.ensures.legal c.requires.stands c.requires.may c.args.fault.1.now c.requires.named)

pub take_fault-requires-clause-going : goal.take_fault-requires-clause-going
take_fault-requires-clause-going g c =
    stays.going c.args.standing.now.board c.args.view.now c.args.fault.0.residence.serial c.args.fault.0.residence.«module» c.args.fault.0.page c.history.ensures.legal c.requires.stands c.requires.may

pub take_fault-requires-clause-page : goal.take_fault-requires-clause-page
take_fault-requires-clause-page g c =
    let number =
    stays.named_module c.args.standing.now.board c.args.view.now c.args.fault.0.residence.serial c.args.fault.0.residence.«module» c.args.fault.0.page c.history.ensures.legal c.requires.stands c.requires.may c.args.fault.1.now c.requires.named
    in
    stays.can_map c.args.standing.now.board c.args.view.now c.args.fault.0.residence.serial c.args.fault.0.residence.«module» c.args.fault.0.page c.history.ensures.legal c.requires.stands c.requires.may c.args.fault.1.now number
    c.in_ok-residence.residence c.in_ok-residence.ensures c.residences_stand.ensures.fit c.requires.first

pub take_fault-requires-clause-shared : goal.take_fault-requires-clause-shared
take_fault-requires-clause-shared g c =
    let number =
    stays.named_module c.args.standing.now.board c.args.view.now c.args.fault.0.residence.serial c.args.fault.0.residence.«module» c.args.fault.0.page c.history.ensures.legal c.requires.stands c.requires.may c.args.fault.1.now c.requires.named
    in
    stays.shared_page c.args.standing.now.board c.args.view.now c.args.fault.0.residence.serial c.args.fault.0.residence.«module» c.args.fault.0.page c.history.ensures.legal c.requires.stands c.requires.may c.args.fault.1.now number
    c.in_ok-residence.residence c.in_ok-residence.ensures

pub prove-unreachable-requires : goal.prove-unreachable-requires
prove-unreachable-requires g c =
    let number =
    stays.named_module c.args.standing.now.board c.args.view.now c.args.fault.0.residence.serial c.args.fault.0.residence.«module» c.args.fault.0.page c.history.ensures.legal c.requires.stands c.requires.may c.args.fault.1.now c.requires.named
    in
    let serial_is =
    stays.number_serial c.args.standing.now.board c.args.view.now c.args.fault.0.residence.serial c.args.fault.0.residence.«module» c.args.fault.0.page c.history.ensures.legal c.requires.stands c.requires.may c.args.fault.1.now number
    c.in_ok-residence.residence c.in_ok-residence.ensures nowhere
    in
    let taken = was_first c.args.standing.now.board c.take_fault.new.board c.args.view.now c.take_fault.new.view (get_or c.args.view.now.residences c.in_ok-residence.residence nowhere) c.args.fault.0.page c.in_ok-was_first.was_first
    (ap (λ (n : ℕ). has_fault c.args.standing.now.board.history n c.args.fault.0.page) serial_is ∙ c.requires.first) (c.in_ok-was_first.ensures nowhere)
    in
    true≢false (sym taken.0 ∙ c.if-prove.true)

pub returns : goal.returns
returns g c =
    let r : ResidenceFor = get_or c.args.view.now.residences c.in_ok-residence.residence nowhere in
    let number =
    stays.named_module c.args.standing.now.board c.args.view.now c.args.fault.0.residence.serial c.args.fault.0.residence.«module» c.args.fault.0.page c.history.ensures.legal c.requires.stands c.requires.may c.args.fault.1.now c.requires.named
    in
    let serial_is =
    stays.number_serial c.args.standing.now.board c.args.view.now c.args.fault.0.residence.serial c.args.fault.0.residence.«module» c.args.fault.0.page c.history.ensures.legal c.requires.stands c.requires.may c.args.fault.1.now number
    c.in_ok-residence.residence c.in_ok-residence.ensures nowhere
    in
    let module_is =
    stays.number_module c.args.standing.now.board c.args.view.now c.args.fault.0.residence.serial c.args.fault.0.residence.«module» c.args.fault.0.page c.history.ensures.legal c.requires.stands c.requires.may c.args.fault.1.now number
    c.in_ok-residence.residence c.in_ok-residence.ensures nowhere
    in
    let taken = was_first c.args.standing.now.board c.take_fault.new.board c.args.view.now c.take_fault.new.view r c.args.fault.0.page c.in_ok-was_first.was_first
    (ap (λ (n : ℕ). has_fault c.args.standing.now.board.history n c.args.fault.0.page) serial_is ∙ c.requires.first) (c.in_ok-was_first.ensures nowhere)
    in
    on_ok c.follow.result _ _
    (fault_made c.args.standing.now c.follow.new.self c.args.view.now c.take_fault.new.view c.args.fault.0 c.take_fault.new.board r serial_is module_is taken.1 c.histories_grow.ensures.grows c.history.ensures.legal c.requires.kept
    c.follow.ensures.board)
    c.follow.ensures.standing
