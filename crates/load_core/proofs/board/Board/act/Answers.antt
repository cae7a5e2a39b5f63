-- The bytes of a read are those of the module that is asked for.
use Rattle.load_core.proofs.Using.{may_read, ready_for, read_done, read_left}
use Rattle.load_core.proofs.board.Board.act.Goals as goal

pub read_shared-requires-clause-may : goal.read_shared-requires-clause-may
read_shared-requires-clause-may c = (
  c.in-Shared.«module»,
  may_read c.args.self.now c.args.pid c.args.ask c.in-Shared.serial c.in-Shared.«module» c.in-Shared.object c.in-Shared.offset c.in-Shared.len c.args.buffer.now c.in-Shared.is c.requires.may
      c.requires.ready,
)

pub read_shared-requires-clause-fixed : goal.read_shared-requires-clause-fixed
read_shared-requires-clause-fixed c =
    ready_for c.args.self.now c.args.pid c.args.ask c.in-Shared.serial c.in-Shared.«module» c.in-Shared.object c.in-Shared.offset c.in-Shared.len c.args.buffer.now c.in-Shared.is c.requires.may
    c.requires.ready c.history.ensures.legal

pub returns-in_ok-read_shared-in-Shared-clause-entry : goal.returns-in_ok-read_shared-in-Shared-clause-entry
returns-in_ok-read_shared-in-Shared-clause-entry c =
    read_done c.args.self.now c.args.pid c.args.ask c.in-Shared.serial c.in-Shared.«module» c.in-Shared.object c.in-Shared.offset c.in-Shared.len c.args.buffer.now c.in-Shared.is c.requires.may
    c.requires.ready c.read_shared.new.self c.read_shared.new.into
    (c.in_ok-read_shared-in-Shared.ensures.read c.in-Shared.«module»
    (may_read c.args.self.now c.args.pid c.args.ask c.in-Shared.serial c.in-Shared.«module» c.in-Shared.object c.in-Shared.offset c.in-Shared.len c.args.buffer.now c.in-Shared.is c.requires.may
    c.requires.ready))

pub returns-in_ok-read_shared-in-Shared-clause-buffer : goal.returns-in_ok-read_shared-in-Shared-clause-buffer
returns-in_ok-read_shared-in-Shared-clause-buffer c =
    read_left c.args.self.now c.args.pid c.args.ask c.in-Shared.serial c.in-Shared.«module» c.in-Shared.object c.in-Shared.offset c.in-Shared.len c.args.buffer.now c.in-Shared.is c.requires.may
    c.requires.ready c.read_shared.new.self c.read_shared.new.into
    (c.in_ok-read_shared-in-Shared.ensures.read c.in-Shared.«module»
    (may_read c.args.self.now c.args.pid c.args.ask c.in-Shared.serial c.in-Shared.«module» c.in-Shared.object c.in-Shared.offset c.in-Shared.len c.args.buffer.now c.in-Shared.is c.requires.may
    c.requires.ready))
