-- The table preserves the relation between the state and the reading.
use Rattle.tape_core.specs.Arrive.{arrival}
use Rattle.tape_core.proofs.{Steps.step_reads, IdleSteps.idle_reads, ForeignLaws.foreign_step}
use Rattle.tape_core.proofs.{OneFile.step_set_id, OneFile.step_file, Standing.reel_left}
use Rattle.tape_core.proofs.reader.ReaderCore.step.Goals as goal

pub returns-clause-item : goal.returns-clause-item
returns-clause-item c = step_reads c.args.self.now
    (c.advance.result, c.advance.new.self) (arrival c.args.event) c.advance.ensures.table

pub returns-clause-behind : goal.returns-clause-behind
returns-clause-behind c = idle_reads c.args.self.now
    (c.advance.result, c.advance.new.self) (arrival c.args.event) c.advance.ensures.table

pub returns-clause-foreign : goal.returns-clause-foreign
returns-clause-foreign c = foreign_step c.args.self.now
    (c.advance.result, c.advance.new.self) (arrival c.args.event) c.advance.ensures.table

pub returns-clause-set_id : goal.returns-clause-set_id
returns-clause-set_id c = step_set_id c.args.self.now
    (c.advance.result, c.advance.new.self) (arrival c.args.event) c.advance.ensures.table

pub returns-clause-file : goal.returns-clause-file
returns-clause-file c = step_file c.args.self.now
    (c.advance.result, c.advance.new.self) (arrival c.args.event) c.advance.ensures.table

pub returns-clause-left : goal.returns-clause-left
returns-clause-left c = reel_left c.args.self.now
    (c.advance.result, c.advance.new.self) (arrival c.args.event) c.advance.ensures.table
