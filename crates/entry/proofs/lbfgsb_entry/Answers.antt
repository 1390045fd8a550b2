-- `entry::lbfgsb_entry` meets its contract: the answer of the fit that is read, or 100 and the refusal's number. Assumes nothing.
use Rattle.definition.specs.Programs.{read_input}
use Rattle.entry.proofs.Laws.{read_small}
use Rattle.entry.proofs.lbfgsb_entry.Goals as goal

pub answer-requires : goal.answer-requires
answer-requires c =
    read_small c.read.new.area c.read.new.log (read_input c.args.input.now) c.read.result _ c.in-Ok.is c.read.ensures
