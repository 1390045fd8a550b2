-- One name that opens every definition of this crate and the float model under it: a theorem by computation says `unfolding opened`.
use lib.Ieee as Ieee
use Rattle.definition.specs.Vector as Vector
use Rattle.definition.specs.Problem as Problem
use Rattle.definition.specs.Solve as Solve
use Rattle.definition.specs.Compact as Compact
use Rattle.definition.specs.Geometry as Geometry
use Rattle.definition.specs.Gradient as Gradient
use Rattle.definition.specs.Search as Search
use Rattle.definition.specs.Driver as Driver
use Rattle.definition.specs.Log as Log
use Rattle.definition.specs.Record as Record
use Rattle.definition.specs.History as History
use Rattle.definition.specs.Programs as Programs

unfoldable pub opened : Unit {0}
unfolding
    Ieee.round Ieee.neg Ieee.sum Ieee.add Ieee.sub Ieee.mul Ieee.div Ieee.lt Ieee.eq Ieee.le Ieee.is_nan Ieee.of_bits Ieee.to_bits
    Vector.fold_to Vector.tab
    Problem.check_problem Problem.check_common Problem.check_options Problem.check_limits Problem.validate Problem.projected_start
    Solve.scale_of Solve.pivot_of Solve.less_row Solve.eliminated Solve.on_column Solve.triangular Solve.backward Solve.solve
    Compact.update Compact.column_word Compact.diagonal_entry Compact.lower_entry Compact.block_entry Compact.padded Compact.weights Compact.less_word
    Compact.product
    Geometry.inserted Geometry.breaks_of Geometry.point_on_path Geometry.stop_all Geometry.passed Geometry.along Geometry.by_slope Geometry.segment
    Geometry.walk Geometry.generalized_cauchy Geometry.free_sum Geometry.steps_with_pairs Geometry.share_of Geometry.moved Geometry.primal_minimize
    Gradient.probes_at
    Search.limit_of Search.begin_search Search.trial_point Search.accepts Search.after_trial
    Driver.ask_value Driver.projected_norm Driver.gradient_small Driver.decrease_small Driver.try_step Driver.search_along Driver.ends_of Driver.towards
    Driver.without_pairs Driver.descend Driver.iterate Driver.learn Driver.move Driver.judge_trial Driver.complete Driver.probe_from Driver.on_value
    Driver.on_gradient Driver.on_not_supplied Driver.on_probe Driver.on_go_on Driver.begin Driver.run
    Log.log_words Log.after_entries
    Record.setup_words Record.setup_in Record.sums_from Record.record_words Record.bytes_of Record.bytes Record.number_of Record.words_of Record.record_bytes
    Record.check_words Record.read_words Record.read_record
    History.history_after History.history_answers
    Programs.read_input
opened = tt
