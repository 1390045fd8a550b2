-- The open question and the report, as they are handed out: a point into a slice of floats, numbers in a struct.
use Rattle.std.specs.Prelude.{ℕ, List, [], ◌++◌, length, drop, Float}
use Rattle.std.specs.Prelude.{Option, None, Some}
use Rattle.definition.specs.Counters.{status_number}
use Rattle.definition.specs.Gradient as G
use Rattle.definition.specs.Machine as M
use Rattle.counters.specs.Counts.{termination_of}
use Rattle.counters.specs.declared.Termination.{Termination}
use Rattle.question.specs.declared.Outcome.{Outcome}

abbrev pub point_asked : Option M.Question → List Float
point_asked None = []
point_asked (Some q) = q.point

-- a slice with words written from its front: those behind them are as they were
abbrev pub written : {A : Type 0} → List A → List A → List A
written ws out = ws ++ drop (length ws) out

-- word i of `probe_point`, where x has x at i
abbrev pub probe_word : G.Probes → M.Side → Float → Float
probe_word G.Probes.neither side x = x
probe_word (G.Probes.both r l) M.Side.right x = r
probe_word (G.Probes.both r l) M.Side.left x = l
probe_word (G.Probes.right_only r) side x = r
probe_word (G.Probes.left_only l) side x = l

-- the number of how a fit has ended, 0 where it has not
abbrev pub status_in : Option Termination → ℕ
status_in None = 0
status_in (Some t) = status_number (termination_of t)

abbrev pub report_of : Outcome → List Float → M.Report
report_of r x = record {
  status = status_in r.termination;
  point = x;
  value = r.value;
  nit = r.nit;
  nfev = r.nfev;
  njev = r.njev;
  drawn = r.drawn;
}
