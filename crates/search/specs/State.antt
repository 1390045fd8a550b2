-- The definition's search, read off the record of floats and what stands beside it.
use Rattle.std.specs.Prelude.{◌≡◌, false, cond}
use Rattle.std.specs.Prelude.{None, Some}
use Rattle.definition.specs.Number.{zero64}
use Rattle.definition.specs.Search as S
use Rattle.search.specs.declared.Search.{Search}
use Rattle.search.specs.declared.Limit.{Limit}
use Rattle.search.specs.declared.Verdict.{Verdict}
use Rattle.search.specs.declared.Verdict.TheVariants.{Accepted, Another, Failed}

abbrev pub search_of : Search → S.Search
search_of s = record {
  alpha = s.step.alpha;
  low = s.step.low;
  high = cond s.trials.bracketed (Some s.step.high) None;
  slope0 = s.step.slope0;
  amax = s.step.amax;
  face = s.trials.face;
  trials = s.trials.count;
}

-- an absent high end stands as 0
abbrev pub Settled : Search → Type 0
Settled s = s.trials.bracketed ≡ false → s.step.high ≡ zero64

abbrev pub limit_of : Limit → S.Limit
limit_of l = record { amax = l.amax; face = l.face }

abbrev pub verdict_of : Verdict → S.Verdict
verdict_of Accepted = S.Verdict.accepted
verdict_of (Another s) = S.Verdict.another (search_of s)
verdict_of Failed = S.Verdict.failed

abbrev pub VerdictSettled : Verdict → Type 0
VerdictSettled Accepted = Unit {0}
VerdictSettled (Another s) = Settled s
VerdictSettled Failed = Unit {0}
