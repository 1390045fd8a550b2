-- The probe that is asked, whether or not the setup is accepted: it is of a coordinate that there is. Assumes nothing.
use mathlib.Core.Path.{subst}
use mathlib.Core.List.{List, [], ◌∷◌}
use Rattle.definition.specs.Problem.{Setup}
use Rattle.definition.specs.Machine.{Reply, Phase, Machine, InRange}
use Rattle.definition.specs.Driver.{move, begin, run}
use Rattle.definition.specs.Replies.{Due}
use Rattle.definition.proofs.Accepted.{due_taken}
use Rattle.definition.proofs.Leads.{Leads, Known, answer_leads}

abbrev Any : Machine → Type 0
Any m = Unit {0}

abbrev Asks : Machine → Type 0
Asks m = InRange m.phase m.terms.n

leads : Leads (λ w. Any) Any Any Asks
unfolding move
leads = record {
  bare = λ m h. tt;
  headed = λ m d h. tt;
  begun = λ m e r h p q. tt;
  asked = λ m h. tt;
  counted = λ w m h. tt;
  supplied = λ w g m h. tt;
  right = λ w v m h. tt;
  probed = λ w i side m h l a. l;
  steep = λ m h e. tt;
  again = λ m r h e. tt;
  moved = λ m h e a. tt;
  gathering_ends = λ w t m h. tt;
  seeking_ends = λ t m h. tt;
  aimed_ends = λ t m h. tt;
}

known : (r : Reply) (m : Machine) (p : Phase) → InRange p m.terms.n → Known (λ w. Any) Any Asks r m p
known r m (Phase.value w) h = record { value = λ v e q. tt; nonfinite = λ v e q. tt; failed = tt }
known r m (Phase.gradient w) h = tt
known r m (Phase.probe w i side) h = (tt, h)
known r m Phase.notice h = tt
known r m (Phase.ended t) h = tt

pub probe_in_range : (s : Setup) (rs : List Reply) → Due s rs → InRange (run s rs).phase (run s rs).terms.n
unfolding run begin
probe_in_range s [] d = tt
probe_in_range s (r ∷ rs) d =
    let m = run s rs in
    answer_leads leads m r (due_taken m r d.0) (λ p e. known r m p (subst (λ (q : Phase). InRange q m.terms.n) e (probe_in_range s rs d.1)))
