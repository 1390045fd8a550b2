-- `lbfgsb::entry` meets its contract: no fit, a log too short, no such entry, an output too short, the entry put. Assumes nothing.
use Rattle.std.proofs.Common.{◌≡◌, ℕ, ◌-◌, ◌++◌, length, take, drop, refl, sym, ap, ◌∙◌, arith}
use Rattle.problem.specs.declared.Refusal.TheVariants.{OutputShort}
use Rattle.lookup.specs.Reading.{entry_in}
use Rattle.lookup.proofs.Saving.{facts}
use Rattle.lbfgsb.proofs.Reading.{entry_short, entry_put}
use Rattle.lbfgsb.proofs.entry.Goals as goal

pub entry-found-requires : goal.entry-found-requires
entry-found-requires c =
    (facts _ _ (sym c.is_held.ensures ∙ c.if-not-is_held.false)).ready.n

pub returns-then-out-found : goal.returns-then-out-found
returns-then-out-found c =
    let a = c.args in
    let lent = (rw c.in_ok-words.ensures.ok_part at c.get.ensures.lookup).0 in
    let all : a.fit.extra.words - 0 ≡ a.fit.extra.words = omega arith in
    let front = lent.2 ∙ ap (λ (j : ℕ). take j a.log.now) all in
    entry_short _ _ _ _ _ (OutputShort _) _
    (sym c.is_held.ensures ∙ c.if-not-is_held.false)
    lent.1
    c.if-fit-k.false
    (c.entry-found.ensures ∙ ap (entry_in a.fit.shape.n a.k) front)
    c.if-out-found.true
    refl

pub returns : goal.returns
returns c =
    let a = c.args in
    let lent = (rw c.in_ok-words.ensures.ok_part at c.get.ensures.lookup).0 in
    let all : a.fit.extra.words - 0 ≡ a.fit.extra.words = omega arith in
    let front = lent.2 ∙ ap (λ (j : ℕ). take j a.log.now) all in
    entry_put _ _ _ _ _ _ _
    (sym c.is_held.ensures ∙ c.if-not-is_held.false)
    lent.1
    c.if-fit-k.false
    (c.entry-found.ensures ∙ ap (entry_in a.fit.shape.n a.k) front)
    c.if-out-found.false
    (λ i. c.copy_from_slice.ensures.after i ++ drop (length c.entry-found.result.now) a.out.now)
