-- `lbfgsb::save` meets its contract: no fit, a log too short, an output too short, the record put. No sum wraps. Assumes nothing.
use mathlib.Core.Path.{refl, sym, ◌∙◌}
use Rattle.problem.specs.declared.Refusal.TheVariants.{OutputShort}
use native.Mathlib.Omega.{arith}
use Rattle.lookup.proofs.Saving.{facts, setup_few, held_placed}
use Rattle.lbfgsb.proofs.Reading.{save_short, save_put}
use Rattle.lbfgsb.proofs.save.Goals as goal

pub setup_words-requires : goal.setup_words-requires
setup_words-requires c =
    let f = facts _ _ (sym c.is_held.ensures ∙ c.if-not-is_held.false) in
    omega (arith, f.ready.n)

pub overflow_add-needed : goal.overflow_add-needed
overflow_add-needed c =
    let f = facts _ _ (sym c.is_held.ensures ∙ c.if-not-is_held.false) in
    omega (arith, setup_few c.args.fit c.setup_words.ensures f.ready.n, f.words)

pub overflow_add-needed-2 : goal.overflow_add-needed-2
overflow_add-needed-2 c =
    let f = facts _ _ (sym c.is_held.ensures ∙ c.if-not-is_held.false) in
    omega (arith, setup_few c.args.fit c.setup_words.ensures f.ready.n, f.words)

pub overflow_mul-needed : goal.overflow_mul-needed
overflow_mul-needed c =
    let f = facts _ _ (sym c.is_held.ensures ∙ c.if-not-is_held.false) in
    omega (arith, setup_few c.args.fit c.setup_words.ensures f.ready.n, f.words)

pub returns-then-out-needed : goal.returns-then-out-needed
returns-then-out-needed c =
    save_short _ _ _ _ (OutputShort _) _
    (sym c.is_held.ensures ∙ c.if-not-is_held.false)
    c.if-log-words.false
    c.setup_words.ensures
    c.if-out-needed.true
    refl

pub put_record-requires : goal.put_record-requires
put_record-requires c =
    let setup = c.setup_words in
    let placed = held_placed _ _ (sym c.is_held.ensures ∙ c.if-not-is_held.false) in
    (placed, c.if-log-words.false, omega (arith, setup.ensures, c.if-out-needed.false))

pub returns : goal.returns
returns c =
    save_put _ _ _ _ _ _
    (sym c.is_held.ensures ∙ c.if-not-is_held.false)
    c.if-log-words.false
    c.setup_words.ensures
    c.if-out-needed.false
    c.put_record.ensures
