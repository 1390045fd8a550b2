-- `lbfgsb::start` meets its contract: refused by a check, or the fit is opened. Assumes nothing.
use mathlib.Core.Path.{◌≡◌, refl}
use borrow.Author.Rules.{rules}
use lib.ListN.{length}
use Rattle.std.proofs.lemmas.Result.{err_from_is_err_and}
use Rattle.problem.specs.Setups.{setup_of}
use Rattle.lbfgsb.specs.Words.{words}
use Rattle.accept.proofs.Checks.{passed, refused}
use Rattle.lbfgsb.proofs.Answers.{start_refused, start_done}
use Rattle.lbfgsb.proofs.start.Goals as goal

pub returns-in_err-check_start : goal.returns-in_err-check_start
returns-in_err-check_start c =
    let p = err_from_is_err_and c.from_residual.result c.from_residual.ensures.1 in
    λ l.
    let a = c.args in
    rw (p.1, p.2)
    (start_refused (setup_of a.setup) (words a.fit a.area.now l) _ (refused refl (c.in_err-check_start.ensures (length l))))

pub opened-requires : goal.opened-requires
opened-requires c = passed c.in_ok-check_start.was (c.check_start.ensures 0)

pub returns : goal.returns
returns c =
    λ l.
    let a = c.args in
    let f = c.opened in
    let z : length f.new.area ≡ length a.area.now = search rules in
    start_done (setup_of a.setup) (words a.fit a.area.now l) (words f.result f.new.area l)
    (passed c.in_ok-check_start.was (c.check_start.ensures (length l)))
    (λ i. record { area = z i; log = length l }) refl (f.ensures l)
