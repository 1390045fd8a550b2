-- `record::check` meets its contract. Assumes nothing.
use Rattle.std.proofs.Common.{sym, ◌∙◌}
use Rattle.std.proofs.lemmas.Result.{err_from_is_err_and}
use Rattle.record.proofs.Reading.{unframed, sums_refused, form_refused, setup_refused, opens}
use Rattle.record.proofs.check.Goals as goal

pub returns-then-not-is_framed : goal.returns-then-not-is_framed
returns-then-not-is_framed c = unframed c.args.input.now c.args.available (sym c.is_framed.ensures ∙ c.if-not-is_framed.true)

pub returns-then-not-sums_agree : goal.returns-then-not-sums_agree
returns-then-not-sums_agree c =
    let framed = sym c.is_framed.ensures ∙ c.if-not-is_framed.false in
    sums_refused c.args.input.now _ framed c.frame_of-frame.ensures c.args.available (sym c.sums_agree.ensures ∙ c.if-not-sums_agree.true)

pub returns-then-is_malformed : goal.returns-then-is_malformed
returns-then-is_malformed c =
    let framed = sym c.is_framed.ensures ∙ c.if-not-is_framed.false in
    let sums = sym c.sums_agree.ensures ∙ c.if-not-sums_agree.false in
    form_refused c.args.input.now _ framed c.frame_of-frame.ensures c.args.available sums (sym c.is_malformed.ensures ∙ c.if-is_malformed.true)

pub returns-in_err-check_setup : goal.returns-in_err-check_setup
returns-in_err-check_setup c =
    let p = err_from_is_err_and c.from_residual.result c.from_residual.ensures.1 in
    let framed = sym c.is_framed.ensures ∙ c.if-not-is_framed.false in
    let sums = sym c.sums_agree.ensures ∙ c.if-not-sums_agree.false in
    let form = sym c.is_malformed.ensures ∙ c.if-is_malformed.false in
    rw (p.1, p.2) (setup_refused c.args.input.now _ framed c.frame_of-frame.ensures sums form c.args.available _ c.in_err-check_setup.ensures)

pub returns : goal.returns
returns c =
    let framed = sym c.is_framed.ensures ∙ c.if-not-is_framed.false in
    let sums = sym c.sums_agree.ensures ∙ c.if-not-sums_agree.false in
    let form = sym c.is_malformed.ensures ∙ c.if-is_malformed.false in
    opens c.args.input.now _ framed c.frame_of-frame.ensures sums form c.args.available _ c.options-options.ensures c.in_ok-check_setup.ensures
