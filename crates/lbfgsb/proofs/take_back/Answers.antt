-- `lbfgsb::take_back` meets its contract. Assumes nothing.
use mathlib.Core.Path.{sym, ◌∙◌}
use Rattle.held.proofs.Test.{held_ready}
use Rattle.lbfgsb.proofs.Back.{built_back}
use Rattle.lbfgsb.proofs.take_back.Goals as goal

pub shorten-requires : goal.shorten-requires
shorten-requires c =
    let a = c.args in
    (held_ready a.fit a.area.now (sym c.is_held.ensures ∙ c.if-not-is_held.false), c.if-log-fit.false)

pub returns : goal.returns
returns c =
    let a = c.args in
    let x = c.shorten in
    let held = sym c.is_held.ensures ∙ c.if-not-is_held.false in
    built_back a.fit a.area.now a.log.now a.j held c.if-fit-j.false c.if-log-fit.false x.result x.new.area x.new.log x.ensures.0 x.ensures.1
