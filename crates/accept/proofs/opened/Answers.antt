-- `accept::opened` meets its contract: opened, and marked. Assumes nothing.
use lib.ListN.{length}
use Rattle.problem.specs.Setups.{setup_of}
use Rattle.held.proofs.Test.{ready_facts}
use Rattle.held.proofs.Laws.{reached_ready}
use Rattle.accept.proofs.Starting.{start_room, start_reached, start_held}
use Rattle.accept.proofs.opened.Goals as goal

pub begin-fit-requires : goal.begin-fit-requires
begin-fit-requires c =
    let s = c.args.setup in
    let r = start_room s.options s.x0.now s.lower.now s.upper.now (length c.args.area.now) 0 c.requires in
    record { room = r.0; fits = r.1 }

pub mark-requires : goal.mark-requires
mark-requires c =
    let a = c.args in
    let h = start_reached (setup_of a.setup) _ _ 0 a.area.now c.begin-fit.new.area
    c.begin-fit.result c.requires c.begin-fit.ensures in
    (ready_facts c.begin-fit.result (length c.begin-fit.new.area) (reached_ready h)).shape

pub returns : goal.returns
returns c =
    λ l.
    let a = c.args in
    let h = start_reached (setup_of a.setup) _ _ 0 a.area.now c.begin-fit.new.area
    c.begin-fit.result c.requires c.begin-fit.ensures in
    start_held l h c.mark.ensures
