-- The text written is that of what was read, which tells as much as all that was left. Assumes nothing.
use Rattle.report.proofs.Laws.{reported}
use Rattle.report.proofs.report.Goals as goal

pub returns : goal.returns
returns g c =
    reported _ (g.I.Read.remaining c.args.input.now) c.read_full.new.buffer c.in_ok-size.size _ _ c.read_full.auto.buffer
    c.in_ok-size.ensures.bytes c.write_text.ensures.appends
