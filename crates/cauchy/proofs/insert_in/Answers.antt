-- `cauchy::insert_in` meets its contract: the later breaks move up, and the entry stands before them. Assumes nothing.
use mathlib.Core.Path.{◌≡◌, sym}
use Prim.Native.Nat.{suc, ◌+◌, ◌-◌, ◌≤◌}
use native.Mathlib.Omega.{arith}
use Rattle.cauchy.specs.State.{no_break_time}
use Rattle.cauchy.proofs.Order.{sift_moves, later_few}
use Rattle.cauchy.proofs.insert_in.Goals as goal

pub overflow_sub-place : goal.overflow_sub-place
overflow_sub-place c = later_few c.args.list.now c.args.count c.args.entry c.later.ensures

pub returns : goal.returns
returns c =
    let few : c.later.result ≤ c.args.count = later_few c.args.list.now c.args.count c.args.entry c.later.ensures in
    sift_moves c.args.count _ c.args.list.now c.copy_within.new.self c.args.entry c.requires (rw (sym c.later.ensures) (omega arith))
    (record {
      long = c.copy_within.ensures.len;
      below = λ j h. c.copy_within.ensures.by_index.1 j no_break_time (omega arith);
      moved = λ j h l.
          let p = c.args.count - c.later.result in
          let z : p + (suc j - (p + 1)) ≡ j = omega arith in
          rw z at (c.copy_within.ensures.by_index.0 (suc j) no_break_time (omega arith) (omega arith));
      above = λ j h. c.copy_within.ensures.by_index.2 j no_break_time (omega arith);
    })
