-- Demand 3 with the replies in the order in which they were given. Assumes nothing.
use mathlib.Core.Path.{◌≡◌, sym, ◌∙◌, subst}
use mathlib.Core.List.{List}
use Rattle.definition.specs.Book.{Book}
use Rattle.definition.specs.History.{Call, Answer, History, history_after}
use Rattle.definition.proofs.Ordered as ordered
use Rattle.lbfgsb.specs.Words.{Words, lengths, Held, Holds}
use Rattle.lbfgsb.specs.Chain.{Chain, Allowed, HoldsInOrder}
use Rattle.lbfgsb.proofs.Trace.{Called, after}

held_in_order : {w : Words} {b : Book} → Held w b → HoldsInOrder w b
held_in_order {b = b} h =
    let o = ordered.in_order_lem b in
    let k = h.stands in
    record { book = o; entries = k.entries ∙ sym o.count; machine = k.is ∙ o.machine; log = k.log ∙ o.log }

-- for every list, from words that hold no fit or with an accepted opening or reading in first
pub in_order_lem :
    {w w' : Words} {cs : List Call} {os : List Answer} {b : Book}
    → Allowed w cs os → Chain Called w cs os w' → history_after (lengths w) History.empty cs ≡ History.fit b → HoldsInOrder w' b
in_order_lem {w' = w'} p ch e = held_in_order (subst (Holds w') e (after p ch).holds)
