-- Lists alike: with equal histories and lengths, state, area, log and every further answer agree. Assumes nothing.
use mathlib.Core.Path.{◌≡◌, refl, sym, ◌∙◌, subst}
use mathlib.Core.Bool.{false≢true}
use mathlib.Core.List.{List, [], ◌∷◌, map}
use lib.ListN.{length}
use Rattle.definition.specs.Machine.{Reply}
use Rattle.definition.specs.Record.{Lengths}
use Rattle.definition.specs.History.{Call, Answer, History, history_step, history_after}
use Rattle.definition.proofs.Histories.{after_append}
use Rattle.definition.proofs.TakenBack.{taken_back}
use Rattle.lbfgsb.specs.Words.{Words, lengths, Holds}
use Rattle.lbfgsb.specs.Chain.{Chain, Allowed, FitIn, HasFit, Agree, Alike}
use Rattle.lbfgsb.proofs.Determined.{agree}
use Rattle.lbfgsb.proofs.Trace.{Called, did, from, after}

agree_in : (w v : Words) (h : History) → Holds w h → Holds v h → HasFit h → lengths w ≡ lengths v → Agree w v
agree_in w v History.empty a b f l = absurd f
agree_in w v (History.fit k) a b f l = agree a.stands b.stands l

has_fit : (w : Words) (h : History) → Holds w h → FitIn w → HasFit h
has_fit w History.empty a f = false≢true (sym a ∙ f)
has_fit w (History.fit b) a f = tt

-- words that hold one history
pub alike : (w v : Words) (h : History) → Holds w h → Holds v h → HasFit h → lengths w ≡ lengths v → Alike Called w v
alike w v h a b f l = record {
  agree = agree_in w v h a b f l;
  answers = λ c d. (from c (lengths v) h l a).said ∙ sym (from d (lengths v) h refl b).said;
  again = λ {ds} {w'} {v'} c d k.
      let p = from c (lengths v) h l a in
      let q = from d (lengths v) h refl b in
      let g = history_after (lengths v) h ds in
      agree_in w' v' g p.holds q.holds (has_fit w' g p.holds k) (p.sized ∙ sym q.sized);
}

-- two lists, each from words that hold no fit or with an accepted opening or reading in first
pub lists_alike :
    {w v w' v' : Words} {cs ds : List Call} {os ps : List Answer}
    → Allowed w cs os → Allowed v ds ps → Chain Called w cs os w' → Chain Called v ds ps v'
    → lengths w ≡ lengths v
    → history_after (lengths w) History.empty cs ≡ history_after (lengths v) History.empty ds
    → HasFit (history_after (lengths w) History.empty cs)
    → Alike Called w' v'
lists_alike {w} {v} {w'} {v'} {cs} {ds} p q c d l e f =
    let a = after p c in
    let b = after q d in
    alike w' v' (history_after (lengths w) History.empty cs) a.holds (subst (Holds v') (sym e) b.holds) f (a.sized ∙ l ∙ sym b.sized)

-- replies taken back: the words agree with those before them
pub taken_back_alike :
    {w w' u v : Words} {cs : List Call} {os : List Answer} {o : Answer}
    → Allowed w cs os → Chain Called w cs os w' → HasFit (history_after (lengths w) History.empty cs)
    → (qs : List Reply) → Chain Called w' (map Call.reply qs) (map (λ q. Answer.done) qs) u → Called (Call.take_back (length qs)) u v o
    → Alike Called w' v
unfolding history_after
taken_back_alike {w} {w'} {u} {v} {cs} p ch f qs rs d =
    let z = lengths w in
    let h = history_after z History.empty cs in
    let back = Call.take_back (length qs) in
    let a = after p ch in
    let b = from rs z h a.sized a.holds in
    let g = history_after z h (map Call.reply qs) in
    let e = did d in
    let same : history_step z g back ≡ h = sym (after_append z h (map Call.reply qs) (back ∷ [])) ∙ taken_back z h qs (sym b.said) in
    let k = subst (Holds v) same (subst (λ (x : Lengths). Holds v (history_step x g back)) b.sized (e.holds g b.holds)) in
    alike w' v h a.holds k f (a.sized ∙ sym b.sized ∙ sym e.sized)
