-- One byte more than an input may have tells as much as the whole: both are refused. Assumes nothing.
use Rattle.std.proofs.Common.{◌≡◌, ◌<◌, ◌≤◌, Bool, true, false, ltb, List, ℕ, ◌++◌, length, take, Option, Some, None}
use Rattle.std.proofs.Common.{Result, Ok, Err, OnOk, IfSome, refl, ap, arith, length-take, take_all, lt-ltb, ltb-true, ltb-false}
use Rattle.std.specs.Io.KnownBytes.{Appends}
use Rattle.definition.specs.Programs.{read_input, printed}
use Rattle.text.specs.Text.{text_of}
use Rattle.std.proofs.Common.{◌+◌, drop, sym, ◌∙◌}
use Rattle.std.proofs.Math.Seq.{take-append-add, length-take-le}
use Rattle.std.proofs.lemmas.List.{take-append-le}
use borrow.Rule.Slice.PartMut.{put_mid}
use Rattle.report.specs.Filled.{Fills}

front : (bs : List ℕ) (long : Bool) → ltb 65_536 (length bs) ≡ long → printed (take 65_537 bs) ≡ printed bs
unfolding read_input
front bs true e =
    let more : 65_536 < length bs = ltb-true _ _ e in
    let kept : 65_536 < length (take 65_537 bs) = rw (length-take 65_537 bs) (omega arith) in
    rw (lt-ltb 65_536 (length (take 65_537 bs)) kept, e) refl
front bs false e =
    let less : length bs ≤ 65_536 = ltb-false _ _ e in
    ap printed (take_all 65_537 bs (omega arith))

printed_front : (bs : List ℕ) → printed (take 65_537 bs) ≡ printed bs
printed_front bs = front bs _ refl

-- what was read up to a byte too many, where the reader's bytes are known, and the text written for it
pub reported : {E : Type 0} (r : Result Unit E) (known : Option (List ℕ)) (buffer : List ℕ) (size : ℕ) (old new : Option (List ℕ))
    → length buffer ≡ 65_537 → Fills known buffer size → OnOk r (Appends old new (text_of (printed (take size buffer))))
    → OnOk r (IfSome known (λ bs. Appends old new (text_of (printed bs))))
reported (Ok u) None buffer size old new l h k = tt
reported (Ok u) (Some bs) buffer size old new l h k =
    let all : take size buffer ≡ take 65_537 bs = h ∙ ap (λ (n : ℕ). take n bs) l in
    rw (← printed_front bs) (rw all at k)
reported (Err e) known buffer size old new l h k = tt

-- a read into the buffer from a place on: what stands up to the end of what came
pub filled : (buffer came : List ℕ) (from room count : ℕ) → from ≤ length buffer → count ≤ length came
    → take (from + count) (put_mid from room buffer came) ≡ take from buffer ++ take count came
filled buffer came from room count within some =
    ap (λ (k : ℕ). take (k + count) (put_mid from room buffer came)) (sym (length-take-le from buffer within))
    ∙ take-append-add (take from buffer) (came ++ drop room (drop from buffer)) count
    ∙ ap (λ (bs : List ℕ). take from buffer ++ bs) (take-append-le count came (drop room (drop from buffer)) some)
