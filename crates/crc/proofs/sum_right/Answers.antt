-- `crc::sum_right` meets its contract: the frame's end is compared with the check sum of what comes before; fewer bytes hold none.
use Rattle.std.proofs.Common.{◌≡◌, sym, ap, ◌∙◌, Bool, false, List, ℕ, ◌-◌, ◌<◌, arith, length, take, drop, length-drop, length-take-le, rules}
use Rattle.rules.specs.declared.kinds.Bus.{Bus}
use Rattle.rules.specs.Bytes.{same}
use Rattle.rules.specs.CheckSums.{sum, sum_length, sum_right}
use Rattle.laws.proofs.BytesLaws.{same_lengths, take_rest}
use Rattle.laws.proofs.CheckSumLaws.{length-sum}
use Rattle.laws.proofs.SizeLaws.{sum_length-le}
use Rattle.crc.proofs.sum_right.Goals as goal

-- a frame too short to hold a check sum
short : (bus : Bus) (frame : List ℕ) → length frame < sum_length bus → sum_right bus frame ≡ false
unfolding sum_right
short bus frame h =
    same_lengths (drop (length frame - sum_length bus) frame) (sum bus (take (length frame - sum_length bus) frame))
    (λ e. omega (arith, e, length-sum bus (take (length frame - sum_length bus) frame), length-drop (length frame - sum_length bus) frame))

-- the last k bytes against the check sum's
compared : (bus : Bus) (frame bytes : List ℕ) (k : ℕ) {b : Bool} → k ≡ sum_length bus
    → take (sum_length bus) bytes ≡ sum bus (take (length frame - k) frame)
    → b ≡ same (take (length frame - (length frame - k)) (drop (length frame - k) frame)) (take k bytes) → b ≡ sum_right bus frame
unfolding sum_right
compared bus frame bytes k size summed e = e ∙ rw (take_rest frame (length frame - k), size) (ap (same _) (rw size at summed))

pub returns-then-frame-k : goal.returns-then-frame-k
returns-then-frame-k c = sym (short c.args.bus c.args.frame.now (omega (arith, c.sum_length-k.ensures)))

pub slice_bounds-sum_bytes-end : goal.slice_bounds-sum_bytes-end
slice_bounds-sum_bytes-end c = sym (length-take-le (length c.args.frame.now - c.sum_length-k.result) c.args.frame.now (omega arith))

pub slice_bounds-sum-end : goal.slice_bounds-sum-end
slice_bounds-sum-end c =
    let two : length c.sum_bytes-sum.result ≡ 2 = search rules in
    omega (arith, c.sum_length-k.ensures, sum_length-le c.args.bus)

pub slice_bounds-matches-end-2 : goal.slice_bounds-matches-end-2
slice_bounds-matches-end-2 c =
    let two : length c.sum_bytes-sum.result ≡ 2 = search rules in
    sym (length-take-le c.sum_length-k.result c.sum_bytes-sum.result
    (omega (arith, c.sum_length-k.ensures, sum_length-le c.args.bus)))

pub returns : goal.returns
returns c =
    compared c.args.bus c.args.frame.now _ _ c.sum_length-k.ensures c.sum_bytes-sum.ensures
    c.matches.ensures
