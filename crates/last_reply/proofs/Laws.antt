-- Where none of 2 to 5 applies, a read is what is handed out, and the last reply fits M.
use mathlib.Core.Path.{◌≡◌}
use mathlib.Core.List.{List}
use Prim.Native.Nat.{ℕ, ◌≤◌}
use native.Mathlib.Omega.{arith}
use lib.ListN.{length}
use borrow.Author.Tests.{eq-eqb}
use Rattle.rules.specs.Profile as paper
use Rattle.rules.specs.State as rules
use Rattle.rules.specs.Numbers.{refusal}
use Rattle.rules.specs.Board.{read_out}
use Rattle.laws.proofs.StateLaws.{refusal_unrefused, unrefused_profile, unrefused_state, length-used}
use Rattle.state.specs.declared.Head.{Head}
use Rattle.state.specs.View.{largest_frame, view}
use Rattle.state.specs.Heads.{state_with}
use Rattle.profile.specs.declared.Profile.{Profile}
use Rattle.profile.specs.View.{profile_of}
use Rattle.last_reply.specs.HandedOut.{handed_out}

pub read_out_handed : (p : paper.Profile) (s : rules.State) (a : ℕ) (d : List ℕ) (n : ℕ) → refusal p s (length d) n ≡ 0
    → read_out p s a d n ≡ handed_out p.bus s a d
unfolding read_out
read_out_handed p s a d n e = rw (eq-eqb _ _ e)

-- the last reply fits its buffer and the lent output
pub last_fits : (p : Profile) (h : Head) (w l : List ℕ) (n m : ℕ) → refusal (profile_of p) (view (state_with h w l)) n m ≡ 0
    → (h.len ≤ largest_frame) × (h.len ≤ m)
last_fits p h w l n m e =
    let unrefused = refusal_unrefused (profile_of p) (view (state_with h w l)) n m e in
    let most = (unrefused_state unrefused).reply.last_most in
    let small = (unrefused_profile unrefused).longest_most in
    let fits = unrefused.buffer_holds in
    (omega (arith, length-used h.len l), omega (arith, length-used h.len l))
