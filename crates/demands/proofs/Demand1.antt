-- Demand 1 of the board of the rules, over any list: by the laws for one call (`Refused`, `Ignored`), since what is known follows the state
-- (`AllRight`).
use mathlib.Core.Path.{sym, ap, subst}
use mathlib.Core.List.{List, [], ◌∷◌}
use Prim.Native.Nat.{ℕ}
use Rattle.rules.specs.Profile.{Profile}
use Rattle.rules.specs.State.{State, Upload, fresh}
use Rattle.rules.specs.Board.{Called, received, read_out}
use Rattle.laws.proofs.BoardLaws.{read_out_state, read_out_flash}
use Rattle.ledger.specs.Ledger.{Ledger, opened}
use Rattle.ledger.specs.Calls.{Call, Frame, Read, reaction, ruled, fed, stepped, trace}
use Rattle.demands.specs.Past.{Known, known_of}
use Rattle.demands.specs.Untouched.{Untouched, AllUntouched, Demand1}
use Rattle.demands.proofs.Refused.{refused_untouched}
use Rattle.demands.proofs.Ignored.{ignored_frames}
use Rattle.demands.proofs.AllRight.{received_known, read_known}

module _ (p : Profile) (s : State) (d : List ℕ) (k : Ledger) where
  frame_untouched : (a : ℕ) (f : List ℕ) (n : ℕ)
      → Untouched p (known_of s d) (stepped ruled p k (Frame a f n) (reaction (received p s a f d n)))
  frame_untouched a f n = record {
    refused = λ two.
        let all = (refused_untouched p s a f d n).0 two in
        record { flash_is = ap (λ (c : Called). c.flash) all; count_is = ap (λ (c : Called). c.state.upload.count) all };
    stray = λ e.
        let kept = ignored_frames p s a f d n e in
        record { flash_is = kept.0; count_is = ap (λ (u : Upload). u.count) kept.1 };
  }

  read_untouched : (a n : ℕ) → Untouched p (known_of s d) (stepped ruled p k (Read a n) (reaction (read_out p s a d n)))
  read_untouched a n = record {
    refused = λ two.
        record { flash_is = read_out_flash p s a d n; count_is = ap (λ (t : State). t.upload.count) (read_out_state p s a d n) };
    stray = tt;
  }

all_untouched : (p : Profile) (s : State) (d : List ℕ) (k : Ledger) (cs : List Call)
    → AllUntouched p (known_of s d) (trace ruled p s d k cs)
unfolding trace
all_untouched p s d k [] = tt
all_untouched p s d k (Frame a f n ∷ cs) =
    let c : Called = received p s a f d n in
    let next : Ledger = fed p k (Frame a f n) c.number c.reply in (
      frame_untouched p s d k a f n,
      subst (λ (q : Known). AllUntouched p q (trace ruled p c.state c.flash next cs)) (sym (received_known p s a f d n k))
          (all_untouched p c.state c.flash next cs),
    )
all_untouched p s d k (Read a n ∷ cs) =
    let c : Called = read_out p s a d n in (
      read_untouched p s d k a n,
      subst (λ (q : Known). AllUntouched p q (trace ruled p c.state c.flash k cs)) (sym (read_known p k a n s d))
          (all_untouched p c.state c.flash k cs),
    )

pub demand1 : Demand1 ruled
demand1 p d cs = all_untouched p fresh d (opened d) cs
