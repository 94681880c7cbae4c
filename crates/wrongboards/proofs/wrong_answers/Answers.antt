-- `wrongboards::wrong_answers` meets its contract: the reply to each has another status or another first result.
use Rattle.std.proofs.Common.{◌≡◌, ap, List, [], ◌∷◌, ℕ, arith, get_or}
use Rattle.rules.specs.declared.kinds.Bus.TheVariants.{I2c}
use Rattle.demands.specs.Replies.{EveryReply}
use Rattle.wrongboards.proofs.FirstAnswer.{first-reply}
use Rattle.wrongboards.specs.WrongBoards.{answers_wrong}
use Rattle.wrongboards.proofs.Computing.{computing}
use Rattle.wrongboards.proofs.Cases.{small, zeros, sent}
use Rattle.wrongboards.proofs.wrong_answers.Goals as goal

info : EveryReply (answers_wrong 0x03) → ⊥
unfolding computing
info h =
    let count : ◌≡◌ {A = ℕ} 1 5 = ap (λ (r : List ℕ). get_or r 1 0) (first-reply (h (small I2c 64) (zeros 64) (sent I2c 0x03 [] ∷ []))) in
    omega arith

serial : EveryReply (answers_wrong 0x04) → ⊥
unfolding computing
serial h =
    let status : ◌≡◌ {A = ℕ} 0 2 = ap (λ (r : List ℕ). get_or r 0 0) (first-reply (h (small I2c 64) (zeros 64) (sent I2c 0x04 [] ∷ []))) in
    omega arith

revision : EveryReply (answers_wrong 0x09) → ⊥
unfolding computing
revision h =
    let result : ◌≡◌ {A = ℕ} 0xEE 1 =
    ap (λ (r : List ℕ). get_or r 2 0) (first-reply (h (small I2c 64) (zeros 64) (sent I2c 0x09 [] ∷ []))) in
    omega arith

longest : EveryReply (answers_wrong 0x0c) → ⊥
unfolding computing
longest h =
    let count : ◌≡◌ {A = ℕ} 1 2 = ap (λ (r : List ℕ). get_or r 1 0) (first-reply (h (small I2c 64) (zeros 64) (sent I2c 0x0c [] ∷ []))) in
    omega arith

pub returns : goal.returns
returns c = (info, serial, revision, longest)
