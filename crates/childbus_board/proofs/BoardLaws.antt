-- From what is promised inside a call to what the calls of the boundary promise. Why: bytes that are not refused hold a state, whose two
-- buffers are parts of them, and what a call leaves in these is the new state's bytes in their places, with the others as they were.
use mathlib.Core.Path.{◌≡◌, refl, sym, ap, subst, ◌∙◌}
use mathlib.Core.Bool.{true}
use mathlib.Core.List.{List, ◌++◌}
use Prim.Native.Nat.{ℕ, ◌+◌, ◌-◌, ◌≤◌, ◌<◌}
use native.Mathlib.Omega.{arith}
use Rattle.std.specs.Prelude.{Result, Ok, Err}
use lib.ListN.{length, take, drop, length-take, length-drop, take-append-drop}
use lib.Seq.{length-take-le}
use borrow.Author.Tests.{eqb-false, lt-ltb, le-ltb}
use Rattle.rules.specs.declared.kinds.Bus.{Bus}
use Rattle.rules.specs.declared.kinds.Bus.TheVariants.{I2c, Rs485}
use Rattle.rules.specs.declared.kinds.Outcome.{Outcome}
use Rattle.rules.specs.State as rules
use Rattle.rules.specs.Bytes.{overlay}
use Rattle.rules.specs.Numbers.{number, made, refusal}
use Rattle.rules.specs.Frames.{verdict}
use Rattle.rules.specs.Board.{Called, handled, received, read_out}
use Rattle.laws.proofs.StateLaws.{length-used, refusal_unrefused, unrefused_profile}
use Rattle.laws.proofs.BytesLaws.{length-overlay}
use Rattle.laws.proofs.LaidLaws.{length-laid}
use Rattle.laws.proofs.BoardLaws.{received-refused, received_formed_call, refusal_least}
use Rattle.state.specs.declared.State.{State}
use Rattle.state.specs.declared.Head.{Head}
use Rattle.state.specs.View.{largest_page, largest_frame, view}
use Rattle.state.specs.Heads.{state_with, head_of, kept_reply}
use Rattle.state.proofs.Laws.{laid-used}
use Rattle.profile.specs.declared.Profile.{Profile}
use Rattle.profile.specs.View.{profile_of}
use Rattle.profile_bytes.specs.ProfileBytes.{profile_at}
use Rattle.fields.specs.Fields.{part, clipped}
use Rattle.fields.proofs.Laws.{part_put, part_behind, overlay-part}
use Rattle.state_bytes.specs.StateBytes.{waiting_from, reply_from, state_size, state_held, state_at, head_written, state_written}
use Rattle.state_bytes.proofs.Laws.{said_at, held_long, state_fits}
use Rattle.refusal.specs.Checks.{check_of}
use Rattle.refusal.proofs.Laws.{Refusal, check_passed, check_refused}
use Rattle.answer.specs.declared.Answer.{Answer}
use Rattle.answer.specs.Answered.{CallEffect, call_effect, expected_effect}
use Rattle.answer.specs.HeadAnswered.{head_effect, Handled}
use Rattle.handling.proofs.HandleLaws.{handled-received, handled-made, handled-ignored, handled_behind}
use Rattle.last_reply.specs.HandedOut.{handed_out}
use Rattle.last_reply.proofs.Laws.{read_out_handed, last_fits}
use Rattle.childbus_board.specs.BoardBytes.{ReceivedLeft, call_of, received_left, ReadLeft, read_left}
use Rattle.childbus_board.proofs.ForeignLaws.{received-clipped, read_out-clipped}
use Rattle.childbus_board.proofs.KeptLaws.{formed_held}

-- the state that bytes say, from their head and their two parts
whole : (state : List ℕ) → state_held state ≡ true
    → state_with (head_of (state_at state)) (part state waiting_from largest_page) (part state reply_from largest_frame) ≡ state_at state
whole state held =
    subst
    (λ (s : State). state_with (head_of s) (part state waiting_from largest_page) (part state reply_from largest_frame) ≡ s)
    (sym (said_at state held)) refl

-- a part put back as it was
put_back : (b : List ℕ) (at n : ℕ) → take at b ++ (part b at n ++ drop n (drop at b)) ≡ b
put_back b at n = ap (λ (l : List ℕ). take at b ++ l) (take-append-drop n (drop at b)) ∙ take-append-drop at b

length-kept_reply : (bus : Bus) (xs l : List ℕ) → length xs ≤ length l → length (kept_reply bus xs l) ≡ length l
length-kept_reply I2c xs l h = length-laid xs l h
length-kept_reply Rs485 xs l h = refl

length-take_most : (n : ℕ) (l : List ℕ) → length (take n l) ≤ n
length-take_most n l = simp length-take (omega arith)

-- what is left in the buffer of a state: w' in the place of the waiting bytes, then the last reply's buffer and the head
module _ (b w' l' : List ℕ) (s : rules.State) (held len : ℕ) (long : state_size ≤ length b) (room : length w' ≡ largest_page)
    (fits : held ≤ largest_page) (most : len ≤ largest_frame) (waiting_is : s.upload.waiting ≡ rules.used held w')
    (last_is : s.last ≡ rules.used len l') (behind : drop held w' ≡ drop held (part b waiting_from largest_page))
    (behind-last : drop len l' ≡ drop len (part b reply_from largest_frame)) (room-last : length l' ≡ largest_frame) where
  waiting_put : take waiting_from b ++ (w' ++ drop largest_page (drop waiting_from b)) ≡ overlay b waiting_from s.upload.waiting
  waiting_put =
      part_put b waiting_from largest_page w' room
      ∙ ap (overlay b waiting_from) (laid-used held w' (part b waiting_from largest_page) (omega arith) behind)
      ∙ overlay-part b waiting_from largest_page (rules.used held w') (omega arith) (omega (arith, length-used held w'))
      ∙ ap (overlay b waiting_from) (sym waiting_is)

  length_waiting : length s.upload.waiting ≡ held
  length_waiting = ap length waiting_is ∙ length-used held w'

  last_kept : part (overlay b waiting_from s.upload.waiting) reply_from largest_frame ≡ part b reply_from largest_frame
  last_kept =
      part_behind b waiting_from s.upload.waiting (omega (arith, length_waiting)) reply_from largest_frame
      (omega (arith, length_waiting))

  last_put : overlay (overlay b waiting_from s.upload.waiting) reply_from l'
      ≡ overlay (overlay b waiting_from s.upload.waiting) reply_from s.last
  last_put =
      let a : List ℕ = overlay b waiting_from s.upload.waiting in
      let same : length a ≡ length b = length-overlay b waiting_from s.upload.waiting (omega (arith, length_waiting)) in
      ap (overlay a reply_from) (laid-used len l' (part a reply_from largest_frame) (omega arith)
      (behind-last ∙ sym (ap (drop len) last_kept)))
      ∙ overlay-part a reply_from largest_frame (rules.used len l') (omega (arith, same)) (omega (arith, length-used len l'))
      ∙ ap (overlay a reply_from) (sym last_is)

  -- all of it is the new state
  state_put : (bus : Bus) (xs b' : List ℕ) (v : rules.State) → l' ≡ kept_reply bus xs (part b reply_from largest_frame) → v ≡ s
      → b' ≡ head_written v (overlay (take waiting_from b ++ (w' ++ drop largest_page (drop waiting_from b))) reply_from
      (kept_reply bus xs (part (take waiting_from b ++ (w' ++ drop largest_page (drop waiting_from b))) reply_from largest_frame)))
      → b' ≡ state_written s b
  unfolding state_written
  state_put bus xs b' v kept same written =
      let a : List ℕ = overlay b waiting_from s.upload.waiting in
      written
      ∙ ap (λ (x : List ℕ). head_written v (overlay x reply_from (kept_reply bus xs (part x reply_from largest_frame)))) waiting_put
      ∙ ap (λ (x : List ℕ). head_written v (overlay a reply_from (kept_reply bus xs x))) last_kept
      ∙ ap (λ (x : List ℕ). head_written v (overlay a reply_from x)) (sym kept)
      ∙ ap (head_written v) last_put
      ∙ ap (λ (x : rules.State). head_written x (overlay a reply_from s.last)) same

-- a call on the bytes of a profile and a state
module _ (profile state : List ℕ) (address : ℕ) (flash out : List ℕ) {p : Profile} {h : Head} {a : ℕ} {check : Result (Unit {0}) Outcome}
    (p-is : p ≡ profile_at profile) (h-is : h ≡ head_of (state_at state)) (a-is : a ≡ clipped address)
    (checked : (w l : List ℕ) → check ≡ check_of (refusal (profile_of p) (view (state_with h w l)) (length flash) (length out))) where
  -- the check is that of the state that the bytes say
  checked_said : check ≡ check_of (refusal (profile_of (profile_at profile)) (view (state_at state)) (length flash) (length out))
  checked_said =
      rw (p-is, h-is) at (checked (state_at state).upload.waiting (state_at state).last.bytes)

  module _ (o : Outcome) (told : check ≡ Err o) where
    refused_by : Refusal (refusal (profile_of (profile_at profile)) (view (state_at state)) (length flash) (length out)) o
    refused_by =
        check_refused (profile_of (profile_at profile)) (view (state_at state)) (length flash) (length out) o (sym checked_said ∙ told)

  module _ (told : check ≡ Ok tt) where
    passed_said : refusal (profile_of (profile_at profile)) (view (state_at state)) (length flash) (length out) ≡ 0
    passed_said = check_passed (profile_of (profile_at profile)) (view (state_at state)) (length flash) (length out) (sym checked_said ∙ told)

    pub passed : (w l : List ℕ) → refusal (profile_of p) (view (state_with h w l)) (length flash) (length out) ≡ 0
    passed w l = check_passed (profile_of p) (view (state_with h w l)) (length flash) (length out) (sym (checked w l) ∙ told)

    pub passed_held : state_held state ≡ true
    passed_held =
        formed_held (profile_of (profile_at profile)) state
        (refusal_unrefused (profile_of (profile_at profile)) (view (state_at state)) (length flash) (length out) passed_said).well_formed_holds

    pub passed_long : state_size ≤ length state
    passed_long = held_long state passed_held

    -- the state whose parts are lent
    lent_said : state_with h (part state waiting_from largest_page) (part state reply_from largest_frame) ≡ state_at state
    lent_said =
        ap (λ (g : Head). state_with g (part state waiting_from largest_page) (part state reply_from largest_frame)) h-is
        ∙ whole state passed_held

  -- refused: every byte is as it was
  pub received-refused-left : (frame : List ℕ) (o : Outcome) → check ≡ Err o
      → ◌≡◌ {A = ReceivedLeft} (record { number = number o; made = 0; state = state; flash = flash; out = out })
      (received_left profile state address frame flash out)
  unfolding received_left
  received-refused-left frame o told =
      let q = profile_of (profile_at profile) in
      let s = view (state_at state) in
      let r = refused_by o told in
      let least : 2 ≤ refusal q s (length flash) (length out) = refusal_least q s (length flash) (length out) r.not_zero in
      rw (
        received-refused q s flash address frame (length out) (eqb-false _ 0 r.not_zero),
        le-ltb (refusal q s (length flash) (length out)) 2 least,
        r.numbered,
      )

  -- handled: the waiting bytes' part of the state is lent
  module _ (frame : List ℕ) (told : check ≡ Ok tt) (r : Answer Head) (w' d out' : List ℕ)
      (handling : Handled p.bus h r (part state waiting_from largest_page) w' d out' out
      (λ l. handled (profile_of p) (view (state_with h (part state waiting_from largest_page) l)) a frame flash
      (verdict p.bus p.longest h.running h.address a frame))
      (verdict p.bus p.longest h.running h.address a frame)) where
    -- it is the call that the bytes say
    effect_is : head_effect p.bus r w' (part state reply_from largest_frame) d out'
        ≡ expected_effect (call_of profile state address frame flash out) out
    effect_is =
        handled-received p h (part state waiting_from largest_page) flash out a frame (passed told (part state waiting_from largest_page))
        r w' d out' handling (part state reply_from largest_frame)
        ∙ ap (λ (s : State). expected_effect (received (profile_of p) (view s) a frame flash (length out)) out) (lent_said told)
        ∙ rw (p-is, a-is)
        (ap (λ (c : Called). expected_effect c out)
        (received-clipped (profile_of (profile_at profile)) (view (state_at state)) address flash (length out) frame))

    number_is : number r.outcome ≡ (call_of profile state address frame flash out).number
    number_is = ap (λ (x : CallEffect). x.number) effect_is

    pub made_most : (made r.outcome ≤ length out) × (made r.outcome ≤ largest_frame)
    made_most =
        let free = passed told (part state waiting_from largest_page) in
        let most = handled-made p h (part state waiting_from largest_page) flash out a frame free r w' d out' handling in
        let unrefused = refusal_unrefused _ _ _ _ (free (part state reply_from largest_frame)) in
        let small = (unrefused_profile unrefused).longest_most in
        let room = unrefused.buffer_holds in
        (omega arith, omega arith)

    -- a number of 2 or above: every byte of the state is as it was
    pub received-ignored-left : 2 ≤ number r.outcome
        → ◌≡◌ {A = ReceivedLeft}
        (record {
          number = number r.outcome;
          made = made r.outcome;
          state = take waiting_from state ++ (w' ++ drop largest_page (drop waiting_from state));
          flash = d;
          out = out';
        })
        (received_left profile state address frame flash out)
    unfolding received_left
    received-ignored-left two =
        let ignoring =
        handled-ignored p h (part state waiting_from largest_page) flash out a frame (passed told (part state waiting_from largest_page))
        r w' d out' handling two in
        let big : 2 ≤ (call_of profile state address frame flash out).number = omega (arith, number_is) in
        rw (
          le-ltb (call_of profile state address frame flash out).number 2 big,
          number_is,
          ap (λ (x : CallEffect). x.made) effect_is,
          handling.buffer_kept ignoring,
          put_back state waiting_from largest_page,
          ap (λ (x : CallEffect). x.flash) effect_is,
          ap (λ (x : CallEffect). x.out) effect_is,
        )

    -- else the new state is written
    pub received_kept_left : {b : List ℕ} → length w' ≡ largest_page → number r.outcome < 2
        → ((w l : List ℕ) → b ≡ head_written (view (state_with r.state w l))
        (overlay (take waiting_from state ++ (w' ++ drop largest_page (drop waiting_from state))) reply_from
        (kept_reply p.bus (take (made r.outcome) out')
        (part (take waiting_from state ++ (w' ++ drop largest_page (drop waiting_from state))) reply_from largest_frame))))
        → ◌≡◌ {A = ReceivedLeft} (record { number = number r.outcome; made = made r.outcome; state = b; flash = d; out = out' })
        (received_left profile state address frame flash out)
    unfolding received_left
    received_kept_left {b} room few written =
        let c = call_of profile state address frame flash out in
        let l : List ℕ = part state reply_from largest_frame in
        let l' : List ℕ = kept_reply p.bus (take (made r.outcome) out') l in
        let long = passed_long told in
        let kept : c.number < 2 = omega (arith, number_is) in
        let state_is : view (state_with r.state w' l') ≡ c.state = ap (λ (x : CallEffect). x.state) effect_is in
        let unrefused =
        refusal_unrefused (profile_of (profile_at profile)) (view (state_at state)) (length flash) (length out) (passed_said told) in
        let formed =
        (received_formed_call (profile_of (profile_at profile)) (view (state_at state)) flash address frame (length out)
        unrefused.well_formed_holds).well_formed_holds in
        let fits = state_fits (profile_of (profile_at profile)) c.state unrefused.in_range_holds formed in
        let waiting_is : c.state.upload.waiting ≡ rules.used r.state.counts.held w' =
        sym (ap (λ (s : rules.State). s.upload.waiting) state_is) in
        let last_is : c.state.last ≡ rules.used r.state.len l' = sym (ap (λ (s : rules.State). s.last) state_is) in
        let held_most : r.state.counts.held ≤ largest_page =
        omega (arith, fits.waiting, ap length waiting_is, length-used r.state.counts.held w') in
        let len-most : r.state.len ≤ largest_frame = omega (arith, fits.last, ap length last_is, length-used r.state.len l') in
        let xs : List ℕ = take (made r.outcome) out' in
        let long-l : length l ≡ largest_frame = length-take-le largest_frame (drop reply_from state) (simp length-drop (omega arith)) in
        let long-l' = length-kept_reply p.bus xs l (omega (arith, length-take_most (made r.outcome) out', made_most.1)) ∙ long-l in
        let free = passed told (part state waiting_from largest_page) in
        let behind-last = handled_behind p h (part state waiting_from largest_page) flash out a frame free r w' d out' handling l in
        let put =
        state_put state w' l' c.state r.state.counts.held r.state.len long room held_most len-most waiting_is last_is
        handling.answered.behind behind-last long-l' p.bus xs b (view (state_with r.state w' l')) refl state_is (written w' l') in
        rw (
          lt-ltb c.number 2 kept,
          number_is,
          ap (λ (x : CallEffect). x.made) effect_is,
          put,
          ap (λ (x : CallEffect). x.flash) effect_is,
          ap (λ (x : CallEffect). x.out) effect_is,
        )

  -- a read: the last reply's part of the state is lent
  pub read_refused-left : (o : Outcome) → check ≡ Err o
      → ◌≡◌ {A = ReadLeft} (record { number = number o; made = 0; out = out }) (read_left profile state address flash out)
  unfolding read_left read_out
  read_refused-left o told = let r = refused_by o told in rw (r.not_zero, r.numbered)

  module _ (told : check ≡ Ok tt) where
    pub read_fits : (h.len ≤ largest_frame) × (h.len ≤ length out)
    read_fits =
        last_fits p h (part state waiting_from largest_page) (part state reply_from largest_frame) (length flash) (length out)
        (passed told (part state waiting_from largest_page) (part state reply_from largest_frame))

    pub read_left_lem : (o : Outcome) (out' : List ℕ)
        → ((w d : List ℕ) → call_effect (record { outcome = o; state = state_with h w (part state reply_from largest_frame) }) d out'
        ≡ expected_effect (handed_out p.bus (view (state_with h w (part state reply_from largest_frame))) a d) out)
        → ◌≡◌ {A = ReadLeft} (record { number = number o; made = made o; out = out' }) (read_left profile state address flash out)
    unfolding read_left
    read_left_lem o out' answered =
        let called : Called = read_out (profile_of (profile_at profile)) (view (state_at state)) address flash (length out) in
        let whole_out : read_out (profile_of p) (view (state_at state)) a flash (length out) ≡ called =
        rw (p-is, a-is) (read_out-clipped (profile_of (profile_at profile)) (view (state_at state)) address flash (length out)) in
        let effect_is : call_effect (record { outcome = o; state = state_at state }) flash out' ≡ expected_effect called out =
        subst
        (λ (s : State). call_effect (record { outcome = o; state = s }) flash out'
        ≡ expected_effect (handed_out p.bus (view s) a flash) out)
        (lent_said told)
        (answered (part state waiting_from largest_page) flash)
        ∙ ap (λ (c : Called). expected_effect c out)
        (sym (read_out_handed (profile_of p) (view (state_at state)) a flash (length out) (rw p-is (passed_said told))) ∙ whole_out) in
        rw (
          ap (λ (x : CallEffect). x.number) effect_is,
          ap (λ (x : CallEffect). x.made) effect_is,
          ap (λ (x : CallEffect). x.out) effect_is,
        )
