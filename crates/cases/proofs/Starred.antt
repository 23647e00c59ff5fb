-- Every starred case holds, and the others of the table. What a row says computes, but for a Nonce's packet: its checksum
-- is left to the round trip. Assumes nothing.
use mathlib.Core.Path.{◌≡◌, refl, ap, sym, ◌∙◌}
use mathlib.Core.Bool.{true, false}
use mathlib.Core.List.{List, [], ◌∷◌, ◌++◌, append-nil}
use Prim.Native.Nat.{ℕ, ◌+◌, ◌≤◌, ◌<◌, ◌^◌}
use native.Mathlib.Omega.{arith}
use lib.IntN.{pos}
use native.Mathlib.Nat.{add-zero}
use lib.ListN.{length, replicate}
use lib.Dec.{eqb, lit<}
use Rattle.wire.specs.Bytes.{le, bytes}
use Rattle.wire.proofs.ByteLaws.{Small}
use Rattle.crc.specs.Crc.{clock, clocks, feed, feeds, crc}
use Rattle.header.specs.Headers.{request_kind, kind_of}
use Rattle.text.specs.TextForm.{read_text, text_after}
use Rattle.invoke_headers.specs.Headers.{read_extra, flags_of, actor_of, both_of, next_of, headers_from}
use Rattle.invoke_in.specs.ReadInvoke.{read_invoke}
use Rattle.message.specs.PartOf.{part_of}
use Rattle.message.specs.ReadMessage.{to_server, read_message}
use Rattle.link_state.specs.declared.Link.{Link}
use Rattle.link_state.specs.SetUp as SetUp
use Rattle.link_state.specs.Turn.{may_send, stage_after}
use Rattle.packet.specs.Sum.{castagnoli_of, sum_of}
use Rattle.packet.specs.Allowed.{allowed_of}
use Rattle.packet_head.specs.Head.{check_length, check_head}
use Rattle.packet_padding.specs.Padding.{padded_of, pads_of, tail_of, words_allowed, phase_after}
use Rattle.packet_head.specs.Words.{word_at, words_of}
use Rattle.packet_in.specs.Frame.{whole_of, rows_of, frame_of}
use Rattle.opening.specs.Clock.{clock_of, nonce_clock, near_of}
use Rattle.link_cipher.specs.Chosen.{server_refuses, encryption_refused, chosen_of, cipher_refused}
use Rattle.opening.specs.Nonce.{least_of, beyond_of, check_nonce}
use Rattle.link.specs.Look.{check_turn, look_of}
use Rattle.link_next.specs.KeepAlive.{awaits_after, owes_after, owed_after}
use Rattle.link_next.specs.Next.{closed_of, closes_of, refused_of, agreed_after, version_after, after_of}
use Rattle.link.specs.Receive.{check_body, receive_of}
use Rattle.link.specs.declared.Received.{Received}
use Rattle.packet_out.specs.Size.{size_of, fits_of}
use Rattle.packet_out.specs.Packet.{head_of, front_of, packet_of}
use Rattle.send_rules.specs.Sent.{sent_of}
use Rattle.send_rules.specs.Control.{check_send, control_answer, control_step}
use Rattle.nonce_out.specs.Nonce.{nonce_head, nonce_body}
use Rattle.keep_alive_out.specs.KeepAlive.{ping_step}
use Rattle.inflight.specs.Numbers.{same, after}
use Rattle.inflight.specs.Matching.{matches, matching, without, load, sum_below, next_free}
use Rattle.inflight.specs.Model.{Model, empty, check_ask, accept, ask_answer, check_take, taken}
use Rattle.inflight.specs.Model as M
use Rattle.inflight.specs.declared.Table.{Table}
use Rattle.inflight.specs.Tables.{Sized, load_of, fresh_of}
use Rattle.inflight.specs.Calls.{Call, Heard, table_at, model_at}
use Rattle.inflight.specs.Calls as H
use Rattle.inflight_model.proofs.Invariant.{Ranged}
use Rattle.inflight_tied.proofs.Tied.{model_of}
use Rattle.inflight_tied.proofs.Loads.{load-ones}
use Rattle.inflight_tied.proofs.Simulated.{Good, same-call, stays, fresh-good, fresh-model}
use Rattle.pair.specs.Awaits.{Awaits}
use Rattle.pair.proofs.SumLaws.{small-append}
use Rattle.pair.proofs.RoundTrip.{received, body_refused}
use Rattle.pair.proofs.NoncePasses.{small-zeros, small-nonce}
use Rattle.cases.specs.Outcome.{Outcome, refused, packet, loads, accepted, of_arrival, of_ask, Holds, AllHold}
use Rattle.cases.specs.Cases.{side, our, in_opening, nonce, timed, zeros, asked, loads_of, asks, filling}
use Rattle.cases.specs.Cases.{filled, fuller}
use Rattle.cases.specs.Cases.{length16, length15, length1023, length1024, number_sent, number_received, clock30_behind, clock30_ahead, clock31_ahead, text_example, actor_once, actor_twice, actor_again, loads_filled, third_refused, fourth_accepted, load16, loads_fuller, fifth_refused, fifth_accepted, marker_ends, starred_cases, other_cases}
use Rattle.std.specs.Prelude.{Err, Ok, Result}
use Rattle.refusal.specs.declared.Refusal.TheVariants.{Clocks, NoSuchRequest}
use Rattle.refusal.specs.declared.Refusal.{Refusal}
use Rattle.refusal.specs.Numbers.{number}
use Rattle.inflight.specs.declared.PublisherNumber.{PublisherNumber}

-- ---- a Nonce, in the first packet

-- the server waits for the client's first packet
awaits : Awaits (SetUp.fresh_of (side true) 0) (SetUp.fresh_of (side false) 0)
unfolding SetUp.fresh_of castagnoli_of pads_of check_turn may_send
awaits = record { number = refl; checksum = refl; stage = refl; profile = refl; turn = refl }

module _ (body : List ℕ) (n : ℕ) (is : length body ≡ n) (len : check_length (SetUp.fresh_of (side true) 0) (n + 16) ≡ Ok tt) (short : n + 16 < 2 ^ 32) (g : Small body) where
  abbrev server : Link
  server = SetUp.fresh_of (side true) 0

  abbrev client : Link
  client = SetUp.fresh_of (side false) 0

  whole : packet_of client 0x7acb87aa body ≡ packet_of client 0x7acb87aa body ++ []
  whole = sym (append-nil (packet_of client 0x7acb87aa body))

  size_is : size_of client n ≡ n + 16
  unfolding SetUp.fresh_of size_of tail_of pads_of
  size_is = add-zero (n + 16)

  passes : check_nonce (SetUp.fresh_of (side true) 0) body our ≡ Ok tt → in_opening (nonce body) ≡ packet 0x7acb87aa (n + 16) 12 n
  unfolding SetUp.fresh_of allowed_of check_body
  passes ok =
      ap (λ (s : List ℕ). in_opening s) whole
      ∙ (ap (λ (r : Received). of_arrival r.answer) (received client 0x7acb87aa body [] server awaits (ap (λ (x : ℕ). check_length server (x + 16)) is ∙ len) refl (lit< tt) (rw is short) (lit< tt) g our ok)
      ∙ (ap (λ (x : ℕ). packet 0x7acb87aa (size_of client x) 12 x) is ∙ ap (λ (x : ℕ). packet 0x7acb87aa x 12 n) size_is))

  fails : (r : Refusal) → check_nonce (SetUp.fresh_of (side true) 0) body our ≡ Err r → in_opening (nonce body) ≡ refused (number r)
  unfolding SetUp.fresh_of allowed_of check_body
  fails r bad =
      ap (λ (s : List ℕ). in_opening s) whole
      ∙ ap (λ (r : Received). of_arrival r.answer) (body_refused client 0x7acb87aa body [] server awaits (ap (λ (x : ℕ). check_length server (x + 16)) is ∙ len) refl (lit< tt) (rw is short) (lit< tt) g our r bad)

timed-small : (t : ℕ) → Small (timed t)
timed-small t = small-nonce 0 0 2 t (replicate 16 0) (replicate 32 0) (small-zeros 16) (small-zeros 32)

-- ---- the rows

length-16 : Holds length16
unfolding length16 le bytes clock clocks feed feeds crc may_send stage_after castagnoli_of sum_of check_length allowed_of check_head padded_of pads_of tail_of words_allowed word_at words_of whole_of rows_of frame_of check_turn look_of awaits_after owes_after owed_after closed_of closes_of refused_of agreed_after version_after after_of check_body receive_of head_of front_of packet_of
length-16 = refl

length-15 : Holds length15
unfolding number length15 le bytes check_turn may_send look_of padded_of words_allowed word_at words_of rows_of frame_of check_length receive_of
length-15 = refl

length-1023 : Holds length1023
unfolding number length1023 check_nonce least_of cipher_refused encryption_refused server_refuses chosen_of beyond_of near_of nonce_clock clock_of nonce_body nonce_head le bytes check_length SetUp.fresh_of
length-1023 = passes (timed 1000 ++ replicate 947 0) 1007 refl refl (lit< tt) (small-append (timed 1000) (replicate 947 0) (timed-small 1000) (small-zeros 947)) refl

length-1024 : Holds length1024
unfolding number length1024 le bytes check_turn may_send look_of padded_of words_allowed word_at words_of rows_of frame_of check_length receive_of SetUp.fresh_of
length-1024 = refl

number-sent : Holds number_sent
unfolding number_sent ping_step control_step control_answer check_send may_send allowed_of padded_of pads_of tail_of phase_after size_of fits_of sent_of bytes
number-sent = refl

number-received : Holds number_received
unfolding number_received le bytes clock clocks feed feeds crc may_send stage_after castagnoli_of sum_of check_length allowed_of check_head padded_of pads_of tail_of words_allowed word_at words_of whole_of rows_of frame_of check_turn look_of awaits_after owes_after owed_after closed_of closes_of refused_of agreed_after version_after after_of check_body receive_of head_of front_of packet_of
number-received = refl

clock-30-behind : Holds clock30_behind
unfolding clock30_behind check_nonce least_of cipher_refused encryption_refused server_refuses chosen_of beyond_of near_of nonce_clock clock_of nonce_body nonce_head le bytes check_length SetUp.fresh_of
clock-30-behind = passes (timed 970) 60 refl refl (lit< tt) (timed-small 970) refl

clock-30-ahead : Holds clock30_ahead
unfolding clock30_ahead check_nonce least_of cipher_refused encryption_refused server_refuses chosen_of beyond_of near_of nonce_clock clock_of nonce_body nonce_head le bytes check_length SetUp.fresh_of
clock-30-ahead = passes (timed 1030) 60 refl refl (lit< tt) (timed-small 1030) refl

clock-31-ahead : Holds clock31_ahead
unfolding number clock31_ahead check_nonce least_of cipher_refused encryption_refused server_refuses chosen_of beyond_of near_of nonce_clock clock_of nonce_body nonce_head le bytes check_length SetUp.fresh_of
clock-31-ahead = fails (timed 1031) 60 refl refl (lit< tt) (timed-small 1031) Clocks refl

text-example : Holds text_example
unfolding number text_example read_text text_after le
text-example = refl

actor-once : Holds actor_once
unfolding number actor_once le request_kind kind_of read_extra flags_of actor_of both_of next_of headers_from read_invoke part_of to_server read_message
actor-once = refl

actor-twice : Holds actor_twice
unfolding number actor_twice le request_kind kind_of read_extra flags_of actor_of both_of next_of headers_from read_invoke part_of to_server read_message
actor-twice = refl

actor-again : Holds actor_again
unfolding number actor_again le request_kind kind_of read_extra flags_of actor_of both_of next_of headers_from read_invoke part_of to_server read_message
actor-again = refl

-- ---- those on loads: the table answers as the model, and the model computes

-- a table that is good reads as a model: so it does after some calls
record Reads (w : Table) (m : Model) : Type 0 where
  good : Good w
  model : model_of w ≡ m

sized : Sized zeros
sized = record { masks = refl; numbers = refl; places = refl; order = refl; times = refl }

ranged : Ranged (record { 0 = pos 1 })
ranged = record { at = 1; is = refl; low = lit< tt; high = lit≤ }
  where
    lit≤ : 1 ≤ 9223372036854775807
    lit≤ = omega arith

fresh-reads : Reads (fresh_of zeros (record { 0 = pos 1 })).table (empty (record { 0 = pos 1 }))
fresh-reads =
    record {
      good = fresh-good zeros (record { 0 = pos 1 }) sized refl ranged;
      model = fresh-model zeros (record { 0 = pos 1 }) sized refl;
    }

reads_at : (w : Table) (m : Model) → Reads w m → (cs : List Call) → Reads (table_at w cs) (model_at m cs)
reads_at w m r cs =
    let s = stays cs w r.good in
    record { good = s.good; model = s.model ∙ ap (λ (x : Model). model_at x cs) r.model }

answer_of : Heard → Result PublisherNumber Refusal
answer_of (H.asked a) = a
answer_of (H.replied a) = Err NoSuchRequest
answer_of (H.cancelled a) = Err NoSuchRequest
answer_of (H.dropped a out) = Err NoSuchRequest

asked-as : (w : Table) (m : Model) → Reads w m → (p n : ℕ)
    → asked w p n ≡ of_ask (ask_answer m p (record { 0 = pos n }) p 0)
unfolding answer_of
asked-as w m r p n =
    ap (λ (h : Heard). of_ask (answer_of h)) (same-call w (H.ask p (record { 0 = pos n }) p 0 0) r.good).answer
    ∙ ap (λ (x : Model). of_ask (ask_answer x p (record { 0 = pos n }) p 0)) r.model

abbrev model_loads : Model → Outcome
model_loads m =
    loads (
    load m.requests 0 ∷
    load m.requests 1 ∷
    load m.requests 2 ∷
    load m.requests 3 ∷
    load m.requests 4 ∷
    load m.requests 5 ∷
    load m.requests 6 ∷
    load m.requests 7 ∷
    []
    )

loads-as : (w : Table) (m : Model) → Reads w m → loads_of w ≡ model_loads m
loads-as w m r =
    let l : ((p : ℕ) → p < 8 → load_of w.masks p ≡ load (model_of w).requests p) =
    load-ones w r.good.kept.tied in
    rw (
      l 0 (lit< tt),
      l 1 (lit< tt),
      l 2 (lit< tt),
      l 3 (lit< tt),
      l 4 (lit< tt),
      l 5 (lit< tt),
      l 6 (lit< tt),
      l 7 (lit< tt),
    )
    (ap model_loads r.model)

-- the models of `filled` and of `fuller`
unfoldable filled_model : Model
filled_model = model_at (empty (record { 0 = pos 1 })) filling

unfoldable fuller_model : Model
fuller_model = model_at filled_model (asks 3 4)

filled-reads : Reads filled filled_model
unfolding filled filled_model
filled-reads =
    reads_at (fresh_of zeros (record { 0 = pos 1 })).table (empty (record { 0 = pos 1 })) fresh-reads filling

fuller-reads : Reads fuller fuller_model
unfolding fuller fuller_model
fuller-reads = reads_at filled filled_model filled-reads (asks 3 4)

filled-loads : model_loads filled_model ≡ loads (16 ∷ 16 ∷ 12 ∷ 0 ∷ 0 ∷ 0 ∷ 0 ∷ 0 ∷ [])
unfolding filled_model same after matches matching without sum_below next_free check_ask accept ask_answer M.ask empty
    model_at asks
filled-loads = refl

loads-filled : loads_of filled ≡ loads (16 ∷ 16 ∷ 12 ∷ 0 ∷ 0 ∷ 0 ∷ 0 ∷ 0 ∷ [])
loads-filled = loads-as filled filled_model filled-reads ∙ filled-loads

third-model : of_ask (ask_answer filled_model 2 (record { 0 = pos 13 }) 2 0) ≡ refused 33
unfolding number filled_model same after matches matching without sum_below next_free check_ask accept ask_answer M.ask empty
    model_at asks
third-model = refl

third-refused : asked filled 2 13 ≡ refused 33
third-refused = asked-as filled filled_model filled-reads 2 13 ∙ third-model

fourth-model : of_ask (ask_answer filled_model 3 (record { 0 = pos 1 }) 3 0) ≡ accepted (pos 1)
unfolding filled_model same after matches matching without sum_below next_free check_ask accept ask_answer M.ask empty
    model_at asks
fourth-model = refl

fourth-accepted : asked filled 3 1 ≡ accepted (pos 1)
fourth-accepted = asked-as filled filled_model filled-reads 3 1 ∙ fourth-model

load-16-model : of_ask (ask_answer filled_model 0 (record { 0 = pos 17 }) 0 0) ≡ refused 32
unfolding number filled_model same after matches matching without sum_below next_free check_ask accept ask_answer M.ask empty
    model_at asks
load-16-model = refl

load-16 : asked filled 0 17 ≡ refused 32
load-16 = asked-as filled filled_model filled-reads 0 17 ∙ load-16-model

fuller-loads : model_loads fuller_model ≡ loads (16 ∷ 16 ∷ 12 ∷ 4 ∷ 0 ∷ 0 ∷ 0 ∷ 0 ∷ [])
unfolding fuller_model filled_model same after matches matching without sum_below next_free check_ask accept ask_answer
    M.ask empty model_at asks
fuller-loads = refl

loads-fuller : loads_of fuller ≡ loads (16 ∷ 16 ∷ 12 ∷ 4 ∷ 0 ∷ 0 ∷ 0 ∷ 0 ∷ [])
loads-fuller = loads-as fuller fuller_model fuller-reads ∙ fuller-loads

fifth-model : of_ask (ask_answer fuller_model 3 (record { 0 = pos 5 }) 3 0) ≡ refused 33
unfolding number fuller_model filled_model same after matches matching without sum_below next_free check_ask accept ask_answer
    M.ask empty model_at asks
fifth-model = refl

fifth-refused : asked fuller 3 5 ≡ refused 33
fifth-refused = asked-as fuller fuller_model fuller-reads 3 5 ∙ fifth-model

cancelled-model :
    of_ask (ask_answer (model_at fuller_model (H.cancel 0 (record { 0 = pos 1 }) ∷ [])) 3 (record { 0 = pos 5 }) 3 0)
    ≡ accepted (pos 5)
unfolding fuller_model filled_model check_take taken same after matches matching without sum_below next_free check_ask
    accept ask_answer M.ask empty model_at asks
cancelled-model = refl

fifth-accepted : asked (table_at fuller (H.cancel 0 (record { 0 = pos 1 }) ∷ [])) 3 5 ≡ accepted (pos 5)
fifth-accepted =
    asked-as (table_at fuller (H.cancel 0 (record { 0 = pos 1 }) ∷ []))
    (model_at fuller_model (H.cancel 0 (record { 0 = pos 1 }) ∷ []))
    (reads_at fuller fuller_model fuller-reads (H.cancel 0 (record { 0 = pos 1 }) ∷ [])) 3 5
    ∙ cancelled-model

marker-ends : Holds marker_ends
unfolding number marker_ends le request_kind kind_of read_extra flags_of actor_of both_of next_of headers_from read_invoke part_of to_server read_message
marker-ends = refl

-- ---- the tables

-- a row, and the rows after it
infixr 10 ◌then◌
◌then◌ : {A B : Type 0} → A → B → A × B
◌then◌ row rows = (row, rows)

-- THE STARRED CASES: in every row of the table, what our definitions give is what document 01 says
pub starred : AllHold starred_cases
unfolding starred_cases loads_filled third_refused fourth_accepted load16
starred =
    length-16
    then length-15
    then length-1023
    then length-1024
    then number-sent
    then number-received
    then clock-30-behind
    then clock-30-ahead
    then clock-31-ahead
    then text-example
    then actor-once
    then actor-twice
    then actor-again
    then loads-filled
    then third-refused
    then fourth-accepted
    then load-16
    then tt

-- the other cases
pub others : AllHold other_cases
unfolding other_cases loads_fuller fifth_refused fifth_accepted
others = loads-fuller then fifth-refused then fifth-accepted then marker-ends then tt
