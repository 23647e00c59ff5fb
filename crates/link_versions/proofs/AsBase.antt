-- Before a link had a lowest version no refusal was 24, and what was refused closes as before. From the lowest version up
-- a Nonce is judged as before; so is each, and set-up without a key, with lowest version 0. Assumes nothing.
use borrow.Author.Tests.{le-ltb}
use native.Mathlib.Omega.{arith}
use mathlib.Core.Path.{◌≡◌, refl, subst}
use mathlib.Core.Bool.{false, not, ◌&&◌}
use mathlib.Core.List.{List}
use Prim.Native.Nat.{ℕ, ◌-◌, ◌*◌, ◌≤◌}
use lib.ListN.{length, take, drop}
use lib.Dec.{ltb, leb, eqb}
use Rattle.wire.specs.Bytes.{le, part}
use Rattle.wire.proofs.ChoiceLaws.{by_row}
use Rattle.link_state.specs.declared.Link.{Link}
use Rattle.link_state.specs.declared.Settings.{Settings}
use Rattle.link_state.specs.declared.Moment.{Moment}
use Rattle.link_state.specs.SetUp.{fresh_of, key_refused, key_id_of, set_up_of}
use Rattle.link_state.specs.Turn.{may_send}
use Rattle.link_state.proofs.SetUpLaws.{set-up-takes}
use Rattle.packet.specs.Sum.{sum_of}
use Rattle.packet.specs.Allowed.{allowed_of}
use Rattle.packet_padding.specs.Padding.{tail_of}
use Rattle.packet.specs.declared.Arrival.{Arrival}
use Rattle.packet.specs.declared.Arrival.TheVariants.{Incomplete, Packet}
use Rattle.packet_head.specs.Head.{check_length, check_head}
use Rattle.packet_head.specs.Words.{words_of}
use Rattle.packet_in.specs.Frame.{length_at, number_at, kind_at, whole_size, whole_of, rows_of, frame_of}
use Rattle.opening.specs.Clock.{near_of}
use Rattle.link_cipher.specs.Chosen.{cipher_refused}
use Rattle.opening.specs.Nonce.{least_of, version_at, beyond_of, check_nonce}
use Rattle.handshake_in.specs.Handshake.{flag_of, check_handshake}
use Rattle.link_next.specs.KeepAlive.{id_at, check_ping, check_pong}
use Rattle.link.specs.Look.{check_turn, look_of}
use Rattle.link_next.specs.Next.{closes_of, refused_of}
use Rattle.link.specs.Receive.{refuse}
use Rattle.link_versions.specs.Before.{nonce_before, body_before, closes_before, refuse_before}
use Rattle.refusal.specs.declared.Refusal.TheVariants.{LengthUnder16, LengthOverLimit, LengthInOpening, PacketNumber, TypeNotAllowed, Checksum, OpeningShort, Clocks, Encryption, BeyondOffer, BodySize, LinkClosed, PingOutOfTurn, NotOurTurn, PaddingNotZero, FourthWord}
use Rattle.refusal.specs.Numbers.{number}
use Rattle.link_calls.proofs.Ways.{by_check}
use Rattle.std.specs.Prelude.{Err, Ok, None, Result, ⊤}
use Rattle.refusal.specs.declared.Refusal.{Refusal}

-- ---- no refusal before was 24

abbrev pub No24 : Refusal → Type 0
No24 k = eqb (number k) 24 ≡ false

-- of a check
abbrev pub NoneIs24 : Result ⊤ Refusal → Type 0
NoneIs24 (Ok u) = Unit {0}
NoneIs24 (Err k) = No24 k

module _ (l : Link) (len n kind : ℕ) (b : List ℕ) (m : Moment) where
  turn-no24 : NoneIs24 (check_turn l)
  unfolding check_turn number
  turn-no24 =
      by_row NoneIs24 l.closed (Err LinkClosed) _ (λ _. refl)
      (λ _. by_row NoneIs24 (not (may_send (not l.set.server) l.stage)) (Err NotOurTurn) (Ok tt) (λ _. refl) (λ _. tt))

  length-no24 : NoneIs24 (check_length l len)
  unfolding check_length number
  length-no24 =
      by_row NoneIs24 (ltb len 16) (Err LengthUnder16) _ (λ _. refl) (λ _.
      by_row NoneIs24 (ltb l.stage 4 && leb 1024 len) (Err LengthInOpening) _ (λ _. refl) (λ _.
      by_row NoneIs24 (ltb 16777215 len) (Err LengthOverLimit) (Ok tt) (λ _. refl) (λ _. tt)))

  head-no24 : NoneIs24 (check_head l n kind)
  unfolding check_head number
  head-no24 =
      by_row NoneIs24 (not (eqb n l.gets)) (Err PacketNumber) _ (λ _. refl)
      (λ _. by_row NoneIs24 (not (allowed_of l kind)) (Err TypeNotAllowed) (Ok tt) (λ _. refl) (λ _. tt))

  nonce-no24 : NoneIs24 (nonce_before l b m)
  unfolding nonce_before number
  nonce-no24 =
      by_row NoneIs24 (ltb (length b) (least_of (version_at b))) (Err OpeningShort) _ (λ _. refl) (λ _.
      by_row NoneIs24 (not (near_of b m)) (Err Clocks) _ (λ _. refl) (λ _.
      by_row NoneIs24 (cipher_refused l b) (Err Encryption) _ (λ _. refl) (λ _.
      by_row NoneIs24 (beyond_of l.set (version_at b)) (Err BeyondOffer) (Ok tt) (λ _. refl) (λ _. tt))))

  handshake-no24 : NoneIs24 (check_handshake l.set b)
  unfolding check_handshake number
  handshake-no24 =
      by_row NoneIs24 (ltb (length b) 28) (Err OpeningShort) _ (λ _. refl) (λ _.
      by_row NoneIs24 (not l.set.server && (not l.set.allows && flag_of b)) (Err BeyondOffer) (Ok tt) (λ _. refl) (λ _. tt))

  ping-no24 : NoneIs24 (check_ping l b)
  unfolding check_ping number
  ping-no24 =
      by_row NoneIs24 (not (eqb (length b) 8)) (Err BodySize) _ (λ _. refl) (λ _. by_row NoneIs24 l.owes (Err PingOutOfTurn) (Ok tt) (λ _. refl) (λ _. tt))

  pong-no24 : NoneIs24 (check_pong l b)
  unfolding check_pong number
  pong-no24 =
      by_row NoneIs24 (not (eqb (length b) 8)) (Err BodySize) _ (λ _. refl) (λ _.
      by_row NoneIs24 (not l.awaits) (Err PingOutOfTurn) _ (λ _. refl) (λ _.
      by_row NoneIs24 (not (eqb (id_at b) l.awaited)) (Err PingOutOfTurn) (Ok tt) (λ _. refl) (λ _. tt)))

  pub body-no24 : NoneIs24 (body_before l kind b m)
  unfolding body_before
  body-no24 =
      by_row NoneIs24 (eqb kind 0x7acb87aa) (nonce_before l b m) _ (λ _. nonce-no24) (λ _.
      by_row NoneIs24 (eqb kind 0x7682eef5) (check_handshake l.set b) _ (λ _. handshake-no24) (λ _.
      by_row NoneIs24 (eqb kind 0x5730a2df) (check_ping l b) _ (λ _. ping-no24) (λ _.
      by_row NoneIs24 (eqb kind 0x8430eaa7) (check_pong l b) (Ok tt) (λ _. pong-no24) (λ _. tt))))

-- an answer that is no 24
abbrev pub Known : Result Arrival Refusal → Type 0
Known (Ok (Incomplete k)) = Unit {0}
Known (Ok (Packet kind consumed at len)) = Unit {0}
Known (Err k) = No24 k

-- what a check refuses is none
err-known : (r : Result ⊤ Refusal) → NoneIs24 r → (k : Refusal) → r ≡ Err k → Known (Err k)
err-known r h k e = subst NoneIs24 e h

module _ (l : Link) (m : Moment) where
  whole-known : (s : List ℕ) (kind size zeros before : ℕ) → Known (whole_of l s kind size zeros before)
  unfolding whole_of number
  whole-known s kind size zeros before =
      by_row Known (not (eqb (le (part s (size - 4) 4)) (sum_of l (take (size - 4) s)))) (Err Checksum) _ (λ _. refl) (λ _.
      by_row Known (not (eqb (le (part s size zeros)) 0)) (Err PaddingNotZero) _ (λ _. refl) (λ _. tt))

  rows-known : (s : List ℕ) (before : ℕ) → Known (rows_of l s before)
  unfolding rows_of
  rows-known s before =
      by_row Known (ltb (length s) 4) (Ok (Incomplete (4 - length s))) _ (λ _. tt) (λ _.
      by_check Known (check_length l (length_at s)) _ (err-known _ (length-no24 l (length_at s) 0 0 s m)) (λ _.
      by_row Known (ltb (length s) 12) (Ok (Incomplete (12 - length s))) _ (λ _. tt) (λ _.
      by_check Known (check_head l (number_at s) (kind_at s)) _ (err-known _ (head-no24 l 0 (number_at s) (kind_at s) s m)) (λ _.
      by_row Known (ltb (length s) (whole_size l s)) (Ok (Incomplete (whole_size l s - length s))) _ (λ _. tt)
      (λ _. whole-known s (kind_at s) (length_at s) (tail_of l (length_at s)) before)))))

  pub look_known : (s : List ℕ) → Known (look_of l s)
  unfolding look_of frame_of number
  look_known s =
      by_check Known (check_turn l) _ (err-known _ (turn-no24 l 0 0 0 s m)) (λ _.
      by_row Known (eqb (words_of l s) 4) (Err FourthWord) _ (λ _. refl)
      (λ _. rows-known (drop (words_of l s * 4) s) (words_of l s * 4)))

-- such a refusal closes as before
closes-alike : (k : Refusal) → No24 k → closes_of k ≡ closes_before k
unfolding closes_of closes_before
closes-alike k e = rw e

pub refused-alike : (l : Link) (k : Refusal) → No24 k → refuse l k ≡ refuse_before l k
unfolding refused_of
refused-alike l k e = rw (closes-alike k e)

-- ---- from the lowest version up

-- FROM THE LOWEST UP: a Nonce whose version is not below the lowest is judged as before
pub from-lowest-up : (l : Link) (b : List ℕ) (m : Moment) → l.set.lowest ≤ version_at b
    → check_nonce l b m ≡ nonce_before l b m
unfolding check_nonce nonce_before
from-lowest-up l b m h = simp (le-ltb (version_at b) l.set.lowest h)

-- ---- with lowest version 0

module _ (l : Link) (s : List ℕ) (m : Moment) (none : l.set.lowest ≡ 0) where
  pub nonce-alike : (b : List ℕ) → check_nonce l b m ≡ nonce_before l b m
  nonce-alike b = from-lowest-up l b m (omega arith)

-- set-up without a key refuses no link that is clear only
pub set-up-as-base : (set : Settings) → set.cipher ≡ false → set.lowest ≡ 0 → set_up_of set None ≡ Ok (fresh_of set 0)
unfolding key_refused key_id_of
set-up-as-base set clear zero = set-up-takes set None clear (omega arith)
