-- The two ends of a ciphered connection, as their drivers keep them, and what goes from one to the other between two
-- flushes (document 02, A9: "the driver deciphers before a receive and enciphers after a flush"). Assumes nothing.
use Rattle.std.specs.Result.{IsOk}
use Rattle.std.specs.Prelude.{◌≡◌, Bool, true, false, not, List, [], ◌∷◌, ◌++◌, ℕ, ◌*◌, ◌≤◌, ◌<◌, ◌^◌, length, take, drop, get_or, Err, Result, Ok}
use Rattle.wire.specs.Choice.{pick}
use Rattle.aes.specs.Aes.{keys}
use Rattle.aes.specs.Back.{back_keys, back_cipher}
use Rattle.aes.specs.Cbc.{encipher_vector, encipher_buffer, decipher_answer, decipher_vector, decipher_buffer}
use Rattle.cipher_laws.specs.Sizes.{Sized}
use Rattle.link_state.specs.declared.Link.{Link}
use Rattle.link_state.specs.declared.Moment.{Moment}
use Rattle.packet_padding.specs.Padding.{fours_of}
use Rattle.message_out.specs.MessageStep.{message_answer, message_step, message_buffer}
use Rattle.message_out.specs.declared.Outgoing.{Outgoing}
use Rattle.flush.specs.Flush.{flush_step, flush_buffer}
use Rattle.pair.specs.Awaits.{Awaits}
use Rattle.pair_messages.specs.Meaning.{meaning_of, carried, Fits}
use Rattle.cipher_talk.specs.Drain.{Got, message, all_of, Piece}
use Rattle.refusal.specs.declared.Refusal.{Refusal}

-- one direction of the cipher at one end: the round keys (for deciphering at the end that receives), and the vector
pub record Half : Type 0 where
  pub keys : List ℕ
  pub vector : List ℕ

-- one end: its link, the two directions, and the clear bytes that no packet has used yet
pub record End : Type 0 where
  pub link : Link
  pub outward : Half
  pub inward : Half
  pub held : List ℕ

-- ---- sending: any messages, then a flush

-- a message, its payload or text, and the buffer that is lent to the send call
pub record Said : Type 0 where
  pub message : Outgoing
  pub payload : List ℕ
  pub buffer : List ℕ

-- the bytes that a call wrote at the front of its buffer, which is b after it
abbrev pub front : Result ℕ Refusal → List ℕ → List ℕ
front (Ok n) b = take n b
front (Err k) b = []

-- what the call for s answers, and the link after it
abbrev pub answer_to : Link → Said → Result ℕ Refusal
answer_to l s = message_answer l s.message s.payload (length s.buffer)

abbrev pub sender : Link → Said → Link
sender l s = (message_step l s.message s.payload (length s.buffer)).link

-- the link after all send calls, and the bytes that they wrote; a call that is refused writes none
pub record Wrote : Type 0 where
  pub link : Link
  pub bytes : List ℕ

unfoldable pub says : Link → List Said → Wrote
says l [] = record { link = l; bytes = [] }
says l (s ∷ ss) =
    let rest = says (sender l s) ss in
    record {
      link = rest.link;
      bytes = front (answer_to l s) (message_buffer l s.message s.payload s.buffer) ++ rest.bytes;
    }

-- and what was meant: of each call that was accepted
abbrev pub meant_by : Said → Result ℕ Refusal → List Got
meant_by s (Ok n) = message (meaning_of s.message s.payload) (carried s.message s.payload) ∷ []
meant_by s (Err k) = []

unfoldable pub meant : Link → List Said → List Got
meant l [] = []
meant l (s ∷ ss) = meant_by s (answer_to l s) ++ meant (sender l s) ss

-- the end after the calls, a flush into the buffer b, and the enciphering of all that was written; and the ciphered
-- bytes
pub record Out : Type 0 where
  pub end : End
  pub bytes : List ℕ

-- what was written, and the words of the flush behind it
abbrev pub flushed : Wrote → List ℕ → List ℕ
flushed w b = w.bytes ++ front (flush_step w.link (length b)).answer (flush_buffer w.link b)

abbrev pub sealed : End → Wrote → List ℕ → Out
sealed e w b =
    record {
      end = record {
        link = (flush_step w.link (length b)).link;
        outward = record {
          keys = e.outward.keys;
          vector = encipher_vector e.outward.keys e.outward.vector (flushed w b);
        };
        inward = e.inward;
        held = e.held;
      };
      bytes = encipher_buffer e.outward.keys e.outward.vector (flushed w b);
    }

unfoldable pub goes_out : End → List Said → List ℕ → Out
goes_out e ss b = sealed e (says e.link ss) b

-- ---- on the way: any cutting into blocks

-- so many blocks come together, and the receiver's clock then
pub record Cut : Type 0 where
  pub blocks : ℕ
  pub clock : Moment

-- s cut so, and the rest of it in one more piece
unfoldable pub cut_by : List Cut → Moment → List ℕ → List Piece
cut_by [] last s = record { bytes = s; clock = last } ∷ []
cut_by (c ∷ cs) last s =
    record { bytes = take (c.blocks * 16) s; clock = c.clock } ∷ cut_by cs last (drop (c.blocks * 16) s)

-- ---- receiving: each piece is deciphered, joined to what is held, and all packets that are whole are taken

pub record In : Type 0 where
  pub end : End
  pub got : List Got

unfoldable pub comes_in : End → Piece → In
comes_in e p =
    let clear = decipher_buffer (back_cipher e.inward.keys) e.inward.vector p.bytes in
    let d = all_of e.link (e.held ++ clear) p.clock in
    record {
      end = record {
        link = d.link;
        outward = e.outward;
        inward = record {
          keys = e.inward.keys;
          vector = decipher_vector e.inward.vector p.bytes;
        };
        held = d.left;
      };
      got = d.got;
    }

unfoldable pub all_in : End → List Piece → In
all_in e [] = record { end = e; got = [] }
all_in e (p ∷ ps) =
    let i = comes_in e p in
    let r = all_in i.end ps in
    record { end = r.end; got = i.got ++ r.got }

-- each of those calls is done, from the vector v on: none is refused with 37
abbrev pub AllDone : List ℕ → List Piece → Type 0
AllDone v [] = Unit
AllDone v (p ∷ ps) =
    (IsOk (decipher_answer v p.bytes)) × AllDone (decipher_vector v p.bytes) ps

-- ---- turns of a conversation

-- whether the first end speaks; what it says; its buffer for the flush; how the bytes are cut, and the clocks
pub record Turn : Type 0 where
  pub first : Bool
  pub said : List Said
  pub room : List ℕ
  pub cuts : List Cut
  pub last : Moment

-- what one end sends in a turn, and what comes of it at the other
abbrev pub out_of : End → Turn → Out
out_of e t = goes_out e t.said t.room

abbrev pub in_of : End → End → Turn → In
in_of e f t = all_in f (cut_by t.cuts t.last (out_of e t).bytes)

-- what is heard in all turns, and what was meant
unfoldable pub heard_in : End → End → List Turn → List Got
heard_in a b [] = []
heard_in a b (t ∷ ts) =
    pick t.first
    ((in_of a b t).got ++ heard_in (out_of a t).end (in_of a b t).end ts)
    ((in_of b a t).got ++ heard_in (in_of b a t).end (out_of b t).end ts)

unfoldable pub meant_in : End → End → List Turn → List Got
meant_in a b [] = []
meant_in a b (t ∷ ts) =
    pick t.first
    (meant a.link t.said ++ meant_in (out_of a t).end (in_of a b t).end ts)
    (meant b.link t.said ++ meant_in (in_of b a t).end (out_of b t).end ts)

-- ---- what is asked

-- the fields of a message have their widths, and its payload is bytes
pub record Fit (s : Said) : Type 0 where
  pub fields : Fits s.message
  pub bytes : (i : ℕ) → get_or s.payload i 0 < 256

abbrev pub AllFit : List Said → Type 0
AllFit [] = Unit
AllFit (s ∷ ss) = Fit s × AllFit ss

-- of a turn: so of each message, and the buffer of the flush has room for three words
pub record Sound (t : Turn) : Type 0 where
  pub fit : AllFit t.said
  pub room : 12 ≤ length t.room

abbrev pub AllSound : List Turn → Type 0
AllSound [] = Unit
AllSound (t ∷ ts) = Sound t × AllSound ts

-- of one direction, from a to b: the keys are of one AES key, the vectors are the same, a stands at a block's end, and
-- b holds the words of a's last flush and nothing else, and waits for a's next packet; both links are open and
-- ciphered
pub record Meets (a b : End) : Type 0 where
  pub key : List ℕ
  pub key_is : Sized 32 key
  pub out_keys : a.outward.keys ≡ keys key
  pub in_keys : b.inward.keys ≡ back_keys (keys key)
  pub vector_is : Sized 16 a.outward.vector
  pub vectors : b.inward.vector ≡ a.outward.vector
  pub words : ℕ
  pub few : words ≤ 3
  pub held : b.held ≡ fours_of words
  pub level : a.link.phase ≡ 0
  pub waits : Awaits b.link a.link
  pub open_a : 4 ≤ a.link.stage
  pub open_b : 4 ≤ b.link.stage
  pub ciphered_a : a.link.ciphered ≡ true
  pub ciphered_b : b.link.ciphered ≡ true
  pub not_closed : a.link.closed ≡ false
  pub number : a.link.sends < 2 ^ 32
  pub sides : b.link.set.server ≡ not a.link.set.server
