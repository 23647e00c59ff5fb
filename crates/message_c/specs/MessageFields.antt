-- A message as a struct of numbers and flags, for C. Assumes nothing.
use Rattle.std.specs.Prelude.{ℕ, Bool, true, false, ℤ, pos, Result, Ok, Err, Option, is_some, unwrap_or}
use Rattle.refusal.specs.Numbers.{number}
use Rattle.refusal.specs.declared.Refusal.{Refusal}
use Rattle.header.specs.declared.Side.{Side}
use Rattle.header.specs.declared.Side.TheVariants.{Client, Server}
use Rattle.invoke.specs.Fields.{is_given}
use Rattle.invoke.specs.declared.Invoke.{Invoke}
use Rattle.result.specs.declared.Answer as R
use Rattle.message.specs.declared.Message.{Message}
use Rattle.message.specs.declared.Message.TheVariants as M
use Rattle.message_c.specs.declared.RelayMessage.{RelayMessage}

-- the side that reads: a server, or else a client
abbrev pub side_of : Bool → Side
side_of true = Server
side_of false = Client

-- the actor, or 0
abbrev pub actor_of : Option ℤ → ℤ
actor_of a = unwrap_or a (pos 0)

-- a timeout was read
abbrev pub is_limited : Option ℕ → Bool
is_limited t = is_some t

-- the timeout in ms, or 0
abbrev pub timeout_of : Option ℕ → ℕ
timeout_of t = unwrap_or t 0

-- the fields of an invoke: all but refusal and code
abbrev pub invoke_fields : Invoke → RelayMessage
invoke_fields i =
    record {
      kind = 1;
      refusal = 0;
      hasactor = is_given i.actor;
      hastimeout = is_limited i.timeout;
      tl2 = i.tl2;
      number = i.number;
      actor = actor_of i.actor;
      timeout = timeout_of i.timeout;
      code = pos 0;
      at = i.at;
      len = i.len;
    }

-- the fields of a message that is no invoke: kind, refusal, number, code, and the place and length of its payload or text
abbrev pub plain_fields : ℕ → ℕ → ℤ → ℤ → ℕ → ℕ → RelayMessage
plain_fields k f n c a l =
    record {
      kind = k;
      refusal = f;
      hasactor = false;
      hastimeout = false;
      tl2 = false;
      number = n;
      actor = pos 0;
      timeout = 0;
      code = c;
      at = a;
      len = l;
    }

-- a result: 4 with a payload, 5 with an error
abbrev pub answer_fields : ℤ → R.Answer → RelayMessage
answer_fields n (R.TheVariants.Payload a l) = plain_fields 4 0 n (pos 0) a l
answer_fields n (R.TheVariants.Error c a l) = plain_fields 5 0 n c a l

unfoldable pub fields_of : Result Message Refusal → RelayMessage
-- 0: the refusal's number alone
fields_of (Err k) = plain_fields 0 (number k) (pos 0) (pos 0) 0 0
-- 1: all that an invoke says
fields_of (Ok (M.Invoke i)) = invoke_fields i
-- 2: the number of the invoke that is cancelled
fields_of (Ok (M.Cancel n)) = plain_fields 2 0 n (pos 0) 0 0
-- 3: a client's fin says nothing else
fields_of (Ok M.ClientFin) = plain_fields 3 0 (pos 0) (pos 0) 0 0
-- 4 and 5: the number of the invoke that is answered, and its payload or error
fields_of (Ok (M.Result r)) = answer_fields r.number r.answer
-- 6: a server's fin says nothing else
fields_of (Ok M.ServerFin) = plain_fields 6 0 (pos 0) (pos 0) 0 0
