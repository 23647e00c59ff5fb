-- What set-up answers, as a struct for C. Assumes nothing.
use Rattle.std.specs.Prelude.{true, false, Err, Result, Ok}
use Rattle.link_state.specs.declared.Link.{Link}
use Rattle.link_c.specs.declared.RelaySetUp.{RelaySetUp}
use Rattle.refusal.specs.Numbers.{number}
use Rattle.refusal.specs.declared.Refusal.{Refusal}

-- a link for settings or a key that are refused: it is closed, and all else is 0 or false
unfoldable pub no_link : Link
no_link =
    record {
      set = record { server = false; allows = false; lowest = 0; padded = false; cipher = false; only = false };
      closed = true;
      crc32c = false;
      version = 0;
      stage = 0;
      phase = 0;
      awaits = false;
      owes = false;
      ciphered = false;
      keyid = 0;
      sends = 0;
      gets = 0;
      awaited = 0;
      owed = 0;
    }

unfoldable pub set_up_fields : Result Link Refusal → RelaySetUp
-- 0 and the link
set_up_fields (Ok l) = record { refusal = 0; link = l }
-- the refusal's number
set_up_fields (Err k) = record { refusal = number k; link = no_link }
