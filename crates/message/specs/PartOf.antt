-- The rest, page or text of a message, as a part of its body (document 01, "Packets": a second call "hands it back,
-- empty if .. it doesn't fit the bytes; the same for a rest, page or text"). Assumes nothing.
use Rattle.std.specs.Prelude.{ℕ, List, [], Result, Ok, Err}
use Rattle.wire.specs.Bytes.{within}
use Rattle.result.specs.declared.Answer as A
use Rattle.message.specs.declared.Message.{Message}
use Rattle.message.specs.declared.Message.TheVariants as M
use Rattle.refusal.specs.declared.Refusal.{Refusal}

-- the page, or the error's text
unfoldable pub answer_part : List ℕ → A.Answer → List ℕ
answer_part s (A.TheVariants.Payload at len) = within s at len
answer_part s (A.TheVariants.Error code at len) = within s at len

-- the rest, the page or the text; a cancel, a fin and a refusal have none
unfoldable pub part_of : List ℕ → Result Message Refusal → List ℕ
part_of s (Ok (M.Invoke i)) = within s i.at i.len
part_of s (Ok (M.Result r)) = answer_part s r.answer
part_of s (Ok (M.Cancel n)) = []
part_of s (Ok M.ClientFin) = []
part_of s (Ok M.ServerFin) = []
part_of s (Err k) = []
