-- The lines of the relay walk (document 01, "Program: relay walk"), as ASCII codes.
-- Assumes nothing.
use Rattle.std.specs.Prelude.{ℕ, zero, suc, ◌+◌, ◌*◌, ◌/◌, ◌%◌, List, [], ◌∷◌, ◌++◌, ltb, ℤ, pos, negsuc, get_or, Result, Ok, Err}
use Rattle.wire.specs.Choice.{pick}
use Rattle.inflight.specs.Calls.{Call, Heard, ask, reply, cancel, gone, run_out, asked, replied, cancelled, dropped}
use Rattle.inflight.specs.declared.Peer.{Peer}
use Rattle.inflight.specs.declared.Peer.TheVariants as P
use Rattle.inflight.specs.declared.FrontEnd.{FrontEnd}
use Rattle.inflight.specs.declared.PublisherEnd.{PublisherEnd}
use Rattle.inflight.specs.declared.PublisherNumber.{PublisherNumber}
use Rattle.refusal.specs.Numbers.{number}
use Rattle.refusal.specs.declared.Refusal.{Refusal}

-- the digits of n, the highest first, at most `more` besides the last one
unfoldable pub digits : ℕ → ℕ → List ℕ
digits zero n = (48 + n % 10) ∷ []
digits (suc more) n = pick (ltb n 10) ((48 + n % 10) ∷ []) (digits more (n / 10) ++ (48 + n % 10) ∷ [])

-- a number in decimal: a 64-bit number has at most 20 digits
unfoldable pub decimal : ℕ → List ℕ
decimal n = digits 19 n

-- a signed number in decimal: `-` before one below 0
unfoldable pub signed : ℤ → List ℕ
signed (pos n) = decimal n
signed (negsuc n) = 45 ∷ decimal (suc n)

-- a line of a word and one number, or two; the word has its space
unfoldable pub line : List ℕ → ℤ → List ℕ
line word a = word ++ (signed a ++ 10 ∷ [])

unfoldable pub pair_line : List ℕ → ℤ → ℤ → List ℕ
pair_line word a b = word ++ (signed a ++ 32 ∷ (signed b ++ 10 ∷ []))

-- `no`, `ask`, `reply`, `cancel`, `closed`, `lost`, `out`, `drop`
abbrev pub no_word : List ℕ
no_word = 110 ∷ 111 ∷ 32 ∷ []

abbrev pub ask_word : List ℕ
ask_word = 97 ∷ 115 ∷ 107 ∷ 32 ∷ []

abbrev pub reply_word : List ℕ
reply_word = 114 ∷ 101 ∷ 112 ∷ 108 ∷ 121 ∷ 32 ∷ []

abbrev pub cancel_word : List ℕ
cancel_word = 99 ∷ 97 ∷ 110 ∷ 99 ∷ 101 ∷ 108 ∷ 32 ∷ []

abbrev pub closed_word : List ℕ
closed_word = 99 ∷ 108 ∷ 111 ∷ 115 ∷ 101 ∷ 100 ∷ 32 ∷ []

abbrev pub lost_word : List ℕ
lost_word = 108 ∷ 111 ∷ 115 ∷ 116 ∷ 32 ∷ []

abbrev pub out_word : List ℕ
out_word = 111 ∷ 117 ∷ 116 ∷ 32 ∷ []

abbrev pub drop_word : List ℕ
drop_word = 100 ∷ 114 ∷ 111 ∷ 112 ∷ 32 ∷ []

-- "a refused event prints `no` and its number"
unfoldable pub refused_line : ℕ → List ℕ
refused_line k = line no_word (pos k)

-- "`ask` shows the publisher number"
unfoldable pub ask_line : Result PublisherNumber Refusal → List ℕ
ask_line (Ok n) = line ask_word n.0
ask_line (Err k) = refused_line (number k)

-- "`reply` link and front number"
unfoldable pub reply_line : Result FrontEnd Refusal → List ℕ
reply_line (Ok e) = pair_line reply_word (pos e.link) e.number.0
reply_line (Err k) = refused_line (number k)

-- "`cancel` publisher and its number"
unfoldable pub cancel_line : Result PublisherEnd Refusal → List ℕ
cancel_line (Ok e) = pair_line cancel_word (pos e.publisher) e.number.0
cancel_line (Err k) = refused_line (number k)

-- "`drop` lines with the other end": the i-th, of the numbers in the lent slice
unfoldable pub drop_line : List ℤ → ℕ → List ℕ
drop_line ends i = pair_line drop_word (get_or ends (2 * i) (pos 0)) (get_or ends (2 * i + 1) (pos 0))

-- the first n of them
unfoldable pub drop_lines : ℕ → List ℤ → List ℕ
drop_lines zero ends = []
drop_lines (suc n) ends = drop_lines n ends ++ drop_line ends n

-- "`lost` and `closed` a count, then that many `drop` lines"; a run-out "prints `out` and the count, then `drop` lines"
unfoldable pub dropped_lines : List ℕ → Result ℕ Refusal → List ℤ → List ℕ
dropped_lines word (Ok n) ends = line word (pos n) ++ drop_lines n ends
dropped_lines word (Err k) ends = refused_line (number k)

-- how many requests an answer says were freed
abbrev pub count_of : Result ℕ Refusal → ℕ
count_of (Ok n) = n
count_of (Err k) = 0

-- the word of a front link that is gone, and of a publisher: "event kinds 4 and 5 print as before" (document 02, A4)
abbrev pub gone_word : Peer → List ℕ
gone_word (P.Front l) = closed_word
gone_word (P.Publisher p) = lost_word

-- the word of a call that frees many
abbrev pub drop_call_word : Call → List ℕ
drop_call_word (ask l n p time timeout) = []
drop_call_word (reply p n) = []
drop_call_word (cancel l n) = []
drop_call_word (gone peer out) = gone_word peer
drop_call_word (run_out time out) = out_word

-- the lines that tell what was heard of a call
unfoldable pub call_lines : Call → Heard → List ℕ
call_lines c (asked a) = ask_line a
call_lines c (replied a) = reply_line a
call_lines c (cancelled a) = cancel_line a
call_lines c (dropped a out) = dropped_lines (drop_call_word c) a out
