-- Closed and lost as they were while they were two calls, before one stood for both (document 02, A4). These are the
-- definitions that they were proved to meet, word for word; `ForBoth` says that the one call does what they did.
-- Assumes nothing.
use Rattle.std.specs.Prelude.{◌≡◌, ℕ, List, ℤ}
use Rattle.wire.specs.Choice.{pick}
use Rattle.inflight.specs.Model.{no_link, no_publisher}
use Rattle.inflight.specs.Masks.{slots, gather}
use Rattle.inflight.specs.Tables.{used, mine, is_link, Dropped, drop_of, gone_of}
use Rattle.inflight.specs.declared.Table.{Table}
use Rattle.inflight.specs.declared.Peer.TheVariants as P
use Rattle.std.specs.Prelude.{Err}
use Rattle.refusal.specs.declared.Refusal.TheVariants.{OutOfRange}

-- the slots of a link
abbrev pub linked : Table → ℕ → ℕ
linked t l = gather (is_link t.places l) (slots (used t)) 0

-- "closed all of its link": the other ends are publishers and publisher numbers
unfoldable pub closed_of : Table → ℕ → List ℤ → Dropped
closed_of t l out =
    pick (no_link l) (record { table = t; answer = Err OutOfRange; slice = out }) (drop_of t (linked t l) 64 out)

-- "lost all of its publisher": the other ends are links and front numbers
unfoldable pub lost_of : Table → ℕ → List ℤ → Dropped
lost_of t p out =
    pick (no_publisher p) (record { table = t; answer = Err OutOfRange; slice = out }) (drop_of t (mine t p) 0 out)

-- the claim: on any contents of the table, for every number and every slice, the same answer, table and slice
pub record ForBoth : Type 0 where
  pub closed : (t : Table) (l : ℕ) (out : List ℤ) → gone_of t (P.Front l) out ≡ closed_of t l out
  pub lost : (t : Table) (p : ℕ) (out : List ℤ) → gone_of t (P.Publisher p) out ≡ lost_of t p out
