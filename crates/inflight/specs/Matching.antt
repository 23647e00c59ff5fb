-- Lists of requests in flight (document 01: entries), oldest accepted first: which of them a key matches, loads and
-- capacity, other ends. Assumes nothing.
use Rattle.std.specs.Prelude.{ℕ, zero, suc, ◌+◌, max, Bool, ◌&&◌, List, [], ◌∷◌, ◌++◌, eqb, ℤ, pos, length, drop}
use Rattle.wire.specs.Choice.{pick}
use Rattle.inflight.specs.Numbers.{same, after}
use Rattle.inflight.specs.declared.PublisherNumber.{PublisherNumber}
use Rattle.inflight.specs.Requests.{Request}
use Rattle.inflight.specs.Requests.{Key}
use Rattle.inflight.specs.Requests.{Reply, Cancel, Closed, Lost, Due, due}

-- what stands for a request where there is none
abbrev pub blank : Request
blank = record { link = 0; front = record { 0 = pos 0 }; publisher = 0; number = record { 0 = pos 0 }; deadline = 0 }

-- whether a key matches a request: by publisher and number, by link and number, by link, by publisher, by a deadline
-- that has come
unfoldable pub matches : Key → Request → Bool
matches (Reply p n) e = eqb e.publisher p && same e.number.0 n.0
matches (Cancel l n) e = eqb e.link l && same e.front.0 n.0
matches (Closed l) e = eqb e.link l
matches (Lost p) e = eqb e.publisher p
matches (Due t) e = due e.deadline t

-- the requests that a key matches, in their order
unfoldable pub matching : Key → List Request → List Request
matching k [] = []
matching k (e ∷ es) = pick (matches k e) (e ∷ matching k es) (matching k es)

-- the requests that a key does not match, in their order
unfoldable pub without : Key → List Request → List Request
without k [] = []
without k (e ∷ es) = pick (matches k e) (without k es) (e ∷ without k es)

-- "a load is how many entries a publisher has"
abbrev pub load : List Request → ℕ → ℕ
load es p = length (matching (Lost p) es)

-- the sum of f at 0, 1, .. up to k of them
unfoldable pub sum_below : ℕ → (ℕ → ℕ) → ℕ
sum_below zero f = 0
sum_below (suc k) f = sum_below k f + f k

-- the eight loads, each counted as at least 4, the reserve, added up
abbrev pub capacity_taken : List Request → ℕ
capacity_taken es = sum_below 8 (λ q. max 4 (load es q))

-- from n on, the first number that is not in flight with publisher p, looked for at `tries` numbers
unfoldable pub next_free : ℕ → List Request → ℕ → PublisherNumber → PublisherNumber
next_free zero es p n = n
next_free (suc tries) es p n = pick (eqb (length (matching (Reply p n) es)) 0) n (next_free tries es p (after n))

-- a request's other end: its publisher's for a call of the front link, its link's for a call of the publisher, and for
-- one that runs out, "as a lost publisher does"
abbrev pub other_place : Key → Request → ℤ
other_place (Reply p n) e = pos e.link
other_place (Cancel l n) e = pos e.publisher
other_place (Closed l) e = pos e.publisher
other_place (Lost p) e = pos e.link
other_place (Due t) e = pos e.link

abbrev pub other_number : Key → Request → ℤ
other_number (Reply p n) e = e.front.0
other_number (Cancel l n) e = e.number.0
other_number (Closed l) e = e.number.0
other_number (Lost p) e = e.front.0
other_number (Due t) e = e.front.0

-- the other ends, two signed numbers each
unfoldable pub other_ends : Key → List Request → List ℤ
other_ends k [] = []
other_ends k (e ∷ es) = other_place k e ∷ other_number k e ∷ other_ends k es

-- a slice after some numbers were written at its front: what lies past them stays
abbrev pub over_front : List ℤ → List ℤ → List ℤ
over_front ns out = ns ++ drop (length ns) out
