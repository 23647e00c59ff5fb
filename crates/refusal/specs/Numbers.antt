-- The refusal numbers (documents 01 and 02, the refusal table). Assumes nothing.
use Rattle.std.specs.Prelude.{ℕ}
use Rattle.refusal.specs.declared.Refusal.{Refusal}
use Rattle.refusal.specs.declared.Refusal.TheVariants as R

-- the table, row by row
unfoldable pub number : Refusal → ℕ
number R.LengthUnder16 = 1
number R.LengthOverLimit = 2
number R.LengthInOpening = 3
number R.PacketNumber = 4
number R.TypeNotAllowed = 5
number R.Checksum = 6
number R.OpeningShort = 7
number R.Clocks = 8
number R.Encryption = 9
number R.BeyondOffer = 10
number R.MessageCut = 11
number R.NumberZero = 12
number R.HeaderRepeated = 13
number R.HeaderNotCarried = 14
number R.PayloadReadsAsHeader = 15
number R.BufferTooSmall = 16
number R.BodySize = 17
number R.TextForm = 18
number R.TypeNotRpc = 19
number R.LinkClosed = 20
number R.PingOutOfTurn = 21
number R.NotOurTurn = 22
number R.VersionTooOld = 24
number R.PaddingNotZero = 25
number R.FourthWord = 26
number R.OutOfRange = 30
number R.InFlightAlready = 31
number R.LoadAtLimit = 32
number R.CapacityGone = 33
number R.NoSuchRequest = 34
number R.EventUnknownOrCut = 35
number R.UnsuitableKey = 36
number R.NotWholeBlocks = 37
