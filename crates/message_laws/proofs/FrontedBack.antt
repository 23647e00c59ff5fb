-- A payload that was written behind a reqResultHeader of mask 0 reads back. Assumes nothing.
use mathlib.Core.Path.{◌≡◌, refl, ap, ◌∙◌}
use mathlib.Core.List.{List, ◌++◌}
use mathlib.Core.Bool.{Bool, true, false}
use Prim.Native.Nat.{ℕ, ◌-◌}
use native.Mathlib.Omega.{arith}
use lib.ListN.{length}
use lib.IntN.{ℤ}
use lib.Dec.{ltb}
use mir.Syntax.{w64}
use mir.Val.{of_z, SFits}
use Rattle.wire.specs.Bytes.{le, part, bytes}
use Rattle.wire.specs.Choice.{pick}
use Rattle.header.specs.Headers.{kind_of, is_header, reads_as_header}
use Rattle.header.specs.declared.Side.TheVariants.{Client}
use Rattle.result.specs.ReadResult.{payload_from, read_answer, after_header, answer_from, read_result}
use Rattle.result_out.specs.WriteResult.{payload_bytes}
use Rattle.message_laws.specs.Forms.{Front, Plain, Headed, front_bytes, fronted_payload}
use Rattle.message_laws.proofs.InvokeForms.{other}
use Rattle.message_laws.proofs.ResultBack.{numbered-back, header-passed, payload-read, fronted_read}

headed-by : (n : ℤ) (p : List ℕ) (b : Bool) → ltb (length p) 4 ≡ b
    → pick b false (is_header (kind_of Client (le (part p 0 4)))) ≡ false
    → read_answer (bytes 8 (of_z w64 n) ++ (front_bytes Headed ++ p)) n 16 ≡ fronted_read Headed n p
unfolding bytes front_bytes read_answer payload_from
headed-by n p true e c =
    let l : length (bytes 8 (of_z w64 n) ++ (front_bytes Headed ++ p)) - 16 ≡ length p = omega arith in
    rw (l, e)
headed-by n p false e c =
    let l : length (bytes 8 (of_z w64 n) ++ (front_bytes Headed ++ p)) - 16 ≡ length p = omega arith in
    rw (l, e, other (kind_of Client (le (part p 0 4))) c) (rw l)

pub fronted-payload-read : (h : Front) (n : ℤ) (p : List ℕ) → SFits w64 n → (of_z w64 n ≡ 0 → ⊥)
    → reads_as_header Client p ≡ false
    → read_result (fronted_payload h n p) ≡ fronted_read h n p
unfolding read_result payload_bytes fronted_payload front_bytes reads_as_header
fronted-payload-read Plain n p fits some c = payload-read n p fits some c
fronted-payload-read Headed n p fits some c =
    let s : List ℕ = bytes 8 (of_z w64 n) ++ (front_bytes Headed ++ p) in
    numbered-back n (front_bytes Headed ++ p) (λ z. answer_from s z (after_header s)) fits some
    ∙ ap (answer_from s n) (header-passed n p)
    ∙ headed-by n p (ltb (length p) 4) refl c
