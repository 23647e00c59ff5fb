-- `message_out::write::write_body` meets its contract. Assumes nothing.
use mathlib.Core.Path.{◌≡◌}
use mir.Syntax.{w32, w64}
use mir.Val.{to_z, of_z}
use Rattle.message_out.proofs.BodyLaws.{invoke-is, cancel-is, payload-is, error-is, empty-is}
use borrow.Author.Rules.{rules}
use Rattle.message_out.proofs.write.write_body.Goals as goal

pub returns-in-Invoke : goal.returns-in-Invoke
returns-in-Invoke c =
    let z = c.in-Invoke.number in
    let same : to_z w64 (of_z w64 z) ≡ z = search rules in
    invoke-is _ _ _ c.in-Invoke.is same c.write_invoke.ensures

pub returns-in-Cancel : goal.returns-in-Cancel
returns-in-Cancel c =
    let z = c.in-Cancel.number in
    let same : to_z w64 (of_z w64 z) ≡ z = search rules in
    cancel-is _ _ _ c.in-Cancel.is same c.write_cancel.ensures

pub returns-in-ClientFin : goal.returns-in-ClientFin
returns-in-ClientFin c = empty-is _ _ _ c.in-ClientFin.is c.write_fin.ensures

pub returns-in-Payload : goal.returns-in-Payload
returns-in-Payload c =
    let z = c.in-Payload.number in
    let same : to_z w64 (of_z w64 z) ≡ z = search rules in
    payload-is _ _ _ c.in-Payload.is same c.write_payload.ensures

pub returns-in-Error : goal.returns-in-Error
returns-in-Error c =
    let z = c.in-Error.number in
    let same : to_z w64 (of_z w64 z) ≡ z = search rules in
    let y = c.in-Error.code in
    let same' : to_z w32 (of_z w32 y) ≡ y = search rules in
    error-is _ _ _ c.in-Error.is same same' c.write_error.ensures
