-- `aes_back_keys::rounds::unmix4` meets its contract. Assumes nothing.
use mathlib.Core.Path.{ap, ◌∙◌}
use Prim.Native.Nat.{ℕ, ◌/◌, ◌%◌}
use mathlib.Core.List.{List}
use Rattle.aes.specs.Words.{bytes4, turn_list}
use Rattle.aes_back_keys.proofs.Laws.{column0}
use Rattle.aes_back_keys.proofs.rounds.unmix4.Goals as goal

pub returns : goal.returns
unfolding bytes4
returns c =
    let x = c.args.x in
    column0 (x % 256) (x / 256 % 256) (x / 65536 % 256) (x / 16777216 % 256) _ _ _ _
    c.look.ensures
    (c.rotated.ensures
    ∙ ap turn_list c.look-2.ensures)
    (c.rotated-2.ensures
    ∙ ap (λ (l : List ℕ). turn_list (turn_list l)) c.look-3.ensures)
    (c.rotated-3.ensures ∙ ap (λ (l : List ℕ). turn_list (turn_list (turn_list l))) c.look-4.ensures)
