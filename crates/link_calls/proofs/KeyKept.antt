-- What a link keeps of its key, through any calls. Assumes nothing.
use mathlib.Core.Path.{◌≡◌, refl, ap, ◌∙◌}
use mathlib.Core.List.{List, [], ◌∷◌}
use Prim.Native.Nat.{ℕ}
use Rattle.link_state.specs.declared.Link.{Link}
use Rattle.link_state.specs.declared.Settings.{Settings}
use Rattle.link_state.specs.SetUp.{fresh_of, key_id_of, set_up_of}
use Rattle.link_state.proofs.SetUpLaws.{set-up-took}
use Rattle.link_next.specs.Next.{closed_of, after_of}
use Rattle.send_rules.specs.Sent.{sent_of}
use Rattle.send_rules.specs.declared.Step.{Step}
use Rattle.flush.specs.Flush.{flushed_of}
use Rattle.link_calls.specs.Calls.{Call, receives, sends, flushes, after_call, after_calls}
use Rattle.link_calls.proofs.Ways.{receive-ways, send-ways, flush-ways}
use Rattle.std.specs.Prelude.{Ok, Option}

by_call : (l : Link) (c : Call) → (after_call l c).keyid ≡ l.keyid
unfolding closed_of after_of sent_of flushed_of
by_call l (receives s m) = receive-ways (λ (x : Link). x.keyid ≡ l.keyid) l s m refl refl (λ turn kind b may ok. refl)
by_call l (sends w p drawn m room) =
    send-ways (λ (x : Step). x.link.keyid ≡ l.keyid) l w p drawn m room (λ k. refl) (λ id len turn may. refl)
by_call l (flushes room) = flush-ways (λ (x : Step). x.link.keyid ≡ l.keyid) l room (λ k. refl) (λ fits. refl)

pub key-id-stays : (l : Link) (cs : List Call) → (after_calls l cs).keyid ≡ l.keyid
key-id-stays l [] = refl
key-id-stays l (c ∷ cs) = key-id-stays (after_call l c) cs ∙ by_call l c

-- KEYID STAYS: a link that was set up, with a key or without, has that key's KeyID after any calls, refused ones included
pub key-id-from-set-up : (set : Settings) (key : Option (List ℕ)) (l : Link) → set_up_of set key ≡ Ok l
    → (cs : List Call) → (after_calls l cs).keyid ≡ key_id_of key
unfolding fresh_of
key-id-from-set-up set key l e cs =
    key-id-stays l cs ∙ ap (λ (x : Link). x.keyid) (set-up-took set key l e).0
