-- What a Nonce's fields and a derivation are as structs for C. Assumes nothing.
use Rattle.std.specs.Prelude.{Result, Ok, Err, replicate}
use Rattle.refusal.specs.declared.Refusal.{Refusal}
use Rattle.refusal.specs.Numbers.{number}
use Rattle.link_keys.specs.declared.Derived.{Derived}
use Rattle.nonce_in.specs.declared.NonceFields.{NonceFields}
use Rattle.keys_c.specs.declared.RelayNonceFields.{RelayNonceFields}
use Rattle.keys_c.specs.declared.RelayDerived.{RelayDerived}

unfoldable pub nonce_fields : Result NonceFields Refusal → RelayNonceFields
-- 0 and the fields
nonce_fields (Ok f) =
    record { refusal = 0; version = f.version; time = f.time; random = f.random; point = f.point }
-- the refusal's number, and zeros
nonce_fields (Err k) =
    record {
      refusal = number k;
      version = 0;
      time = 0;
      random = record { at = 0; len = 0 };
      point = record { at = 0; len = 0 };
    }

unfoldable pub derived_fields : Result Derived Refusal → RelayDerived
-- 0, the size, the key and the vector
derived_fields (Ok d) = record { refusal = 0; size = d.size; key = d.key; vector = d.vector }
-- the refusal's number, and zeros
derived_fields (Err k) = record { refusal = number k; size = 0; key = replicate 32 0; vector = replicate 16 0 }
