-- Theorems on the lowest version.
pub mod Accepted
pub mod NoOlder
pub mod Writes
pub mod WritesNoOlder
pub mod AsBase
pub mod ReceiveAsBase
pub mod AcceptedNonce
pub mod HandedBack
