-- Definitions of crate link_cipher: the encryption in either side's Nonce, and what it chooses.
pub mod Offered
pub mod Chosen
