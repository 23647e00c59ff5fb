-- Laws of crate message_laws: the theorems on messages.
pub mod FrontedBack
pub mod InvokeBack
pub mod InvokeForms
pub mod MessageBack
pub mod ResultBack
pub mod TextBack
pub mod Within
pub mod ZeroIsNone
