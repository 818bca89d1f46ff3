-- How long what one event hands out may be, as the crate of histories says it.
pub use Rattle.gateway_claim.specs.Happenings.{piece_length, message_length, up_length, IsShortAnswer, IsShort}
