-- Which events may need memory, as the crate of histories says it.
pub use Rattle.gateway_claim.specs.Happenings.{is_client_request, is_message, needs_memory}
