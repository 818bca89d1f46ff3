-- What is said of one stream, without where it lies in memory.
use Rattle.std.specs.Prelude.{ℕ, List, Option}

-- the URI of a stream, and what is known of its first packet (RFC 2326, 12.33)
pub record StreamInfo : Type 0 where
  pub url : List ℕ
  pub seq : Option ℕ
  pub rtptime : Option ℕ
