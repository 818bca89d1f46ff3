-- What the private types of this crate say, without where it lies in memory.
use Rattle.std.specs.Prelude.{option_map}
use Rattle.head_one.specs.declared.rule.RequestParts.{RequestParts}
use Rattle.head_one.specs.Refusals.{RequestFields}

-- the parts of a request that are borrowed
abbrev pub parts_seen : RequestParts → RequestFields
parts_seen parts =
    record { method = parts.method.now; known = parts.known; uri = parts.uri.now; version = parts.version.now; cseq = parts.cseq; required = option_map (λ value. value.now) parts.required }
