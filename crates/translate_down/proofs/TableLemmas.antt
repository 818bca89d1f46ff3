-- A success tells each header of the table by its value.
use Rattle.std.proofs.Common.{◌≡◌, ℕ, List, Option, None, Some, refl}
use Rattle.std.specs.Option.{option_or}
use Rattle.rtsp_head.specs.Headers.{field_of}
use Rattle.rtsp_head.specs.Optional.{field_headers, told_value}
use Rattle.rtsp_head.proofs.FieldLemmas.{field_told}
use Rattle.session_one.specs.declared.parts.Asked.{Asked}
use Rattle.translate_down.specs.Settings.{Setting}
use Rattle.translate_down.specs.Replies.{Told, success_fields}

pub or_none : (value : Option (List ℕ)) → option_or value None ≡ value
or_none None = refl
or_none (Some text) = refl

-- the field of this name in a success
pub told_field : (setting : Setting) (asked : Asked) (told : Told) (name : List ℕ) →
    field_of (field_headers (success_fields setting asked told)) name ≡ told_value name (success_fields setting asked told)
told_field setting asked told name = field_told name (success_fields setting asked told)
