-- The body of a reply, and what the reply tells of it: Content-Base, Content-Type and Content-Encoding.
use Rattle.std.specs.Prelude.{ℕ, Bool, true, false, ◌==◌, ◌&&◌, not, is_none, codes, List, [], length, Option, Some, None, option_map, if◌then◌else◌}
use Rattle.gate_bytes.specs.Ascii.{semicolon}
use Rattle.gate_bytes.specs.Places.{up_to}
use Rattle.gate_bytes.specs.Tokens.{trimmed, equal_fold}
use Rattle.rtsp_head.specs.declared.header.Header.{Header}
use Rattle.rtsp_head.specs.Headers.{field_of}
use Rattle.rtsp_small.specs.declared.method.Method.{Method}
use Rattle.rtsp_small.specs.declared.method.Method.TheVariants.{Describe, GetParameter}
use Rattle.rtsp_uri.specs.Swaps.{swapped}
use Rattle.rtsp_uri.specs.Descriptions.{rewritten}
use Rattle.rtsp_head.specs.Optional.{said_where}
use Rattle.translate_down.specs.Settings.{Setting}

-- whether a request asks for a description (RFC 2326, 10.2)
abbrev pub asks_description : Method → Bool
asks_description Describe = true
asks_description method = false

-- whether a request asks for a body: a description, or parameters (RFC 2326, 10.2 and 10.8)
abbrev pub asks_body : Method → Bool
asks_body Describe = true
asks_body GetParameter = true
asks_body method = false

-- a body has a byte
abbrev pub has_byte : List ℕ → Bool
has_byte body = not (length body == 0)

-- whether a description comes with a reply
abbrev pub comes_with_description : Method → List ℕ → Bool
comes_with_description method body = asks_description method && has_byte body

-- whether a body comes with a reply; that of any other reply is not handed on (this project's own)
abbrev pub comes_with_body : Method → List ℕ → Bool
comes_with_body method body = asks_body method && has_byte body

-- Content-Base, under the player's address (RFC 2326, 12.11)
abbrev pub base_value : Setting → Method → List Header → List ℕ → Option (List ℕ)
base_value setting method fields body =
    said_where (comes_with_description method body) (option_map (swapped setting.up setting.front) (field_of fields (codes "Content-Base")))

-- Content-Type, unchanged (RFC 2326, 12.16)
abbrev pub type_value : Method → List Header → List ℕ → Option (List ℕ)
type_value method fields body = said_where (comes_with_body method body) (field_of fields (codes "Content-Type"))

-- Content-Encoding, unchanged (RFC 2326, 12.12)
abbrev pub encoding_value : Method → List Header → List ℕ → Option (List ℕ)
encoding_value method fields body = said_where (comes_with_body method body) (field_of fields (codes "Content-Encoding"))

-- the type of a body without its parameters, which the first `;` begins (RFC 2326, 12.16)
abbrev pub media_type : List ℕ → List ℕ
media_type value = trimmed (up_to semicolon value)

-- whether a Content-Type is that of session descriptions (RFC 2326, C; RFC 4566, 8.1)
abbrev pub names_description : Option (List ℕ) → Bool
names_description None = false
names_description (Some value) = equal_fold (media_type value) (codes "application/sdp")

-- whether a Content-Type and a Content-Encoding are those of a session description
abbrev pub tell_description : Option (List ℕ) → Option (List ℕ) → Bool
tell_description kind encoding = names_description kind && is_none encoding

-- A body is read as a session description where its type says so, and no encoding is named, not even an empty one.
abbrev pub is_description : List Header → Bool
is_description fields = names_description (field_of fields (codes "Content-Type")) && is_none (field_of fields (codes "Content-Encoding"))

-- whether the body that comes with a reply is a session description
abbrev pub is_read : Method → List Header → Bool
is_read method fields = asks_description method && is_description fields

-- the body that a player gets: a session description under the player's address, any other as it came, and none where
-- none was asked for
abbrev pub body_told : Setting → Method → List Header → List ℕ → List ℕ
body_told setting method fields body =
    if comes_with_body method body then (if is_read method fields then rewritten setting.up setting.front body else body) else []
