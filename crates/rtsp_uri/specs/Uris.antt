-- URIs: `rtsp://`, a host, a port or none, and a rest (RFC 2326, 3.2; RFC 3986, 3). What bytes each has is
-- this project's own.
use Rattle.std.specs.Prelude.{ℕ, ◌≤◌, ◌<◌, Bool, true, false, ◌+◌, ◌==◌, ◌&&◌, ◌||◌, nat_le, nat_lt, if◌then◌else◌, List, [], ◌∷◌, length, take, drop, Option, Some, None, option_map, codes}
use Rattle.std.specs.Option.{option_and_then}
use Rattle.std.specs.List.{prefix_len, list_all}
use Rattle.std.specs.Char.{is_ascii_digit, is_ascii_alphanumeric, is_ascii_hexdigit}
use Rattle.gate_bytes.specs.Ascii.{exclamation_mark, hyphen, dot, slash, colon, question_mark, open_bracket, close_bracket, underscore, tilde}
use Rattle.gate_bytes.specs.Tokens.{equal_fold}
use Rattle.gate_bytes.specs.Numbers.{number_in}
use Rattle.rtsp_uri.specs.declared.grammar.TheConstants.{SCHEME_BYTES, PORT_DIGITS, LAST_PORT}
use Rattle.rtsp_uri.specs.declared.grammar.UriPlaces.{UriPlaces}

-- "rtsp://"
abbrev pub scheme : List ℕ
scheme = codes "rtsp://"

-- it begins with "rtsp://", in any case
abbrev pub has_scheme : List ℕ → Bool
has_scheme uri = nat_le SCHEME_BYTES (length uri) && equal_fold (take SCHEME_BYTES uri) scheme

-- a letter, a digit, or one of .-_~ (the unreserved bytes of RFC 3986, 2.3)
abbrev pub is_name_byte : ℕ → Bool
is_name_byte b = is_ascii_alphanumeric b || b == dot || b == hyphen || b == underscore || b == tilde

-- a hexadecimal digit, a colon or a dot, as an address of RFC 3986, 3.2.2, has them
abbrev pub is_address_byte : ℕ → Bool
is_address_byte b = is_ascii_hexdigit b || b == colon || b == dot

-- some bytes, but not none
abbrev pub some_bytes : ℕ → Option ℕ
some_bytes n = if nat_lt 0 n then Some n else None

-- the first byte is this one
abbrev pub begins_with : ℕ → List ℕ → Bool
begins_with byte [] = false
begins_with byte (b ∷ text) = b == byte

-- the length of an address with its brackets, of which the first is gone
abbrev pub address_len : List ℕ → Option ℕ
address_len inside =
    let n = prefix_len is_address_byte inside in
    if nat_lt 0 n && begins_with close_bracket (drop n inside) then Some (n + 2) else None

-- the length of the host at the front: a name of one or more bytes, or an address in brackets
abbrev pub host_len : List ℕ → Option ℕ
host_len text = if begins_with open_bracket text then address_len (drop 1 text) else some_bytes (prefix_len is_name_byte text)

-- a port: one or more digits up to the most, and no number above the last port
abbrev pub port_of : List ℕ → Option ℕ
port_of text = option_and_then (λ n. if nat_le n LAST_PORT then Some n else None) (number_in PORT_DIGITS text)

-- the port at the front of what follows a host, and its length with the colon; no port where there is no colon
abbrev pub port_part : List ℕ → Option (Option ℕ × ℕ)
port_part text =
    if begins_with colon text then
    (let digits = prefix_len is_ascii_digit (drop 1 text) in option_map (λ n. (Some n, 1 + digits)) (port_of (take digits (drop 1 text))))
    else Some (None, 0)

-- the visible bytes of ASCII
abbrev pub is_rest_byte : ℕ → Bool
is_rest_byte b = nat_le exclamation_mark b && nat_le b tilde

-- a rest: nothing, or `/` or `?` and visible bytes
abbrev pub is_rest : List ℕ → Bool
is_rest [] = true
is_rest (b ∷ text) = (b == slash || b == question_mark) && list_all is_rest_byte (b ∷ text)

-- the places of a URI whose host and port have these lengths, behind "rtsp://"
abbrev pub places_with : List ℕ → ℕ → Option ℕ × ℕ → Option UriPlaces
places_with body host port =
    if is_rest (drop (host + port.1) body) then Some (record { host_end = SCHEME_BYTES + host; port = port.0; rest = SCHEME_BYTES + (host + port.1) }) else None

-- where the parts of a URI end, behind the scheme
abbrev pub places_behind : List ℕ → Option UriPlaces
places_behind body = option_and_then (λ host. option_and_then (places_with body host) (port_part (drop host body))) (host_len body)

-- where the parts of a URI end; nothing for a text that is none
abbrev pub places_of : List ℕ → Option UriPlaces
places_of uri = if has_scheme uri then places_behind (drop SCHEME_BYTES uri) else None

-- The places stand in a text of this length: behind "rtsp://" a host of one byte at least, and then the rest.
pub record Stand (places : UriPlaces) (bytes : ℕ) : Type 0 where
  pub host : SCHEME_BYTES < places.host_end
  pub port : places.host_end ≤ places.rest
  pub rest : places.rest ≤ bytes
