-- What an RTP-Info field says of one stream.
use Rattle.std.specs.Prelude.{ℕ, Bool, ◌==◌, ◌&&◌, not, codes, if◌then◌else◌, List, length, Option, None, option_map, option_and_then}
use Rattle.std.specs.List.{list_all}
use Rattle.std.specs.Char.{is_ascii_graphic}
use Rattle.std.specs.Str.{bytes_eq}
use Rattle.gate_bytes.specs.Ascii.{double_quote, comma, semicolon}
use Rattle.gate_bytes.specs.Places.{cut_at}
use Rattle.rtp_info.specs.declared.entry.InfoEntry.{InfoEntry}
use Rattle.rtp_info.specs.Groups.{groups_of}

-- a visible byte that is no double quote, comma or semicolon (RFC 3986, 2; that commas and semicolons
-- are left out is this project's own, since RTSP 1.0 parts by them)
abbrev pub is_url_byte : ℕ → Bool
is_url_byte b = is_ascii_graphic b && not (b == double_quote) && not (b == comma) && not (b == semicolon)

-- one or more such bytes
abbrev pub is_url : List ℕ → Bool
is_url text = not (length text == 0) && list_all is_url_byte text

-- what is said of one stream, where its URL and its groups can be read
abbrev pub spec_with : List ℕ → List ℕ → Option InfoEntry
spec_with url groups =
    if is_url url then option_map (λ notes. record { url = url; seq = notes.seq; rtptime = notes.rtptime }) (groups_of groups) else None

-- a spec: `url="`, the URI, a double quote, and groups (RFC 7826, 18.45)
abbrev pub spec_of : List ℕ → Option InfoEntry
spec_of text =
    option_and_then (λ front. if bytes_eq front.0 (codes "url=") then option_and_then (λ parts. spec_with parts.0 parts.1) (cut_at double_quote front.1) else None) (cut_at double_quote text)
