-- The words that name a base, as the URL Standard reads them. What is refused is this project's own.
use Rattle.std.specs.Prelude.{ℕ, Bool, ◌&&◌, ◌||◌, nat_le, List, [], ◌∷◌, ◌++◌, length, Option, Some, None, is_none, Ok, Err, codes, bytes_eq, decimal, if◌then◌else◌}
use Rattle.gate_bytes.specs.Ascii.{colon}
use Rattle.url.specs.Input.{is_empty}
use Rattle.url.specs.Host.{host_text}
use Rattle.url.specs.Parts.{Parts, host_or_empty}
use Rattle.url.specs.Parser.{Parsed, parse_url}
use Rattle.rtsp_uri.specs.declared.word.TheConstants.{LONGEST_BASE}
use Rattle.rtsp_uri.specs.BaseTexts.{is_base_text}

-- a colon and the port, where there is one
abbrev pub port_text : Option ℕ → List ℕ
port_text None = []
port_text (Some port) = colon ∷ decimal port

-- the host and the port of a URL
abbrev pub authority_text : Parts → List ℕ
authority_text url = host_text (host_or_empty url) ++ port_text url.port

-- the scheme is `rtsp`, and beside host and port there is nothing but a single `/`
abbrev pub names_base : Parts → Bool
names_base url =
    bytes_eq url.scheme (codes "rtsp") && is_empty url.username && is_empty url.password
    && (is_empty url.path || bytes_eq url.path (codes "/")) && is_none url.query && is_none url.fragment

-- the text of the base that a URL names
abbrev pub base_named : Parsed Parts → Option (List ℕ)
base_named (Ok url) = if names_base url && is_base_text (authority_text url) then Some (authority_text url) else None
base_named (Err error) = None

-- the text of the base that a word names, unless the word is too long
abbrev pub base_in : List ℕ → Option (List ℕ)
base_in word = if nat_le (length word) LONGEST_BASE then base_named (parse_url None word) else None
