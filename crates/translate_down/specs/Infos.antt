-- The field RTP-Info for a player (RFC 2326, 12.33; RFC 7826, 18.45).
use Rattle.std.specs.Prelude.{ℕ, List, map, Option, option_map}
use Rattle.rtsp_uri.specs.Swaps.{swapped}
use Rattle.rtp_info.specs.declared.entry.InfoEntry.{InfoEntry}
use Rattle.rtp_info.specs.Infos.{info_of}
use Rattle.rtp_info.specs.InfoText.{info_text}

-- what is said of a stream, under the player's address
abbrev pub swapped_entry : List ℕ → List ℕ → InfoEntry → InfoEntry
swapped_entry from to entry = record { url = swapped from to entry.url; seq = entry.seq; rtptime = entry.rtptime }

-- entries whose URLs a player can use
abbrev pub swapped_entries : List ℕ → List ℕ → List InfoEntry → List InfoEntry
swapped_entries from to entries = map (swapped_entry from to) entries

-- a value as the server wrote it, in the words of RTSP 1.0; nothing where it can't be read
abbrev pub info_told : List ℕ → List ℕ → List ℕ → Option (List ℕ)
info_told from to value = option_map (λ entries. info_text (swapped_entries from to entries)) (info_of value)
