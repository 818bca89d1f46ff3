-- How an RTP-Info field is written (RFC 2326, 12.33).
use Rattle.std.specs.Prelude.{ℕ, codes, decimal, List, [], ◌∷◌, ◌++◌, Option, Some, None}
use Rattle.std.specs.List.{flat_map}
use Rattle.gate_bytes.specs.Ascii.{comma}
use Rattle.rtp_info.specs.declared.entry.InfoEntry.{InfoEntry}

-- how seq is written, where it is there
abbrev pub seq_text : Option ℕ → List ℕ
seq_text None = []
seq_text (Some n) = codes ";seq=" ++ decimal n

-- how rtptime is written, where it is there
abbrev pub time_text : Option ℕ → List ℕ
time_text None = []
time_text (Some n) = codes ";rtptime=" ++ decimal n

-- the URI of a stream, and what is known of its first packet
abbrev pub entry_text : InfoEntry → List ℕ
entry_text entry = codes "url=" ++ entry.url ++ seq_text entry.seq ++ time_text entry.rtptime

-- an entry behind a comma
abbrev pub further_text : InfoEntry → List ℕ
further_text entry = comma ∷ entry_text entry

-- all entries, in order, with a comma between two
abbrev pub info_text : List InfoEntry → List ℕ
info_text [] = []
info_text (first ∷ more) = entry_text first ++ flat_map further_text more
