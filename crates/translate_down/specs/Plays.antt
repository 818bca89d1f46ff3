-- What a reply tells of playing: Range, Scale and RTP-Info. What can't be read is left out.
use Rattle.std.specs.Prelude.{ℕ, Bool, true, false, codes, List, Option, Some, None, Result, Ok, Err, option_and_then, if◌then◌else◌}
use Rattle.rtsp_head.specs.declared.header.Header.{Header}
use Rattle.rtsp_head.specs.Headers.{field_of}
use Rattle.rtsp_small.specs.declared.method.Method.{Method}
use Rattle.rtsp_small.specs.declared.method.Method.TheVariants.{Play, Pause}
use Rattle.rtsp_small.specs.Scales.{is_scale}
use Rattle.rtsp_range.specs.declared.range.Range.{Range}
use Rattle.rtsp_range.specs.declared.fault.RangeFault.{RangeFault}
use Rattle.rtsp_range.specs.Meaning.{Two, meaning}
use Rattle.rtsp_range.specs.RangeText.{range_text}
use Rattle.rtsp_head.specs.Optional.{said_where}
use Rattle.translate_down.specs.Settings.{Setting}
use Rattle.translate_down.specs.Infos.{info_told}

-- whether a request plays (RFC 2326, 10.5)
abbrev pub plays : Method → Bool
plays Play = true
plays method = false

-- whether a request plays or pauses, so that its reply tells the range (RFC 2326, 10.5 and 10.6)
abbrev pub moves : Method → Bool
moves Play = true
moves Pause = true
moves method = false

-- a range that can be read, as it is written
abbrev pub range_with : Result Range RangeFault → Option (List ℕ)
range_with (Ok range) = Some (range_text range)
range_with (Err fault) = None

-- a range as the server wrote it, in the one form of both versions
abbrev pub range_told : List ℕ → Option (List ℕ)
range_told value = range_with (meaning Two value)

-- Range: with PLAY and PAUSE (RFC 2326, 12.29)
abbrev pub range_value : Method → List Header → Option (List ℕ)
range_value method fields = said_where (moves method) (option_and_then range_told (field_of fields (codes "Range")))

-- a scale as the server wrote it
abbrev pub scale_told : List ℕ → Option (List ℕ)
scale_told value = if is_scale value then Some value else None

-- Scale: with PLAY (RFC 2326, 12.34)
abbrev pub scale_value : Method → List Header → Option (List ℕ)
scale_value method fields = said_where (plays method) (option_and_then scale_told (field_of fields (codes "Scale")))

-- RTP-Info: with PLAY (RFC 2326, 12.33)
abbrev pub info_value : Setting → Method → List Header → Option (List ℕ)
info_value setting method fields = said_where (plays method) (option_and_then (info_told setting.up setting.front) (field_of fields (codes "RTP-Info")))
