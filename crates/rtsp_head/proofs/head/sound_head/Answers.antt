use Rattle.std.proofs.Common.{◌∙◌, ap}
use Rattle.rtsp_head.specs.Lines.{result_map}
use Rattle.rtsp_head.specs.Views.{start_seen}
use Rattle.rtsp_head.proofs.SoundLemmas.{read_sound}
use Rattle.rtsp_head.proofs.head.sound_head.Goals as goal

pub returns-clause-writable : goal.returns-clause-writable
returns-clause-writable c =
    read_sound c.args.bytes.now (record { start = start_seen c.head_start.result.0; headers = c.in_ok-headers.headers })
    (c.head_start.ensures.head ∙ ap (result_map (λ headers. record { start = start_seen c.head_start.result.0; headers = headers })) c.in_ok-headers.ensures)
