use Rattle.std.proofs.Common.{◌∙◌, ◌+◌, take, drop, ap}
use Rattle.rtsp_head.specs.Marks.{start_marked, headers_marked}
use Rattle.rtsp_head.specs.Views.{start_seen}
use Rattle.rtsp_head.proofs.MarkLemmas.{head_marked}
use Rattle.rtsp_head.proofs.SoundLemmas.{read_sound}
use Rattle.rtsp_head.proofs.head.marked_head.Goals as goal

pub returns-clause-head : goal.returns-clause-head
returns-clause-head c =
    let bytes = c.args.bytes.now in
    let line = c.from-line.ensures in
    head_marked bytes c.args.start c.args.marks.now (start_seen c.start.result) c.after.result.now c.requires
    (c.start.ensures ∙ ap (λ text. start_marked text c.args.start) (c.before-2.ensures ∙ ap (λ n. take n bytes) line))
    (c.after.ensures ∙ ap (λ n. drop (n + 2) bytes) line)

pub returns-clause-writable : goal.returns-clause-writable
returns-clause-writable c =
    let bytes = c.args.bytes.now in
    let line = c.from-line.ensures in
    read_sound bytes (record { start = start_seen c.start.result; headers = headers_marked c.after.result.now c.args.marks.now })
    (head_marked bytes c.args.start c.args.marks.now (start_seen c.start.result) c.after.result.now c.requires
    (c.start.ensures ∙ ap (λ text. start_marked text c.args.start) (c.before-2.ensures ∙ ap (λ n. take n bytes) line))
    (c.after.ensures ∙ ap (λ n. drop (n + 2) bytes) line))
